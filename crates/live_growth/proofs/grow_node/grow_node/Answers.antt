use Rattle.std.proofs.Common.{rules, arith, refl, sym, subst, None, ◌≡◌, ◌<◌, ◌∙◌}
use Rattle.node_base.specs.Form.{form_place}
use Rattle.node_base.specs.declared.base_node.NodeType.{NodeType}
use Rattle.live_reads.specs.Paths.{AreNamed}
use Rattle.live_growth.proofs.Linked.{when_none}
use Rattle.live_growth.proofs.Locks.{alike_then}
use Rattle.live_growth.proofs.Pairs.{few_counted}
use Rattle.live_growth.proofs.Threes.{two_on, lead_on, alike_grown}
use Rattle.live_growth.proofs.grow_node.grow_node.Goals as goal

pub unlock_two-requires : goal.unlock_two-requires
unlock_two-requires g c =
    let none : c.reclaim.result ≡ None = search rules in
    let left = when_none c.reclaim.result none c.reclaim.ensures.none in
    record { holds = two_on _ _ _ _ _ _ _ _ left.0.places left.2 left.1 c.reclaim.ensures.book c.in-Some-lock_two.ensures.two.1.two }

pub replace-requires-clause-three : goal.replace-requires-clause-three
replace-requires-clause-three g c =
    let lt = c.in-Some-lock_two.ensures in
    let rt = c.in-Some-reclaim.ensures in
    let l = lt.two.1 in
    let held = l.two.held in
    let hr = rt.reclaimed in
    let form = c.form_below-form.ensures l.two.below.shape.key l.two.below.shape.form l.named in
    let wider = c.form_below-wider.ensures hr.spot.shape.key hr.spot.shape.form hr.named in
    let more : c.place_of-2.result < c.place_of.result = search rules in
    let place = c.place_of-2.ensures.is in
    let place_wider = c.place_of.ensures.is in
    let larger : form_place c.form_below-form.result < form_place c.form_below-wider.result = omega (arith, more, place, place_wider) in
    record {
      before = c.lock_two.new.seat.view;
      lead = lead_on _ _ _ _ _ _ _ _ refl refl refl rt.book c.args.position c.args.key l;
      reclaimed = hr;
      are = subst (λ z. AreNamed z c.args.spare c.in-Some-words_at-2.others.now) (sym (rt.book ∙ (lt.book ∙ c.requires.book))) c.in-Some-words_at-2.ensures;
      resizes = (subst (λ (z : NodeType × NodeType). form_place z.0 < form_place z.1) (λ i. (form i, wider i)) larger, few_counted l.two.below.shape.form l.two.content held.its held.encodes held.in_form);
    }

pub returns-clause-grown : goal.returns-clause-grown
returns-clause-grown g c =
    let lt = c.in-Some-lock_two.ensures in
    let rt = c.in-Some-reclaim.ensures in
    let alike = alike_then c.args.seat.now.view c.lock_two.new.seat.view c.reclaim.new.seat.view lt.two.0 rt.reclaimed.alike in
    alike_grown c.args.seat.now.view c.reclaim.new.seat.view c.replace.new.seat.view alike (rt.reclaimed.seen ∙ lt.seen) c.replace.ensures.grown
