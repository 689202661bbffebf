use Rattle.std.proofs.Common.{rules, sym, ap, subst, ◌≡◌, ◌∙◌}
use Rattle.live_growth.specs.Holds.{HasRest}
use Rattle.live_growth.proofs.Locks.{alike_then}
use Rattle.live_updates.specs.Two.{PartsTwo}
use Rattle.live_updates.specs.declared.shrink_node.Fill.TheVariants.{Empty}
use Rattle.live_growth.proofs.Twos.{lower_may, lower_draft, lower_long, alike_same}
use Rattle.live_updates.proofs.Twos.{none_counted, rest_keeps}
use Rattle.live_updates.proofs.detach.detach.Goals as goal

pub fill_of-requires-clause-may : goal.fill_of-requires-clause-may
fill_of-requires-clause-may c = lower_may c.in-Some-lock_two.ensures.two.1.two

pub fill_of-requires-clause-long : goal.fill_of-requires-clause-long
fill_of-requires-clause-long c =
    let l = c.in-Some-lock_two.ensures.two.1 in
    lower_long l.two c.form_below.result (c.form_below.ensures l.two.below.shape.key l.two.below.shape.form l.named)

pub part-left-requires-clause-parts : goal.part-left-requires-clause-parts
part-left-requires-clause-parts c =
    let l = c.in-Some-lock_two.ensures.two.1 in
    let h = l.two in
    let form = c.form_below.ensures h.below.shape.key h.below.shape.form l.named in
    let empty : c.fill_of.result ≡ Empty = search rules in
    let none = none_counted c.form_below.result h.below.shape.form _ h.content (lower_draft h) form (c.fill_of.ensures.empty.0 empty) in
    subst (λ s. PartsTwo s.view s.book c.in-Some-words_at.words.now c.in-Some.words_above.now c.in-Some-lock_two.two.free c.in-Some-lock_two.two.free_above c.args.position c.args.key) (sym c.fill_of.ensures.seat.same) record { lead = l; none = none }

pub returns-in_default-fill_of : goal.returns-in_default-fill_of
returns-in_default-fill_of c =
    let v = c.args.seat.now.view in
    let l = c.lock_two.ensures in
    let same = c.fill_of.ensures.seat.same in
    let u = c.unlock_two.ensures in
    let alike = c.in-Some-lock_two.ensures.two.0 in
    let rest : HasRest v c.unlock_two.new.seat.view = record {
      own = u.rest.own;
      holds = u.rest.holds;
      alike = alike_then v c.lock_two.new.seat.view c.unlock_two.new.seat.view alike (alike_then c.lock_two.new.seat.view c.fill_of.new.seat.view c.unlock_two.new.seat.view (alike_same c.lock_two.new.seat.view c.fill_of.new.seat.view (ap (λ s. s.view) same)) u.rest.alike);
    } in
    record {
      book = u.book ∙ (ap (λ s. s.book) same ∙ l.book);
      id = u.id ∙ (ap (λ s. s.id) same ∙ l.id);
      keeps = rest_keeps v c.unlock_two.new.seat.view c.requires.rests.0 c.requires.rests.1 rest;
      seen = u.seen ∙ (ap (λ s. s.view.client.seen) same ∙ l.seen);
      named = tt;
    }
