use Rattle.std.proofs.Common.{rules, sym, ap, subst, ℕ, None, List, ◌≡◌, ◌≢◌, ◌≤◌, ◌∙◌}
use Rattle.node_base.specs.Form.{limit, smaller_form}
use Rattle.node_base.specs.declared.base_node.NodeType.{NodeType}
use Rattle.node_base.specs.declared.base_node.NodeType.TheVariants.{N4}
use Rattle.live_layout.specs.Encodes.{counted, most}
use Rattle.live_nodes.specs.Views.{View}
use Rattle.live_reads.specs.Paths.{AreNamed}
use Rattle.live_growth.specs.Holds.{Alike}
use Rattle.live_growth.proofs.Linked.{when_none}
use Rattle.live_growth.proofs.Locks.{alike_then}
use Rattle.live_growth.proofs.FreeNodes.{one_form}
use Rattle.live_updates.specs.declared.shrink_node.Fill.TheVariants.{Few}
use Rattle.live_growth.proofs.Twos.{lower_may, lower_draft, lower_long, alike_same}
use Rattle.live_growth.proofs.Threes.{two_on, lead_on, rest_grown, alike_grown}
use Rattle.live_updates.proofs.Twos.{few_fit}
use Rattle.live_updates.proofs.shrink_node.shrink_node.Given.{Over}
use Rattle.live_updates.proofs.shrink_node.shrink_node.Goals as goal
use Rattle.live_updates.proofs.shrink_node.shrink_node.Goals.{In-Some-lock_two, After-fill_of}

form : (g : Over) (c : In-Some-lock_two g) → c.form_below-form.result ≡ c.in-Some-lock_two.ensures.two.1.two.below.shape.form
form g c = let l = c.in-Some-lock_two.ensures.two.1 in c.form_below-form.ensures l.two.below.shape.key l.two.below.shape.form l.named

-- THE CHILDREN WERE COUNTED: the seat knows as much as before
module _ (g : Over) (c : After-fill_of g) where
  alike : Alike c.args.seat.now.view c.fill_of.new.seat.view
  alike = alike_then c.args.seat.now.view c.lock_two.new.seat.view c.fill_of.new.seat.view c.in-Some-lock_two.ensures.two.0 (alike_same c.lock_two.new.seat.view c.fill_of.new.seat.view (ap (λ z. z.view) c.fill_of.ensures.seat.same))

  seen : c.fill_of.new.seat.view.client.seen ≡ c.args.seat.now.view.client.seen
  seen = ap (λ z. z.view.client.seen) c.fill_of.ensures.seat.same ∙ c.in-Some-lock_two.ensures.seen

  book : c.fill_of.new.seat.book ≡ c.args.seat.now.book
  book = ap (λ z. z.book) c.fill_of.ensures.seat.same ∙ c.in-Some-lock_two.ensures.book

  id : c.fill_of.new.seat.id ≡ c.args.seat.now.id
  id = ap (λ z. z.id) c.fill_of.ensures.seat.same ∙ c.in-Some-lock_two.ensures.id

pub fill_of-requires-clause-may : goal.fill_of-requires-clause-may
fill_of-requires-clause-may g c = lower_may c.in-Some-lock_two.ensures.two.1.two

pub fill_of-requires-clause-long : goal.fill_of-requires-clause-long
fill_of-requires-clause-long g c = lower_long c.in-Some-lock_two.ensures.two.1.two c.form_below-form.result (form g (goal.at.fill_of-requires-clause-long g c).In-Some-lock_two)

pub returns-in_default-fill_of-clause-book : goal.returns-in_default-fill_of-clause-book
returns-in_default-fill_of-clause-book g c =
    let a = (goal.at.returns-in_default-fill_of-clause-book g c).After-fill_of in
    let u = c.unlock_two.ensures in
    u.book ∙ book g a

pub returns-in_default-fill_of-clause-id : goal.returns-in_default-fill_of-clause-id
returns-in_default-fill_of-clause-id g c =
    let a = (goal.at.returns-in_default-fill_of-clause-id g c).After-fill_of in
    let u = c.unlock_two.ensures in
    u.id ∙ id g a

pub returns-in_default-fill_of-clause-grown : goal.returns-in_default-fill_of-clause-grown
returns-in_default-fill_of-clause-grown g c =
    let a = (goal.at.returns-in_default-fill_of-clause-grown g c).After-fill_of in
    let u = c.unlock_two.ensures in
    rest_grown c.args.seat.now.view c.fill_of.new.seat.view c.unlock_two.new.seat.view (alike g a) (seen g a) u.rest u.seen

pub returns-in_default-fill_of-clause-room : goal.returns-in_default-fill_of-clause-room
returns-in_default-fill_of-clause-room g c =
    let a = (goal.at.returns-in_default-fill_of-clause-room g c).After-fill_of in
    let u = c.unlock_two.ensures in
    u.rest.alike.room ∙ (alike g a).room

pub unlock_two-requires-in_default-reclaim : goal.unlock_two-requires-in_default-reclaim
unlock_two-requires-in_default-reclaim g c =
    let same = c.fill_of.ensures.seat.same in
    let none : c.reclaim.result ≡ None = search rules in
    let left = when_none c.reclaim.result none c.reclaim.ensures.none in
    record { holds = two_on _ _ _ _ _ _ _ _ (left.0.places ∙ ap (λ z. z.view.places) same) (left.2 ∙ ap (λ z. z.view.holds) same) (left.1 ∙ ap (λ z. z.view.client) same) (c.reclaim.ensures.book ∙ ap (λ z. z.book) same) c.in-Some-lock_two.ensures.two.1.two }

pub returns-in_default-reclaim-clause-book : goal.returns-in_default-reclaim-clause-book
returns-in_default-reclaim-clause-book g c =
    let a = (goal.at.returns-in_default-reclaim-clause-book g c).After-fill_of in
    let rt = c.reclaim.ensures in
    let u = c.unlock_two-in_default-reclaim.ensures in
    u.book ∙ (rt.book ∙ book g a)

pub returns-in_default-reclaim-clause-id : goal.returns-in_default-reclaim-clause-id
returns-in_default-reclaim-clause-id g c =
    let a = (goal.at.returns-in_default-reclaim-clause-id g c).After-fill_of in
    let rt = c.reclaim.ensures in
    let u = c.unlock_two-in_default-reclaim.ensures in
    u.id ∙ (rt.id ∙ id g a)

pub returns-in_default-reclaim-clause-grown : goal.returns-in_default-reclaim-clause-grown
returns-in_default-reclaim-clause-grown g c =
    let a = (goal.at.returns-in_default-reclaim-clause-grown g c).After-fill_of in
    let rt = c.reclaim.ensures in
    let none : c.reclaim.result ≡ None = search rules in
    let left = when_none c.reclaim.result none rt.none in
    let u = c.unlock_two-in_default-reclaim.ensures in
    let alike_o = alike_then c.args.seat.now.view c.fill_of.new.seat.view c.reclaim.new.seat.view (alike g a) left.0 in
    rest_grown c.args.seat.now.view c.reclaim.new.seat.view c.unlock_two-in_default-reclaim.new.seat.view alike_o (ap (λ (z : View). z.seen) left.1 ∙ seen g a) u.rest u.seen

pub returns-in_default-reclaim-clause-room : goal.returns-in_default-reclaim-clause-room
returns-in_default-reclaim-clause-room g c =
    let a = (goal.at.returns-in_default-reclaim-clause-room g c).After-fill_of in
    let rt = c.reclaim.ensures in
    let none : c.reclaim.result ≡ None = search rules in
    let left = when_none c.reclaim.result none rt.none in
    let u = c.unlock_two-in_default-reclaim.ensures in
    let alike_o = alike_then c.args.seat.now.view c.fill_of.new.seat.view c.reclaim.new.seat.view (alike g a) left.0 in
    u.rest.alike.room ∙ alike_o.room

pub replace-requires-clause-three : goal.replace-requires-clause-three
replace-requires-clause-three g c =
    let a = (goal.at.replace-requires-clause-three g c).After-fill_of in
    let is = form g (goal.at.replace-requires-clause-three g c).In-Some-lock_two in
    let same = c.fill_of.ensures.seat.same in
    let rt = c.in-Some-reclaim.ensures in
    let hr = rt.reclaimed in
    let l = c.in-Some-lock_two.ensures.two.1 in
    let some_form : c.form_below-form.result ≢ N4 = search rules in
    let is_few : c.fill_of.result ≡ Few = search rules in
    let few = few_fit c.form_below-form.result _ some_form (c.fill_of.ensures.few is_few) in
    let kind = c.form_below-kind.ensures hr.spot.shape.key hr.spot.shape.form hr.named in
    let same_place : c.place_of.result ≡ c.place_of-2.result = search rules in
    let smaller : c.form_below-kind.result ≡ c.smaller_of.result = one_form c.form_below-kind.result c.smaller_of.result (sym c.place_of.ensures.is ∙ (same_place ∙ c.place_of-2.ensures.is)) in
    record {
      before = c.fill_of.new.seat.view;
      lead = lead_on _ _ _ _ _ _ _ _ (ap (λ z. z.view.places) same) (ap (λ z. z.view.holds) same) (ap (λ z. z.view.client) same) (rt.book ∙ ap (λ z. z.book) same) c.args.position c.args.key l;
      reclaimed = hr;
      are = subst (λ z. AreNamed z c.args.spare c.in-Some-words_at-2.others.now) (sym (rt.book ∙ (book g a ∙ c.requires.book))) c.in-Some-words_at-2.ensures;
      resizes = (
        (λ e. some_form (is ∙ e)),
        sym kind ∙ (smaller ∙ (c.smaller_of.ensures ∙ ap smaller_form is)),
        subst (λ (z : NodeType × List ℕ). counted (limit z.0) z.1 ≤ most (limit (smaller_form z.0))) (λ i. (is i, lower_draft l.two i)) few,
      );
    }

pub returns-clause-book : goal.returns-clause-book
returns-clause-book g c =
    let a = (goal.at.returns-clause-book g c).After-fill_of in
    let rt = c.in-Some-reclaim.ensures in
    let e = c.replace.ensures in
    e.seat.0 ∙ (rt.book ∙ book g a)

pub returns-clause-id : goal.returns-clause-id
returns-clause-id g c =
    let a = (goal.at.returns-clause-id g c).After-fill_of in
    let rt = c.in-Some-reclaim.ensures in
    let e = c.replace.ensures in
    e.seat.1 ∙ (rt.id ∙ id g a)

pub returns-clause-grown : goal.returns-clause-grown
returns-clause-grown g c =
    let a = (goal.at.returns-clause-grown g c).After-fill_of in
    let rt = c.in-Some-reclaim.ensures in
    let e = c.replace.ensures in
    let alike_o = alike_then c.args.seat.now.view c.fill_of.new.seat.view c.reclaim.new.seat.view (alike g a) rt.reclaimed.alike in
    alike_grown c.args.seat.now.view c.reclaim.new.seat.view c.replace.new.seat.view alike_o (rt.reclaimed.seen ∙ seen g a) e.grown

pub returns-clause-room : goal.returns-clause-room
returns-clause-room g c =
    let a = (goal.at.returns-clause-room g c).After-fill_of in
    let rt = c.in-Some-reclaim.ensures in
    let e = c.replace.ensures in
    e.room ∙ (rt.reclaimed.alike.room ∙ (alike g a).room)
