use Rattle.std.proofs.Common.{rules, sym, subst, refl, ℕ, Option, None, Some, ◌≡◌, ◌∙◌}
use Rattle.std.specs.Option.{option_map}
use Rattle.live_nodes.specs.Tree.{Answers}
use Rattle.live_growth.proofs.Ready.{made_call}
use Rattle.live_updates.specs.Entries.{removed}
use Rattle.live_updates.specs.inner.Lookups.{EndsBy}
use Rattle.live_updates.proofs.calls.remove.Goals as goal
use Rattle.live_updates.proofs.calls.remove.Goals.{After-remove_once}

-- how a try has ended
ends : (c : After-remove_once) (o : Option (Option ℕ)) → c.remove_once.result ≡ o → EndsBy c.loop.guard-inside.seat.id (option_map (removed c.loop.guard-inside.seat.id c.args.key) o) c.loop.guard-inside.seat.view c.remove_once.new.seat.view
ends c o is = subst (λ z. EndsBy c.loop.guard-inside.seat.id (option_map (removed c.loop.guard-inside.seat.id c.args.key) z) c.loop.guard-inside.seat.view c.remove_once.new.seat.view) is c.remove_once.ensures.ends

pub invariant_of-guard-in-Some : goal.invariant_of-guard-in-Some
invariant_of-guard-in-Some c = c.remove_once.ensures.ready

pub returns-in-Some-clause-made : goal.returns-in-Some-clause-made
returns-in-Some-clause-made c =
    let i = c.loop.invariant in
    let v = c.loop.guard-inside.seat.view in
    let w = c.remove_once.new.seat.view in
    let t = c.remove_once.ensures in
    let answers = ends (goal.at.returns-in-Some-clause-made c).After-remove_once (Some c.in-Some.before) (search rules) in
    made_call c.args.guard.now c.remove_once.new.seat.book c.remove_once.new.seat.id v.client.seen w (λ (z : ℕ). removed z c.args.key c.in-Some.before) (λ z. refl) (t.book ∙ i.book) (t.id ∙ i.id) i.seen
    (subst (λ (z : ℕ). Answers z (removed z c.args.key c.in-Some.before) v.client.seen w.client.seen) (sym t.id) answers)

pub loop-preserved : goal.loop-preserved
loop-preserved c =
    let i = c.loop.invariant in let t = c.remove_once.ensures in
    record { book = t.book ∙ i.book; id = t.id ∙ i.id; seen = ends (goal.at.loop-preserved c).After-remove_once None (search rules) ∙ i.seen; ready = t.ready }
