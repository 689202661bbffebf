use Rattle.std.proofs.Common.{rules, sym, subst, refl, ℕ, Option, Result, None, Some, ◌≡◌, ◌∙◌}
use Rattle.std.specs.Option.{option_map}
use Rattle.live_nodes.specs.Tree.{Answers}
use Rattle.live_growth.proofs.Ready.{made_call}
use Rattle.live_updates.specs.Entries.{swapped}
use Rattle.live_updates.specs.inner.Lookups.{EndsBy}
use Rattle.live_updates.proofs.calls.compare_exchange.Goals as goal
use Rattle.live_updates.proofs.calls.compare_exchange.Goals.{After-exchange_once}

-- how a try has ended
ends : (c : After-exchange_once) (o : Option (Result (Option ℕ) (Option ℕ))) → c.exchange_once.result ≡ o → EndsBy c.loop.guard-inside.seat.id (option_map (swapped c.loop.guard-inside.seat.id c.args.key c.args.old c.args.new) o) c.loop.guard-inside.seat.view c.exchange_once.new.seat.view
ends c o is = subst (λ z. EndsBy c.loop.guard-inside.seat.id (option_map (swapped c.loop.guard-inside.seat.id c.args.key c.args.old c.args.new) z) c.loop.guard-inside.seat.view c.exchange_once.new.seat.view) is c.exchange_once.ensures.ends

pub invariant_of-guard-in-Some : goal.invariant_of-guard-in-Some
invariant_of-guard-in-Some c = c.exchange_once.ensures.ready

pub returns-in-Some-clause-made : goal.returns-in-Some-clause-made
returns-in-Some-clause-made c =
    let i = c.loop.invariant in
    let v = c.loop.guard-inside.seat.view in
    let w = c.exchange_once.new.seat.view in
    let t = c.exchange_once.ensures in
    let answers = ends (goal.at.returns-in-Some-clause-made c).After-exchange_once (Some c.in-Some.answer) (search rules) in
    made_call c.args.guard.now c.exchange_once.new.seat.book c.exchange_once.new.seat.id v.client.seen w (λ (z : ℕ). swapped z c.args.key c.args.old c.args.new c.in-Some.answer) (λ z. refl) (t.book ∙ i.book) (t.id ∙ i.id) i.seen
    (subst (λ (z : ℕ). Answers z (swapped z c.args.key c.args.old c.args.new c.in-Some.answer) v.client.seen w.client.seen) (sym t.id) answers)

pub loop-preserved : goal.loop-preserved
loop-preserved c =
    let i = c.loop.invariant in let t = c.exchange_once.ensures in
    record { book = t.book ∙ i.book; id = t.id ∙ i.id; seen = ends (goal.at.loop-preserved c).After-exchange_once None (search rules) ∙ i.seen; ready = t.ready }
