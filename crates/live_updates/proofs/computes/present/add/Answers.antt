use Rattle.std.proofs.Common.{rules, sym, subst, refl, ℕ, Ok, Some, Option, ◌≡◌, ◌∙◌}
use Rattle.live_nodes.specs.Tree.{Answers}
use Rattle.live_growth.proofs.Ready.{made_call}
use Rattle.live_updates.specs.ClosureEntries.{inserted_with, sum_with}
use Rattle.live_updates.proofs.Tries.{stores_done}
use Rattle.live_updates.proofs.computes.present.add.Goals as goal

pub returns-in-Some-clause-made : goal.returns-in-Some-clause-made
returns-in-Some-clause-made g c =
    let i = c.loop.invariant in
    let v = c.loop.guard-inside.seat.view in
    let w = c.add_once.new.seat.view in
    let t = c.add_once.ensures in
    let id = c.loop.guard-inside.seat.id in
    let key = c.args.key in
    let before = c.in-Some.before in
    let Of : Option ℕ → ℕ → Type 0 = λ old new. new ≡ sum_with old c.args.number in
    let made : c.add_once.result ≡ Ok (Some before) = search rules in
    let s = stores_done id key Of c.add_once.result before v w made t.stores in
    let value = sum_with before c.args.number in
    let answers = subst (λ (z : ℕ). Answers id (inserted_with id key before z) v.client.seen w.client.seen) s.2 s.1 in
    made_call c.args.guard.now c.add_once.new.seat.book c.add_once.new.seat.id v.client.seen w (λ (z : ℕ). inserted_with z key before value) (λ z. refl) (t.book ∙ i.book) (t.id ∙ i.id) i.seen
    (subst (λ (z : ℕ). Answers z (inserted_with z key before value) v.client.seen w.client.seen) (sym t.id) answers)
