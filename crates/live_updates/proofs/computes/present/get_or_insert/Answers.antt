use Rattle.std.proofs.Common.{rules, sym, subst, refl, ℕ, Ok, Some, unwrap_or, Option, ◌≡◌, ◌∙◌}
use Rattle.live_nodes.specs.Tree.{Answers}
use Rattle.live_growth.proofs.Ready.{made_call}
use Rattle.live_updates.specs.ClosureEntries.{inserted_with}
use Rattle.live_updates.proofs.Tries.{stores_done}
use Rattle.live_updates.proofs.computes.present.get_or_insert.Goals as goal

pub returns-in-Some-clause-made : goal.returns-in-Some-clause-made
returns-in-Some-clause-made g c =
    let i = c.loop.invariant in
    let v = c.loop.guard-inside.seat.view in
    let w = c.keep_once.new.seat.view in
    let t = c.keep_once.ensures in
    let id = c.loop.guard-inside.seat.id in
    let key = c.args.key in
    let found = c.in-Some.found in
    let Of : Option ℕ → ℕ → Type 0 = λ old new. new ≡ unwrap_or old c.args.value in
    let made : c.keep_once.result ≡ Ok (Some found) = search rules in
    let s = stores_done id key Of c.keep_once.result found v w made t.stores in
    let value = unwrap_or found c.args.value in
    let answers = subst (λ (z : ℕ). Answers id (inserted_with id key found z) v.client.seen w.client.seen) s.2 s.1 in
    made_call c.args.guard.now c.keep_once.new.seat.book c.keep_once.new.seat.id v.client.seen w (λ (z : ℕ). inserted_with z key found value) (λ z. refl) (t.book ∙ i.book) (t.id ∙ i.id) i.seen
    (subst (λ (z : ℕ). Answers z (inserted_with z key found value) v.client.seen w.client.seen) (sym t.id) answers)
