use Rattle.std.proofs.Common.{rules, sym, subst, refl, ℕ, Option, ◌∙◌}
use Rattle.live_nodes.specs.Tree.{Answers}
use Rattle.live_growth.proofs.Ready.{made_call}
use Rattle.live_updates.specs.Closures.{Reaches, EndsWithCall}
use Rattle.live_updates.specs.ClosureEntries.{inserted_with}
use Rattle.live_updates.proofs.Tries.{stores_done, stores_not}
use Rattle.live_updates.proofs.Reached.{calls_on, last_on}
use Rattle.live_updates.proofs.computes.present.compute_or_insert.Given.{Over}
use Rattle.live_updates.proofs.computes.present.compute_or_insert.Goals as goal
use Rattle.live_updates.proofs.computes.present.compute_or_insert.Goals.{After-always_once}

-- a try has ended
module _ (g : Over) (c : After-always_once g) where
  reached : Reaches (goal.F-step g) c.args.f.now c.always_once.new.f
  reached = calls_on (goal.F-step g) c.args.f.now c.loop.f c.always_once.new.f c.loop.invariant.reached c.always_once.ensures.reached

  -- by a last call of the closure
  abbrev Last : Option ℕ → ℕ → Type 0
  Last old new = EndsWithCall (goal.F-step g) c.loop.f old new c.always_once.new.f

pub returns-in_err-done-clause-reached : goal.returns-in_err-done-clause-reached
returns-in_err-done-clause-reached g c = reached g (goal.at.returns-in_err-done-clause-reached g c).After-always_once

pub returns-in-Some-clause-reached : goal.returns-in-Some-clause-reached
returns-in-Some-clause-reached g c = reached g (goal.at.returns-in-Some-clause-reached g c).After-always_once

pub returns-in-Some-clause-made : goal.returns-in-Some-clause-made
returns-in-Some-clause-made g c =
    let i = c.loop.invariant in
    let v = c.loop.guard-inside.seat.view in
    let w = c.always_once.new.seat.view in
    let t = c.always_once.ensures in
    let key = c.args.key in
    let before = c.in-Some.before in
    let s = stores_done c.loop.guard-inside.seat.id key (Last g (goal.at.returns-in-Some-clause-made g c).After-always_once) c.always_once.result before v w (search rules) t.stores in (
      s.0,
      made_call c.args.guard.now c.always_once.new.seat.book c.always_once.new.seat.id v.client.seen w (λ (z : ℕ). inserted_with z key before s.0) (λ z. refl) (t.book ∙ i.book) (t.id ∙ i.id) i.seen
          (subst (λ (z : ℕ). Answers z (inserted_with z key before s.0) v.client.seen w.client.seen) (sym t.id) s.1),
      last_on (goal.F-step g) c.args.f.now c.loop.f c.always_once.new.f before s.0 i.reached s.2,
    )

pub loop-preserved : goal.loop-preserved
loop-preserved g c =
    let a = (goal.at.loop-preserved g c).After-always_once in
    let i = c.loop.invariant in let t = c.always_once.ensures in
    record {
      book = t.book ∙ i.book;
      id = t.id ∙ i.id;
      seen = stores_not c.loop.guard-inside.seat.id c.args.key (Last g a) c.always_once.result c.loop.guard-inside.seat.view c.always_once.new.seat.view (search rules) t.stores ∙ i.seen;
      ready = t.ready;
      callable = c.always_once.ensures.callable;
      reached = reached g a;
    }
