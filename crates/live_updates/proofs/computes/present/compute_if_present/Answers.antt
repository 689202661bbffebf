use Rattle.std.proofs.Common.{rules, sym, subst, refl, ℕ, Option, None, Some, IfSome, ◌≡◌, ◌∙◌}
use Rattle.std.specs.Option.{option_map}
use Rattle.live_nodes.specs.Tree.{Answers}
use Rattle.live_growth.proofs.Ready.{made_call}
use Rattle.live_updates.specs.inner.Lookups.{EndsBy}
use Rattle.live_updates.specs.Closures.{Reaches, EndsWithCall}
use Rattle.live_updates.specs.ClosureEntries.{computed_with}
use Rattle.live_updates.proofs.Reached.{asked_on, calls_on}
use Rattle.live_updates.proofs.computes.present.compute_if_present.Given.{Over}
use Rattle.live_updates.proofs.computes.present.compute_if_present.Goals as goal
use Rattle.live_updates.proofs.computes.present.compute_if_present.Goals.{After-present_once}

-- how a try has ended
module _ (g : Over) (c : After-present_once g) where
  reached : Reaches (goal.F-step g) c.args.f.now c.present_once.new.f
  reached = calls_on (goal.F-step g) c.args.f.now c.loop.f c.present_once.new.f c.loop.invariant.reached c.present_once.ensures.reached

  ends : (o : Option (Option (ℕ × Option ℕ))) → c.present_once.result ≡ o → EndsBy c.loop.guard-inside.seat.id (option_map (computed_with c.loop.guard-inside.seat.id c.args.key) o) c.loop.guard-inside.seat.view c.present_once.new.seat.view
  ends o is = subst (λ z. EndsBy c.loop.guard-inside.seat.id (option_map (computed_with c.loop.guard-inside.seat.id c.args.key) z) c.loop.guard-inside.seat.view c.present_once.new.seat.view) is c.present_once.ensures.ends

pub invariant_of-guard-in-Some : goal.invariant_of-guard-in-Some
invariant_of-guard-in-Some g c = c.present_once.ensures.ready

pub returns-in-Some-clause-reached : goal.returns-in-Some-clause-reached
returns-in-Some-clause-reached g c = reached g (goal.at.returns-in-Some-clause-reached g c).After-present_once

pub returns-in-Some-clause-asked : goal.returns-in-Some-clause-asked
returns-in-Some-clause-asked g c =
    let made : c.present_once.result ≡ Some c.in-Some.both = search rules in
    let asked = subst (λ z. IfSome z (λ both. IfSome both (λ pair. EndsWithCall (goal.F-step g) c.loop.f pair.0 pair.1 c.present_once.new.f))) made c.present_once.ensures.asked in
    asked_on (goal.F-step g) c.args.f.now c.loop.f c.present_once.new.f c.in-Some.both c.loop.invariant.reached asked

pub returns-in-Some-clause-made : goal.returns-in-Some-clause-made
returns-in-Some-clause-made g c =
    let i = c.loop.invariant in
    let v = c.loop.guard-inside.seat.view in
    let w = c.present_once.new.seat.view in
    let t = c.present_once.ensures in
    let answers = ends g (goal.at.returns-in-Some-clause-made g c).After-present_once (Some c.in-Some.both) (search rules) in
    made_call c.args.guard.now c.present_once.new.seat.book c.present_once.new.seat.id v.client.seen w (λ (z : ℕ). computed_with z c.args.key c.in-Some.both) (λ z. refl) (t.book ∙ i.book) (t.id ∙ i.id) i.seen
    (subst (λ (z : ℕ). Answers z (computed_with z c.args.key c.in-Some.both) v.client.seen w.client.seen) (sym t.id) answers)

pub loop-preserved : goal.loop-preserved
loop-preserved g c =
    let a = (goal.at.loop-preserved g c).After-present_once in
    let i = c.loop.invariant in let t = c.present_once.ensures in
    record {
      book = t.book ∙ i.book;
      id = t.id ∙ i.id;
      seen = ends g a None (search rules) ∙ i.seen;
      ready = t.ready;
      callable = c.present_once.ensures.callable;
      reached = reached g a;
    }
