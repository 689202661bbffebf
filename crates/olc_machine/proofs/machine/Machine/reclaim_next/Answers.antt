use Rattle.std.proofs.Common.{ℕ, IfNone, Some, true, sym, subst}
use Rattle.spec_olc.specs.Content.{IsContent}
use Rattle.spec_olc.specs.Kinds.{IsReclaim, MayReclaim, report_of}
use Rattle.spec_olc.specs.Meaning.{meant}
use Rattle.spec_olc.specs.State.{State}
use Rattle.spec_olc.specs.declared.types.Kind.TheVariants as kind
use Rattle.olc_state.specs.inner.Meant.{meant_world}
use Rattle.olc_state.specs.inner.Shown.{state_of}
use Rattle.olc_state.proofs.States.{meant_state}
use Rattle.olc_machine.specs.inner.Inside.{inside}
use Rattle.olc_machine.proofs.Reclaiming.{shown_content, shown_reclaim}
use Rattle.olc_machine.proofs.machine.Machine.reclaim_next.Goals as goal

pub returns-in-Some-clause-some : goal.returns-in-Some-clause-some
returns-in-Some-clause-some g c done =
    let w = inside g.A.Allocator.charge c.self.inside.inner in
    let after = inside g.A.Allocator.charge c.reclaim.new.self in
    let meaning = g.P.HasMeaning.meaning in
    let report = report_of kind.Reclaim (Some c.in-Some.slot) 0 true in (
      c.in-Some.slot,
      subst (λ (s : State g.row.P.Denot). IsReclaim (meant meaning s) (meant meaning (state_of after)) c.in-Some.slot report) c.self.view_is
          (shown_reclaim meaning w after c.in-Some.slot report (c.reclaim.ensures.freed done).reclaim),
    )

pub returns-in-Some-clause-content : goal.returns-in-Some-clause-content
returns-in-Some-clause-content g c done m =
    let w = inside g.A.Allocator.charge c.self.inside.inner in
    let after = inside g.A.Allocator.charge c.reclaim.new.self in
    let meaning = g.P.HasMeaning.meaning in
    subst (λ (s : State g.row.P.Denot). IsContent (meant meaning s) m → IsContent (meant meaning (state_of after)) m) c.self.view_is
    (shown_content meaning w after m ((c.reclaim.ensures.freed done).carries m))

pub returns-in-None-clause-none : goal.returns-in-None-clause-none
returns-in-None-clause-none g c kept slot =
    let w = inside g.A.Allocator.charge c.self.inside.inner in
    let meaning = g.P.HasMeaning.meaning in
    let M = g.P.HasMeaning.Meaning in
    let never = subst (λ x. IfNone x ((s : ℕ) → MayReclaim (state_of (meant_world meaning w)) s → ⊥)) c.in-None.is c.reclaimable.ensures.none in
    subst (λ (s : State g.row.P.Denot). MayReclaim (meant meaning s) slot → ⊥) c.self.view_is
    (subst (λ (s : State M). MayReclaim s slot → ⊥) (sym (meant_state meaning w)) (never slot))
