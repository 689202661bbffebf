use Rattle.std.proofs.Common.{◌↔◌, IsTrue, Some, true, sym, subst}
use Rattle.spec_olc.specs.Content.{IsContent}
use Rattle.spec_olc.specs.Kinds.{IsReclaim, MayReclaim, report_of}
use Rattle.spec_olc.specs.Meaning.{meant}
use Rattle.spec_olc.specs.State.{State}
use Rattle.spec_olc.specs.declared.types.Kind.TheVariants as kind
use Rattle.olc_state.specs.inner.Shown.{state_of}
use Rattle.olc_state.proofs.States.{meant_state}
use Rattle.olc_machine.specs.inner.Inside.{inside}
use Rattle.olc_machine.proofs.Reclaiming.{shown_content, shown_reclaim}
use Rattle.olc_machine.proofs.machine.Machine.reclaim.Goals as goal

pub returns-clause-exactly : goal.returns-clause-exactly
returns-clause-exactly g c =
    let w = inside g.A.Allocator.charge c.self.inside.inner in
    let meaning = g.P.HasMeaning.meaning in
    subst (λ (s : State g.row.P.Denot). IsTrue c.reclaim.result ↔ MayReclaim (meant meaning s) c.args.slot) c.self.view_is
    (subst (λ (s : State g.P.HasMeaning.Meaning). IsTrue c.reclaim.result ↔ MayReclaim s c.args.slot) (sym (meant_state meaning w)) c.reclaim.ensures.exactly)

pub returns-clause-event : goal.returns-clause-event
returns-clause-event g c done =
    let w = inside g.A.Allocator.charge c.self.inside.inner in
    let after = inside g.A.Allocator.charge c.reclaim.new.self in
    let meaning = g.P.HasMeaning.meaning in
    let report = report_of kind.Reclaim (Some c.args.slot) 0 true in
    subst (λ (s : State g.row.P.Denot). IsReclaim (meant meaning s) (meant meaning (state_of after)) c.args.slot report) c.self.view_is
    (shown_reclaim meaning w after c.args.slot report (c.reclaim.ensures.freed done).reclaim)

pub returns-clause-content : goal.returns-clause-content
returns-clause-content g c done m =
    let w = inside g.A.Allocator.charge c.self.inside.inner in
    let after = inside g.A.Allocator.charge c.reclaim.new.self in
    let meaning = g.P.HasMeaning.meaning in
    subst (λ (s : State g.row.P.Denot). IsContent (meant meaning s) m → IsContent (meant meaning (state_of after)) m) c.self.view_is
    (shown_content meaning w after m ((c.reclaim.ensures.freed done).carries m))
