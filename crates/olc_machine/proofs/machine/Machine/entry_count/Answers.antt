use Rattle.std.proofs.Common.{◌≡◌, length, sym, subst}
use Rattle.spec_map.specs.Map.{Pairs}
use Rattle.spec_olc.specs.Content.{IsContent}
use Rattle.spec_olc.specs.Meaning.{meant}
use Rattle.spec_olc.specs.State.{State}
use Rattle.olc_state.specs.inner.Meant.{meant_table, meant_world}
use Rattle.olc_state.specs.inner.Turns.{ShowsNodes}
use Rattle.olc_state.proofs.States.{meant_state, shows}
use Rattle.olc_state.proofs.Walked.{placed_content}
use Rattle.olc_machine.specs.inner.Inside.{inside}
use Rattle.olc_machine.proofs.machine.Machine.entry_count.Goals as goal

pub returns-clause-content : goal.returns-clause-content
returns-clause-content g c =
    let inner = c.self.inside.inner in
    let w = inside g.A.Allocator.charge inner in
    let meaning = g.P.HasMeaning.meaning in
    let M = g.P.HasMeaning.Meaning in
    let shown = subst (λ (s : State M). ShowsNodes (meant_table meaning inner.stock.store) w.root s) (sym (meant_state meaning w)) (shows (meant_world meaning w)) in
    let there = placed_content meaning w.slots w.pins.slots w.root c.self.invariant.placed _ shown in
    let counted = c.self.invariant.counted there.0 (subst (λ (s : State M). IsContent s there.0) (meant_state meaning w) there.1) in
    subst (λ (s : State g.row.P.Denot). (m : Pairs M) × IsContent (meant meaning s) m × (inner.stock.entries ≡ length m)) c.self.view_is
    (there.0, there.1, counted)
