use Rattle.std.proofs.Common.{sym, subst}
use Rattle.spec_olc.specs.State.{State}
use Rattle.olc_state.specs.inner.Meant.{meant_table, meant_world}
use Rattle.olc_state.specs.inner.Turns.{ShowsNodes}
use Rattle.olc_state.proofs.States.{meant_state, shows}
use Rattle.olc_machine.specs.inner.Inside.{inside}
use Rattle.olc_machine.proofs.inner.Inner.content.Goals as goal

pub returns : goal.returns
returns g c =
    let w = inside g.A.Allocator.charge c.args.self.now in
    let meaning = g.P.HasMeaning.meaning in
    let shown = subst (λ (s : State g.P.HasMeaning.Meaning). ShowsNodes (meant_table meaning c.args.self.now.stock.store) w.root s) (sym (meant_state meaning w)) (shows (meant_world meaning w)) in
    c.in_ok-pairs.ensures _ shown
