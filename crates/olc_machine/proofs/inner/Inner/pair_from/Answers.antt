use Rattle.std.proofs.Common.{[], sym, subst}
use Rattle.node_table.specs.Table.{pairs_at}
use Rattle.spec_olc.specs.State.{State}
use Rattle.olc_state.specs.inner.Meant.{meant_table, meant_world}
use Rattle.olc_state.specs.inner.Turns.{ShowsNodes}
use Rattle.olc_state.specs.inner.Walks.{meant_nodes}
use Rattle.olc_state.proofs.States.{meant_state, shows}
use Rattle.olc_state.proofs.Walked.{the_content, the_tree}
use Rattle.olc_machine.specs.inner.Inside.{inside}
use Rattle.olc_machine.proofs.inner.Inner.pair_from.Goals as goal

pub pair_from-requires : goal.pair_from-requires
pair_from-requires g c =
    let store = c.args.self.now.stock.store in
    record {
      levels = 8;
      tree = record { above = []; tree = the_tree g.P.HasMeaning.meaning store.nodes.slots store.pins.slots store.root c.requires.sound.placed };
    }

pub returns : goal.returns
returns g c =
    let w = inside g.A.Allocator.charge c.args.self.now in
    let meaning = g.P.HasMeaning.meaning in
    let store = c.args.self.now.stock.store in
    let placed = c.requires.sound.placed in
    let shown = subst (λ (s : State g.P.HasMeaning.Meaning). ShowsNodes (meant_table meaning store) w.root s) (sym (meant_state meaning w)) (shows (meant_world meaning w)) in (
      pairs_at (meant_nodes meaning store.nodes.slots) 8 store.root,
      the_content meaning store.nodes.slots store.pins.slots store.root placed _ shown,
      c.pair_from.ensures 7 (record { above = []; tree = the_tree meaning store.nodes.slots store.pins.slots store.root placed }),
    )
