use Rattle.std.proofs.Common.{[], sym, subst, ap}
use Rattle.node_table.specs.Table.{pairs_at}
use Rattle.tree_path.proofs.PathEndLaws.{depth_is}
use Rattle.spec_olc.specs.State.{State}
use Rattle.olc_state.specs.inner.Meant.{meant_table, meant_world}
use Rattle.olc_state.specs.inner.Turns.{ShowsNodes}
use Rattle.olc_state.specs.inner.Walks.{meant_nodes}
use Rattle.olc_state.proofs.States.{meant_state, shows}
use Rattle.olc_state.proofs.Walked.{the_content, the_tree}
use Rattle.tree_walk.proofs.WalkLaws.{root_keys}
use Rattle.olc_machine.specs.inner.Inside.{inside}
use Rattle.olc_machine.proofs.Counted.{whole_tree}
use Rattle.olc_machine.proofs.inner.Inner.keys.Goals as goal

pub push_keys-requires : goal.push_keys-requires
push_keys-requires g c =
    let store = c.args.self.now.stock.store in
    record {
      levels = 8;
      tree = record { above = []; tree = the_tree g.P.HasMeaning.meaning store.nodes.slots store.pins.slots store.root c.requires.sound.placed };
    }

pub returns : goal.returns
returns g c =
    let w = inside g.A.Allocator.charge c.args.self.now in
    let meaning = g.P.HasMeaning.meaning in
    let store = c.args.self.now.stock.store in
    let nodes = meant_nodes meaning store.nodes.slots in
    let placed = c.requires.sound.placed in
    let shown = subst (λ (s : State g.P.HasMeaning.Meaning). ShowsNodes (meant_table meaning store) w.root s) (sym (meant_state meaning w)) (shows (meant_world meaning w)) in (
      pairs_at nodes 8 store.root,
      the_content meaning store.nodes.slots store.pins.slots store.root placed _ shown,
      root_keys nodes store.root (whole_tree meaning store.nodes.slots store.pins.slots store.root placed) g.K.Word.of_number (pairs_at nodes 8 store.root) _ _
          (ap (λ d. pairs_at nodes d store.root) depth_is) c.new-keys.ensures.items c.in_ok-push_keys.ensures,
    )
