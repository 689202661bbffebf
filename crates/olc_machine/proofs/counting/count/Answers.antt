use Rattle.std.proofs.Common.{[], subst}
use Rattle.node_stats.specs.Stats.{IsTally}
use Rattle.node_stats.specs.Visits.{visits_below}
use Rattle.olc_state.specs.inner.Walks.{meant_nodes}
use Rattle.tree_walk.proofs.VisitedLaws.{count_root}
use Rattle.olc_machine.proofs.Counted.{below_none, same_reachable, whole_tree}
use Rattle.olc_machine.proofs.counting.count.Goals as goal

pub count_subtree-requires : goal.count_subtree-requires
count_subtree-requires g c =
    let store = c.args.store.now in
    record { above = []; tree = below_none g.P.HasMeaning.meaning store.nodes.slots store.pins.slots store.root c.requires.placed }

pub returns-clause-levels : goal.returns-clause-levels
returns-clause-levels g c = λ s shows.
    let store = c.args.store.now in
    let meaning = g.P.HasMeaning.meaning in
    subst (λ ns. IsTally (visits_below 0 ns) c.count_subtree.new.stats.levels) (same_reachable meaning store.nodes.slots store.pins.slots store.root c.requires.placed s shows)
    (count_root (meant_nodes meaning store.nodes.slots) store.root _ _ (whole_tree meaning store.nodes.slots store.pins.slots store.root c.requires.placed) c.empty-stats.ensures.tally c.in_ok-count_subtree.ensures.counted)
