use Rattle.std.proofs.Common.{rules, [], ◌≡◌, length}
use Rattle.node_stats.specs.LevelCounts.{capped}
use Rattle.node_stats.specs.Stats.{IsTally}
use Rattle.node_stats.specs.Visits.{visits_below}
use Rattle.tree_path.specs.inner.Root.{depth}
use Rattle.node_stats.proofs.EntryLaws.{entries_counted}
use Rattle.tree_walk.proofs.VisitedLaws.{count_root, whole_sums}
use Rattle.congee_tree.proofs.tree.RawCongee.stats.Goals as goal

pub returns : goal.returns
returns g c =
    let t = c.table-root.ensures in
    let levels : IsTally (visits_below 0 c.args.self.now.nodes) c.add_pairs.new.self.levels = rw (c.add_pairs.ensures.levels, ← c.self.view_is, ← t.nodes) (count_root _ _ _ _ t.tree c.empty-stats.ensures.tally c.in_ok-count_subtree.ensures.counted) in
    let pairs : c.add_pairs.new.self.kv_pairs ≡ capped (length c.args.self.now.pairs) = search rules in
    record {
      levels = levels;
      pairs = pairs;
      entries = λ stays few.
          whole_sums _ _ c.args.self.now.nodes _ levels
          (rw (← c.self.view_is, ← t.pairs, ← t.nodes) (entries_counted _ depth [] _ t.tree)) pairs stays few;
    }
