use Rattle.std.proofs.Common.{ℕ, ◌+◌, ◌∙◌, ap}
use Rattle.tree_edit.specs.Tree.{TreeView}
use Rattle.tree_walk.proofs.ScanDownLaws.{down_count, down_written}
use Rattle.congee_tree.proofs.ranges.RawCongee+u64+A.range_descending.Goals as goal

pub returns-clause-count : goal.returns-clause-count
returns-clause-count g c =
    down_count g.E.RangeEntry.entry c.args.start (c.args.last + 1) _ _ c.table-root.ensures.tree
    _ _ _ c.scan_down.ensures c.args.self.now.pairs (c.table-root.ensures.pairs ∙ ap (λ (t : TreeView ℕ g.row.A.Denot). t.pairs) c.self.view_is)

pub returns-clause-written : goal.returns-clause-written
returns-clause-written g c =
    down_written g.E.RangeEntry.entry c.args.start (c.args.last + 1) _ _ c.table-root.ensures.tree
    _ _ _ c.scan_down.ensures c.args.self.now.pairs (c.table-root.ensures.pairs ∙ ap (λ (t : TreeView ℕ g.row.A.Denot). t.pairs) c.self.view_is)
