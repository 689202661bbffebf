use Rattle.std.proofs.Common.{ℕ, ◌+◌, ◌∙◌, ap, refl}
use Rattle.tree_edit.specs.Tree.{TreeView}
use Rattle.tree_walk.proofs.ScanLaws.{range_count, range_written}
use Rattle.congee_tree.proofs.ranges.RawCongee+u64+A.range_inclusive.Goals as goal

pub returns-clause-count : goal.returns-clause-count
returns-clause-count g c =
    range_count g.E.RangeEntry.entry c.args.start (c.args.last + 1) _ _ c.table-root.ensures.tree
    _ _ _ c.scan.ensures c.args.self.now.pairs (c.table-root.ensures.pairs ∙ ap (λ (t : TreeView ℕ g.row.A.Denot). t.pairs) c.self.view_is) _ _ refl refl

pub returns-clause-written : goal.returns-clause-written
returns-clause-written g c =
    range_written g.E.RangeEntry.entry c.args.start (c.args.last + 1) _ _ c.table-root.ensures.tree
    _ _ _ c.scan.ensures c.args.self.now.pairs (c.table-root.ensures.pairs ∙ ap (λ (t : TreeView ℕ g.row.A.Denot). t.pairs) c.self.view_is) _ _ refl refl
