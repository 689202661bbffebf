use Rattle.std.proofs.Common.{◌≡◌, fold, take}
use Rattle.spec_map.specs.Map.{put}
use Rattle.tree_path.specs.inner.Root.{tree_pairs}
use Rattle.tree_path.specs.inner.Supply.{Alike}
use Rattle.tree_edit.specs.inner.Beside.{IsReached}
use Rattle.tree_edit.specs.inner.Whole.{IsWhole}
use Rattle.tree_links.specs.SeenTable.{name_of}
use Rattle.tree_edit.specs.inner.Kept.{at_end}
use Rattle.tree_edit.proofs.beside.insert_all.Given as goal

abbrev pub invariant-loop-inserted : goal.invariant-loop-inserted
invariant-loop-inserted g l =
    IsWhole l.nodes.table (name_of l.root) l.supply.forms l.count
    × IsReached l.nodes.table (name_of l.root) (at_end l.last)
    × (tree_pairs l.nodes.table (name_of l.root) ≡ fold (λ es e. put es (g.K.Word.number e.0) (g.V.Word.number e.1)) (tree_pairs l.fn.nodes.table (name_of l.root)) (take l.inserted l.pairs))
    × Alike g.A.Allocator.charge l.fn.supply l.supply
