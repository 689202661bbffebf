-- What a removal leaves of a whole tree, as contracts see it.
use Rattle.std.proofs.Common.{◌≡◌, ℕ, ◌-◌, ◌≤◌, List, [], length, get_or, map, Option, Some, Bool, false, refl, sym, arith, ◌+◌, ◌∙◌}
use Rattle.std.specs.Int.{from_be_bytes, to_be_bytes, w64}
use Rattle.std.proofs.lemmas.Nat.{be_bytes_8}
use Rattle.node_table.specs.Charge.{Charge}
use Rattle.spec_node.specs.Key.{AreBytes}
use Rattle.node_table.specs.Table.{NodeTable, pairs_at, nodes_at}
use Rattle.node_table.proofs.KeyLaws.{key_number-be_bytes}
use Rattle.tree_path.specs.inner.Descent.{IsTrail, SeeksTo}
use Rattle.tree_path.specs.inner.Root.{depth}
use Rattle.tree_path.specs.inner.Supply.{SupplyView, Alike}
use Rattle.tree_path.specs.declared.descent.PathEnd.{PathEnd}
use Rattle.tree_edit.specs.Reduce.{LosesInPlace}
use Rattle.tree_edit.specs.Tree.{TreeView}
use Rattle.tree_edit.specs.TreeCalls.{Removes}
use Rattle.tree_edit.specs.inner.Rise.{IsRemoval, IsWholeBefore}
use Rattle.tree_edit.specs.inner.Whole.{IsWhole}
use Rattle.tree_edit.specs.inner.Writes.{IsStoredWhere}
use Rattle.tree_edit.proofs.CallLaws.{after, byte_at, moves_alike}
use Rattle.tree_edit.proofs.CountLaws.{count_less}
use Rattle.tree_edit.proofs.FilledLaws.{loses}
use Rattle.tree_edit.proofs.SpotLaws.{stands_there}
use Rattle.tree_links.specs.SeenTable.{name_of}
use Rattle.tree_edit.proofs.SettleLaws.{at_name}

-- the trail's first slot is the root's
pub root_first : {P : Type 0} (s : NodeTable P) (root : ℕ) (key trail : List ℕ) (n : ℕ) → IsTrail s (name_of root) key (map name_of trail) (n + 1) → name_of (get_or trail 0 0) ≡ name_of root
root_first s root key trail n on = let first = on.at 0 (omega arith) in sym (at_name trail 0) ∙ first.path.2

module _ {P A : Type 0} (charge : A → Option Charge) (s : NodeTable P) (root : ℕ) (old : SupplyView A) (count : ℕ) (i : IsWhole s root old.forms count) (w : TreeView P A)
    (seen : ◌≡◌ {A = TreeView P A} (record { pairs = pairs_at s depth root; nodes = nodes_at s depth [] root; budget = old.budget }) w) (key : List ℕ) (bytes : AreBytes key) (full : length key ≡ 8) where
  pub whole_before : (trail : List ℕ) (above : ℕ) → IsTrail s root key trail (above + 1) → IsWholeBefore s root key trail above old.forms
  whole_before trail above on = record { tree = i.tree; rooted = i.rooted; bytes = bytes; full = full; on_trail = on; counted = i.by_form }

  bytes_again : to_be_bytes w64 (from_be_bytes w64 key) ≡ key
  bytes_again = be_bytes_8 key _ full (λ k. byte_at key bytes k) refl

  module _ (spot : PathEnd) (ends : SeeksTo s root key spot) where
    -- the pair is removed
    pub record TakenOut (shrinks : Bool) (t : NodeTable P) (new : SupplyView A) (v : P) : Type 0 where
      pub some : 1 ≤ count
      pub whole : IsWhole t root new.forms (count - 1)
      pub removes : Removes charge w (from_be_bytes w64 key) (Some v) (after charge s root old count i w seen t new)
      pub in_place : shrinks ≡ false → LosesInPlace w.nodes key (nodes_at t depth [] root)

    pub taken_out : (shrinks : Bool) (t : NodeTable P) (v : P) (new : SupplyView A) → IsStoredWhere s spot.slot spot.stop v → IsRemoval s root key shrinks t new.forms → Alike charge old new → TakenOut shrinks t new v
    taken_out shrinks t v new at_key x alike =
        let there = stands_there s root key spot ends bytes full v at_key in
        let less = count_less s root i.tree _ (Some v) (sym there) _ i.counted _ x.pairs refl in
        record {
          some = omega (arith, less);
          whole = record { tree = x.tree; rooted = x.rooted; filled = loses _ key _ x.nodes i.filled; by_form = x.counted; counted = omega (arith, less) };
          removes = record {
            before = rw (← seen, ← key_number-be_bytes key full) (sym there);
            pairs = rw (← seen, ← key_number-be_bytes key full) x.pairs;
            shape = rw (← seen, bytes_again) x.nodes;
            charged = rw (← seen) (moves_alike charge old new (nodes_at s depth [] root) (nodes_at t depth [] root) i.by_form x.counted alike);
          };
          in_place = λ stays. rw (← seen) (x.nodes, x.in_place stays);
        }
