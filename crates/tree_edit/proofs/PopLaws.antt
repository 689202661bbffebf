-- The removal of the pair at a side, as contracts see it.
use Rattle.std.proofs.Common.{Bool, false, ◌≡◌, ℕ, ◌-◌, ◌≤◌, ◌^◌, [], Option, Some, option_map, refl, ap, sym, subst, ◌∙◌, arith, w64}
use Rattle.std.specs.Int.{from_be_bytes, to_be_bytes}
use Rattle.std.proofs.lemmas.Nat.{from_be_bytes-to_be_bytes_8}
use Rattle.node_table.specs.Charge.{Charge}
use Rattle.spec_map.specs.Map.{lookup}
use Rattle.spec_node.specs.Key.{AreBytes}
use Rattle.node_table.specs.Table.{NodeTable, pairs_at, nodes_at}
use Rattle.tree_path.specs.declared.descent.PathEnd.{PathEnd}
use Rattle.tree_path.specs.inner.Descent.{SeeksTo}
use Rattle.tree_path.specs.inner.Root.{depth}
use Rattle.tree_path.specs.inner.Supply.{SupplyView, Alike}
use Rattle.tree_edit.specs.Reduce.{LosesInPlace}
use Rattle.tree_edit.specs.Tree.{TreeView}
use Rattle.tree_edit.specs.TreeCalls.{Removes}
use Rattle.tree_edit.specs.declared.ends.Side.{Side}
use Rattle.tree_edit.specs.inner.Ends.{at_side}
use Rattle.tree_edit.specs.inner.Rise.{IsRemoval}
use Rattle.tree_edit.specs.inner.Whole.{IsWhole}
use Rattle.tree_edit.specs.inner.Writes.{NothingIsStored, IsStoredWhere}
use Rattle.tree_edit.proofs.CallLaws.{after, nothing_seen, ordered}
use Rattle.tree_edit.proofs.EndLaws.{side_inside, side_present, side_pair}
use Rattle.tree_edit.proofs.RemovedLaws.{taken_out}

pub key_bytes : (n : ℕ) → AreBytes (to_be_bytes w64 n)
key_bytes n = (omega arith, (omega arith, (omega arith, (omega arith, (omega arith, (omega arith, (omega arith, (omega arith, tt))))))))

module _ {P A : Type 0} (charge : A → Option Charge) (s : NodeTable P) (root : ℕ) (old : SupplyView A) (count : ℕ) (i : IsWhole s root old.forms count) (w : TreeView P A)
    (seen : ◌≡◌ {A = TreeView P A} (record { pairs = pairs_at s depth root; nodes = nodes_at s depth [] root; budget = old.budget }) w)
    (side : Side) (key : ℕ) (is : Some key ≡ option_map (λ e. e.0) (at_side side (pairs_at s depth root)))
    (spot : PathEnd) (ends : SeeksTo s root (to_be_bytes w64 key) spot) where
  pop_side : Some key ≡ option_map (λ e. e.0) (at_side side w.pairs)
  pop_side = rw (← seen) is

  pop_key : from_be_bytes w64 (to_be_bytes w64 key) ≡ key
  pop_key = from_be_bytes-to_be_bytes_8 key (side_inside side w.pairs 0 (2 ^ 64) key (ordered charge s root old count i w seen) pop_side)

  pub pop_found : NothingIsStored s spot.slot spot.stop → ⊥
  pop_found nothing =
      side_present side w.pairs 0 (2 ^ 64) key (ordered charge s root old count i w seen) pop_side
      (ap (λ k. lookup w.pairs k) (sym pop_key) ∙ nothing_seen charge s root old count i w seen (to_be_bytes w64 key) (key_bytes key) refl spot ends nothing)

  pub record Popped (shrinks : Bool) (t : NodeTable P) (new : SupplyView A) (v : P) : Type 0 where
    pub some : 1 ≤ count
    pub whole : IsWhole t root new.forms (count - 1)
    pub removes : Removes charge w key (Some v) (after charge s root old count i w seen t new)
    pub in_place : shrinks ≡ false → LosesInPlace w.nodes (to_be_bytes w64 key) (nodes_at t depth [] root)
    pub pair : Some (key, v) ≡ at_side side w.pairs

  pub popped : (shrinks : Bool) (t : NodeTable P) (v : P) (new : SupplyView A) → IsStoredWhere s spot.slot spot.stop v → IsRemoval s root (to_be_bytes w64 key) shrinks t new.forms → Alike charge old new → Popped shrinks t new v
  popped shrinks t v new at_key removal alike =
      let x = taken_out charge s root old count i w seen (to_be_bytes w64 key) (key_bytes key) refl spot ends shrinks t v new at_key removal alike in
      let removes : Removes charge w key (Some v) (after charge s root old count i w seen t new) = subst (λ k. Removes charge w k (Some v) (after charge s root old count i w seen t new)) pop_key x.removes in
      record {
        some = x.some;
        whole = x.whole;
        removes = removes;
        in_place = x.in_place;
        pair = side_pair side w.pairs 0 (2 ^ 64) key v (ordered charge s root old count i w seen) pop_side removes.before;
      }
