-- An insertion of a new key, as contracts see it.
use Rattle.std.proofs.Common.{◌≡◌, ℕ, ◌+◌, List, [], length, Option, None, refl, sym}
use Rattle.std.specs.Int.{from_be_bytes, to_be_bytes, w64}
use Rattle.std.proofs.lemmas.Nat.{be_bytes_8}
use Rattle.node_table.specs.Charge.{Charge}
use Rattle.spec_node.specs.Key.{AreBytes}
use Rattle.node_table.specs.Table.{NodeTable, pairs_at, nodes_at}
use Rattle.node_table.proofs.KeyLaws.{key_number-be_bytes}
use Rattle.tree_path.specs.inner.Descent.{SeeksTo}
use Rattle.tree_path.specs.inner.Root.{depth}
use Rattle.tree_path.specs.inner.Supply.{Alike, SupplyView}
use Rattle.tree_path.specs.declared.descent.PathEnd.{PathEnd}
use Rattle.tree_edit.specs.Tree.{TreeView}
use Rattle.tree_edit.specs.inner.Whole.{IsWhole}
use Rattle.tree_edit.proofs.CallLaws.{byte_at, moves_alike, Inserted}
use Rattle.tree_edit.proofs.CountLaws.{count_new}
use Rattle.tree_edit.proofs.FilledLaws.{reshapes}
use Rattle.tree_edit.proofs.SpotLaws.{leaf_for}
use Rattle.tree_links.specs.Seeks.{seen_end, KnowsPair}
use Rattle.tree_links.specs.declared.descent.LinkEnd.{LinkEnd}
use Rattle.tree_edit.specs.inner.Gains.{GainsPair}
use Rattle.tree_edit.specs.inner.Spots.{EndsAbsent, IsSpot, LacksThere}

module _ {P : Type 0} (s : NodeTable P) (root : ℕ) (key : List ℕ) (e : LinkEnd) (ends : SeeksTo s root key (seen_end key e)) (pair : KnowsPair s key e) where
  pub spot_there : IsSpot s key e
  spot_there = record { leaf = leaf_for s root key (seen_end key e) ends; pair = pair }

module _ {P A : Type 0} (charge : A → Option Charge) (s : NodeTable P) (root : ℕ) (old : SupplyView A) (count : ℕ) (i : IsWhole s root old.forms count) (w : TreeView P A)
    (seen : ◌≡◌ {A = TreeView P A} (record { pairs = pairs_at s depth root; nodes = nodes_at s depth [] root; budget = old.budget }) w)
    (key : List ℕ) (bytes : AreBytes key) (full : length key ≡ 8) where
  bytes_again : to_be_bytes w64 (from_be_bytes w64 key) ≡ key
  bytes_again = be_bytes_8 key _ full (λ j. byte_at key bytes j) refl

  -- the pair is in the tree
  pub gained : (spot : PathEnd) (ends : SeeksTo s root key spot) (t : NodeTable P) (new : SupplyView A) (v : P) → GainsPair s t root key v new.forms → Alike charge old new
      → Inserted charge s root old count i w seen key bytes full spot ends t new (count + 1) v None
  gained spot ends t new v x alike = record {
    whole = record { tree = x.tree; rooted = x.rooted; filled = reshapes _ key _ x.shape i.filled; by_form = x.counted; counted = count_new s root i.tree _ _ _ (sym x.absent) _ i.counted _ x.pairs refl };
    was = rw (← seen, ← key_number-be_bytes key full) (sym x.absent);
    pairs = rw (← seen, ← key_number-be_bytes key full) x.pairs;
    shape = rw (← seen, bytes_again) x.shape;
    charges = rw (← seen) (moves_alike charge old new (nodes_at s depth [] root) (nodes_at t depth [] root) i.by_form x.counted alike);
  }

  -- where its key is absent
  pub ends_absent : (e : LinkEnd) → SeeksTo s root key (seen_end key e) → KnowsPair s key e → LacksThere s key e → EndsAbsent s key e root old.forms
  ends_absent e ends pair nothing = record { bytes = bytes; full = full; rooted = i.rooted; counted = i.by_form; ends = ends; pair = pair; nothing = nothing }
