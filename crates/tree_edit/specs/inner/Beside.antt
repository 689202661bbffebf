-- Insertions of many pairs, each of which may begin at the leaf of the one before.
use Rattle.std.specs.Prelude.{◌≡◌, ℕ, List, Option}
use Rattle.node_table.specs.Charge.{Charge}
use Rattle.node_table.specs.Table.{NodeTable}
use Rattle.spec_map.specs.Map.{put}
use Rattle.spec_map.specs.Refusal.{NeedsNode}
use Rattle.tree_edit.specs.inner.Whole.{IsWhole}
use Rattle.tree_path.specs.inner.Descent.{LeadsTo}
use Rattle.tree_path.specs.inner.Root.{tree_pairs}
use Rattle.tree_path.specs.inner.Supply.{SupplyView, Alike}
use Rattle.tree_path.specs.declared.descent.PathEnd.{PathEnd}

-- some key's path leads to the node
pub record IsReached {P : Type 0} (s : NodeTable P) (root : ℕ) (last : PathEnd) : Type 0 where
  pub key : List ℕ
  pub leads : LeadsTo s root key last.above last.slot last.parent

-- what an insertion of a key by its number does to the parts of a tree, of which s and old were two
module _ {P A : Type 0} (charge : A → Option Charge) (s : NodeTable P) (old : SupplyView A) (root key : ℕ) where
  -- the pair is in the tree, and the node that is remembered is reached in it
  pub record Puts (v : P) (last : PathEnd) (t : NodeTable P) (new : SupplyView A) (count : ℕ) : Type 0 where
    pub whole : IsWhole t root new.forms count
    pub pairs : tree_pairs t root ≡ put (tree_pairs s root) key v
    pub alike : Alike charge old new
    pub reached : IsReached t root last

  -- it is refused, for a key that needs a node
  pub record Refuses (t : NodeTable P) (new : SupplyView A) (count : ℕ) : Type 0 where
    pub whole : IsWhole t root new.forms count
    pub pairs : tree_pairs t root ≡ tree_pairs s root
    pub alike : Alike charge old new
    pub needs : NeedsNode (tree_pairs t root) key
