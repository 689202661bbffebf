-- What is ready for a new key's pair, and what becomes of it. Only private contracts cite this.
use Rattle.std.specs.Prelude.{◌≢◌, ℕ, ◌<◌, List, None, slice_index}
use Rattle.node_table.specs.Table.{NodeTable}
use Rattle.tree_path.specs.declared.supply.FormCounts.{FormCounts}
use Rattle.tree_links.specs.LeafCalls.{HasRoomFor, SetsPayload}
use Rattle.tree_links.specs.PairCalls.{GetsLeaf, HasBelow, IsOpenFor}
use Rattle.tree_links.specs.SameTree.{GoesOnAt}
use Rattle.tree_links.specs.SeenTable.{name_of, name_under}
use Rattle.tree_links.specs.Spares.{HasSpare}
use Rattle.tree_links.specs.SplitsChild.{IsParted}
use Rattle.tree_links.specs.SplitsTree.{SplitsTree}
use Rattle.tree_edit.specs.declared.insertion.Ready.{Ready}
use Rattle.tree_edit.specs.declared.insertion.Ready.TheVariants.{Leaf, Place, Beside, Above}
use Rattle.tree_edit.specs.inner.Gains.{GainsPair}

module _ {P : Type 0} where
  -- a node goes above the one at `old`, which is at `parent` under this byte, since the key leaves its prefix at this place
  pub record MayPart (s : NodeTable P) (free parent byte old : ℕ) (key : List ℕ) (at : ℕ) : Type 0 where
    pub below : HasBelow s parent byte old
    pub apart : old ≢ parent
    pub parted : IsParted s old key at
    pub early : at < 7
    pub two : 1 < free

  -- the pair can be put there
  abbrev pub MayPut : NodeTable P → ℕ → List ℕ → Ready P → Type 0
  MayPut s free key (Leaf i) = HasRoomFor s (name_of i) (slice_index key 7)
  MayPut s free key (Place i b spare) = IsOpenFor s (name_of i) b key × (0 < free) × HasSpare s (name_of i) spare
  MayPut s free key (Beside i b at) = MayPart s free (name_of i) b (name_under i b) key at
  MayPut s free key (Above p b i at) = MayPart s free (name_of p) b (name_of i) key at

  -- a split, as the trees that the key's path leads through see it
  abbrev pub PartsTree : NodeTable P → NodeTable P → ℕ → ℕ → ℕ → List ℕ → ℕ → P → Type 0
  PartsTree s t parent byte old key at v =
      (root : ℕ) → GoesOnAt s root key parent byte → SplitsTree s t root old key at v

  -- it is there
  abbrev pub Puts : NodeTable P → NodeTable P → List ℕ → Ready P → P → Type 0
  Puts s t key (Leaf i) v = SetsPayload s t (name_of i) (slice_index key 7) v None
  Puts s t key (Place i b spare) v = GetsLeaf s t (name_of i) b (name_under i b) key v
  Puts s t key (Beside i b at) v = PartsTree s t (name_of i) b (name_under i b) key at v
  Puts s t key (Above p b i at) v = PartsTree s t (name_of p) b (name_of i) key at v

  -- WHAT IS READY, in g: whatever pair of the key is put there, the tree of s has it then
  abbrev pub IsReady : NodeTable P → NodeTable P → ℕ → List ℕ → Ready P → FormCounts → Type 0
  IsReady s g root key ready forms =
      (t : NodeTable P) (v : P) → Puts g t key ready v → GainsPair s t root key v forms
