-- Where a descent ended in a table of links: what `tree_edit` states of an end, by the end that is seen. Only private
-- contracts cite this.
use Rattle.std.specs.Prelude.{◌≡◌, ℕ, List, length, Option}
use Rattle.spec_node.specs.Key.{AreBytes}
use Rattle.node_table.specs.Table.{NodeTable}
use Rattle.tree_path.specs.inner.Descent.{SeeksTo}
use Rattle.tree_path.specs.inner.Root.{HasRoot, tree_nodes}
use Rattle.tree_path.specs.inner.Supply.{IsCounted}
use Rattle.tree_path.specs.declared.supply.FormCounts.{FormCounts}
use Rattle.tree_edit.specs.inner.Writes.{Exchanges, HasLeafFor, IsStoredWhere, NothingIsStored, RefusesHere, Sets}
use Rattle.tree_links.specs.Seeks.{seen_end, KnowsPair}
use Rattle.tree_links.specs.declared.descent.LinkEnd.{LinkEnd}

module _ {P : Type 0} (s : NodeTable P) (key : List ℕ) (e : LinkEnd) where
  -- the descent ended at a leaf where it says so, and what it says of a pair is so
  pub record IsSpot : Type 0 where
    pub leaf : HasLeafFor s (seen_end key e).slot (seen_end key e).stop
    pub pair : KnowsPair s key e

  -- this is the key's payload there, and the key has none
  abbrev pub HasThere : P → Type 0
  HasThere v = IsStoredWhere s (seen_end key e).slot (seen_end key e).stop v

  abbrev pub LacksThere : Type 0
  LacksThere = NothingIsStored s (seen_end key e).slot (seen_end key e).stop

  -- memory may be refused there
  abbrev pub MayRefuse : Type 0
  MayRefuse = RefusesHere s (seen_end key e).slot (seen_end key e).stop

  -- this payload takes the place of another, or of that one or none
  abbrev pub ExchangesThere : NodeTable P → P → Type 0
  ExchangesThere t v = Exchanges s t (seen_end key e).slot (seen_end key e).stop v

  abbrev pub SetsThere : NodeTable P → P → Option P → Type 0
  SetsThere t v before = Sets s t (seen_end key e).slot (seen_end key e).stop v before

  -- the descent in a tree whose nodes are counted ended there, and the key is absent
  pub record EndsAbsent (root : ℕ) (forms : FormCounts) : Type 0 where
    pub bytes : AreBytes key
    pub full : length key ≡ 8
    pub rooted : HasRoot s root
    pub counted : IsCounted forms (tree_nodes s root)
    pub ends : SeeksTo s root key (seen_end key e)
    pub pair : KnowsPair s key e
    pub nothing : LacksThere
