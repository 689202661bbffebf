-- A run of removals in one leaf, or of questions. Only private contracts cite this.
use Rattle.std.specs.Prelude.{◌≡◌, ℕ, ◌+◌, ◌<◌, ◌≤◌, Bool, List, length, Some, None}
use Rattle.spec_map.specs.Map.{Pairs, lookup}
use Rattle.tree_edit.specs.Calls.{Asking, HasNoneAfter}
use Rattle.spec_node.specs.Key.{AreBytes}
use Rattle.node_table.specs.Table.{NodeTable, node_at}
use Rattle.spec_node.specs.TableNode.{TableNode}
use Rattle.tree_path.specs.inner.Descent.{IsTrail, SeeksTo}
use Rattle.tree_path.specs.declared.supply.FormCounts.{FormCounts}
use Rattle.tree_edit.specs.inner.Spots.{HasThere}
use Rattle.tree_edit.specs.inner.Whole.{IsWhole}
use Rattle.tree_links.specs.Seeks.{seen_end, KnowsPair}
use Rattle.tree_links.specs.declared.descent.LinkEnd.{LinkEnd}

-- a key's descent in a whole tree ended at the key's pair
pub record IsAtPair {P : Type 0} (s : NodeTable P) (root : ℕ) (forms : FormCounts) (count : ℕ) (key trail : List ℕ) (e : LinkEnd) : Type 0 where
  pub whole : IsWhole s root forms count
  pub bytes : AreBytes key
  pub full : length key ≡ 8
  pub ends : SeeksTo s root key (seen_end key e)
  pub pair : KnowsPair s key e
  pub on_trail : IsTrail s root key trail (e.above + 1)
  pub payload : P
  pub there : HasThere s key e payload

-- the slot's node has nothing between two bytes
abbrev pub HasNoneBetween : {P : Type 0} → NodeTable P → ℕ → ℕ → ℕ → Type 0
HasNoneBetween {P} s slot a b = (n : TableNode P) → node_at s slot ≡ Some n → (byte : ℕ) → a < byte → byte < b → lookup n.children byte ≡ None

-- from a start on pairs were asked about, and none is left before this key
pub record HasAsked {F P : Type 0} (step : F → ℕ × P → Bool → F → Type 0) (f : F) (m : Pairs P) (start : ℕ) (g : F) (n : Pairs P) (key : ℕ) : Type 0 where
  pub from : ℕ
  pub order : from ≤ key
  pub none : HasNoneAfter n from key
  pub asks : (f' : F) (first : Pairs P) → Asking step f' first f m start → Asking step f' first g n from
