-- What is known of an inner node's keys before it is locked, by the names of its children, which were noted byte by byte.
use Rattle.std.specs.Prelude.{◌≡◌, ℕ, suc, ◌+◌, ◌*◌, ◌<◌, ◌≤◌, ◌^◌, List, length, slice_index}
use Rattle.node_base.specs.declared.base_node.NodeType.{NodeType}
use Rattle.spec_node.specs.TableNode.{TableNode}
use Rattle.spec_map.specs.Map.{Pairs, Rises, lookup}
use Rattle.live_layout.specs.Encodes.{Encodes}
use Rattle.live_nodes.specs.Levels.{Spot}
use Rattle.live_nodes.specs.Views.{Own}
use Rattle.live_copies.specs.inner.Told.{IsNoted, TellsNoted, Tells, first_of}

-- the first key of a node that has this byte: the node's height is one more than h, and its upper bytes are t
abbrev pub start_of : ℕ → ℕ → ℕ → ℕ
start_of h t b = (256 * t + b) * 256 ^ h

-- THE CHILDREN BELOW A BYTE were noted, and their pairs copied. No others are noted.
pub record HasNoted (own : List Own) (a : Spot) (b : ℕ) (table : List ℕ) (m : Pairs ℕ) : Type 0 where
  pub level : ℕ
  pub high : a.shape.height ≡ suc level
  pub long : length table ≡ 256
  pub rises : Rises (first_of a.shape) (start_of level a.shape.top b) m
  pub noted : (i : ℕ) → i < b → TellsNoted (Tells own level) a m i (slice_index table i)
  pub later : (i : ℕ) → b ≤ i → i < 256 → slice_index table i ≡ 0

-- An inner node of that form that has these words has the child that was noted under a byte.
abbrev pub HasNamed : List ℕ → NodeType → ℕ → ℕ → Type 0
HasNamed c form byte name = (n : TableNode ℕ) → Encodes c n → n.form ≡ form → length n.prefix < 7 → IsNoted (lookup n.children byte) name
