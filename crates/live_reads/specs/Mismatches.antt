-- A node below another one, whose path a key leaves.
use Rattle.std.specs.Prelude.{◌≡◌, ℕ, ◌+◌, ◌-◌, ◌*◌, ◌%◌, ◌<◌, ◌≤◌, List, [], ◌∷◌, Option, Some, None}
use Rattle.spec_node.specs.TableNode.{TableNode}
use Rattle.spec_node.specs.declared.child.Child.TheVariants.{Node}
use Rattle.spec_map.specs.Map.{lookup}
use Rattle.word_book.specs.Book.{Book, Name}
use Rattle.live_nodes.specs.Nodes.{Content}
use Rattle.live_nodes.specs.Seats.{Read, read, Hold, SeatView, IsIn, Agree}
use Rattle.live_nodes.specs.Plays.{read_of}
use Rattle.live_nodes.specs.Rows.{AreOf}
use Rattle.live_layout.specs.Encodes.{Encodes, IsBelow, IsWord}
use Rattle.live_nodes.specs.Levels.{up, digit, Shape, Spot, name_of, Covers, bytes_above, place_at}
use Rattle.live_nodes.specs.Views.{View, locked, Watch, watch}
use Rattle.live_nodes.specs.Tree.{IsOf}
use Rattle.live_reads.specs.Paths.{Names}

-- the node whose word was taken last
abbrev pub first_number : List Read → ℕ
first_number [] = 0
first_number (r ∷ rs) = r.number

-- The node with that name was free by that word, and what was read of it since says that it leads on to one that the key
-- leaves. The seat watches that one.
pub record IsMismatched (v : SeatView View) (b : Book) (words : List Name) (taken name key height : ℕ) : Type 0 where
  pub names : Names v name key height
  pub are : AreOf (place_at names.spot) b words
  pub saw : List (ℕ × ℕ)
  pub reads : read_of names.spot.number v.reads ≡ Some (read names.spot.number taken saw)
  pub free : taken % 4 ≡ 0
  pub sure : (s : Shape) → IsOf names.spot s saw → s ≡ names.spot.shape
  pub word : ℕ
  pub finds : (c : Content) (n : TableNode ℕ) → Agree c saw → Encodes c n → n.form ≡ names.spot.shape.form → IsBelow (lookup n.children (digit height key)) (Some word)
  pub watch : Watch
  pub known : IsIn watch v.client.watched
  pub above : watch.above ≡ names.spot.number
  pub free_by : watch.word ≡ Some taken
  pub spells : (s : ℕ) → IsWord word (Node s) → s ≡ name_of watch.spot.shape
  pub leaves : Covers watch.spot.shape key → ⊥

-- And the bytes above the watched node are the key's down to this height, and then this byte.
pub record IsAside (v : SeatView View) (b : Book) (words : List Name) (taken name key height at byte : ℕ) : Type 0 where
  pub mismatched : IsMismatched v b words taken name key height
  pub lower : mismatched.watch.spot.shape.height < at
  pub byte_is : bytes_above mismatched.watch.spot.shape (at - 1) ≡ 256 * up at key + byte

-- the node that was locked last
abbrev pub first_held : List Hold → ℕ
first_held [] = 0
first_held (h ∷ hs) = h.number

-- The seat has locked an inner node, which leads to the one with that name.
pub record IsAbove (v : SeatView View) (below number : ℕ) (word : Option ℕ) : Type 0 where
  pub spot : Spot
  pub content : Content
  pub own : IsIn (locked spot content) v.client.own
  pub tall : 2 ≤ spot.shape.height
  pub byte : ℕ
  pub low : byte < 256
  pub child : ℕ
  pub finds : (n : TableNode ℕ) → Encodes content n → n.form ≡ spot.shape.form → IsBelow (lookup n.children byte) (Some child)
  pub spells : (s : ℕ) → IsWord child (Node s) → s ≡ below
  pub numbered : number ≡ spot.number
  pub held : word ≡ None

-- The seat watches the node with that name below the one that it has locked. The bytes above it are the key's down to that
-- height, and then that byte.
pub record IsParted (v : SeatView View) (below key height byte number : ℕ) : Type 0 where
  pub spot : Spot
  pub named : below ≡ name_of spot.shape
  pub known : IsIn (watch number None spot) v.client.watched
  pub some_height : 1 ≤ spot.shape.height
  pub lower : spot.shape.height < height
  pub top : bytes_above spot.shape height ≡ up height key
  pub low : byte < 256
  pub byte_is : bytes_above spot.shape (height - 1) ≡ 256 * up height key + byte
