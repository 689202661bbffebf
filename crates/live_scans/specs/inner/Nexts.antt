-- The path on from a key below a node.
use Rattle.std.specs.Prelude.{◌≡◌, ◌≢◌, ℕ, ◌%◌, ◌<◌, ◌≤◌, Bool, List, [], ◌∷◌, Option, Some, None}
use Rattle.spec_node.specs.TableNode.{TableNode}
use Rattle.spec_node.specs.declared.child.Child.TheVariants.{Node}
use Rattle.word_book.specs.Book.{Book, Name}
use Rattle.live_nodes.specs.Nodes.{Content}
use Rattle.live_nodes.specs.Seats.{Read, read, SeatView, IsIn, Agree}
use Rattle.live_nodes.specs.Plays.{read_of}
use Rattle.live_nodes.specs.Rows.{AreOf, last_saw, unread}
use Rattle.live_layout.specs.Encodes.{Encodes, IsWord}
use Rattle.live_layout.specs.Order.{IsFrom, IsBefore, HasNearest}
use Rattle.live_nodes.specs.Levels.{up, digit, Shape, Spot, name_of, Covers, place_at}
use Rattle.live_nodes.specs.Views.{View, Watch}
use Rattle.live_nodes.specs.Tree.{IsOf}
use Rattle.live_reads.specs.Mismatches.{first_number}
use Rattle.live_reads.specs.Paths.{Names, Sights, HasOpened, IsOpen}
use Rattle.live_scans.specs.inner.Directions.{EndsLeaf, BeginsLeaf}
use Rattle.live_scans.specs.inner.Moments.{IsWithin, IsPassed, ReadsTo}
use Rattle.live_scans.specs.declared.position.Position.{Position}
use Rattle.live_scans.specs.inner.Steps.{IsStep}
use Rattle.live_scans.specs.inner.Stops.{IsLeafAt}
use Rattle.live_scans.specs.declared.next.Turn.{Turn}
use Rattle.live_scans.specs.declared.next.Turn.TheVariants.{Past, Goes}
use Rattle.live_scans.specs.declared.next.Visit.{Visit}
use Rattle.live_scans.specs.declared.next.Visit.TheVariants as visits

-- The node is open, and its child nearest to the key's byte was read.
pub record IsNear (rising : Bool) (v : SeatView View) (b : Book) (words : List Name) (taken : ℕ) (s : Position) (found : Option (ℕ × ℕ)) : Type 0 where
  pub here : IsOpen v b words taken s.name s.key s.height
  pub near : (c : Content) (n : TableNode ℕ) → Agree c here.opened.saw → Encodes c n → n.form ≡ here.names.spot.shape.form → HasNearest rising n.children (digit s.height s.key) found

-- A node that the seat has met is open, and its head was read: if that is current, it has that height, and this key.
pub record HasHead (v : SeatView View) (b : Book) (d : Position) (words : List Name) (taken : ℕ) : Type 0 where
  pub sighted : Sights v d.name
  pub opened : HasOpened v b words taken sighted.spot
  pub even : taken % 4 ≡ 0
  pub head : (a : Spot) (s : Shape) → IsOf a s opened.saw → (s.height ≡ d.height) × Covers s d.key

-- the node whose word was taken before the last one
abbrev pub second_number : List Read → ℕ
second_number [] = 0
second_number (r ∷ rs) = first_number rs

-- An open node and its nearest child, which is open, too: its word was taken after the node's.
pub record IsLower (rising : Bool) (v : SeatView View) (b : Book) (words : List Name) (taken : ℕ) (s : Position) (e : ℕ × ℕ) (d : Position) (others : List Name) (other : ℕ) : Type 0 where
  pub names : Names v s.name s.key s.height
  pub are : AreOf (place_at names.spot) b words
  pub saw : List (ℕ × ℕ)
  pub reads : read_of names.spot.number v.reads ≡ Some (read names.spot.number taken saw)
  pub second : second_number v.reads ≡ names.spot.number
  pub free : taken % 4 ≡ 0
  pub sure : (shape : Shape) → IsOf names.spot shape saw → shape ≡ names.spot.shape
  pub near : (c : Content) (n : TableNode ℕ) → Agree c saw → Encodes c n → n.form ≡ names.spot.shape.form → HasNearest rising n.children (digit s.height s.key) (Some e)
  pub child : HasHead v b d others other
  pub apart : child.sighted.spot.number ≢ names.spot.number
  pub low_byte : e.0 < 256
  pub is_child : (name : ℕ) → IsWord e.1 (Node name) → name ≡ d.name

-- And the child is watched there.
pub record IsNext (rising : Bool) (v : SeatView View) (b : Book) (words : List Name) (taken : ℕ) (s : Position) (e : ℕ × ℕ) (d : Position) (others : List Name) (other : ℕ) : Type 0 where
  pub lower : IsLower rising v b words taken s e d others other
  pub watch : Watch
  pub known : IsIn watch v.client.watched
  pub above : watch.above ≡ lower.names.spot.number
  pub free_by : watch.word ≡ Some taken
  pub spells : (name : ℕ) → IsWord e.1 (Node name) → name ≡ name_of watch.spot.shape
  pub low_is : watch.spot.shape.height ≡ d.height
  pub covers : Covers watch.spot.shape d.key

-- A node is open, and its head was read: if that is current, it is a leaf, which has this key.
pub record IsLeafOpen (v : SeatView View) (b : Book) (words : List Name) (taken name key : ℕ) : Type 0 where
  pub sighted : Sights v name
  pub opened : HasOpened v b words taken sighted.spot
  pub even : taken % 4 ≡ 0
  pub leaf : (s : Shape) → IsOf sighted.spot s opened.saw → (s.height ≡ 1) × Covers s key

-- More was read of the node whose word was taken last, and nothing else.
abbrev pub IsReadOn : List Read → List Read → Type 0
IsReadOn old new = (unread new ≡ unread old) × ((c : Content) → Agree c (last_saw new) → Agree c (last_saw old))

-- keys that begin like this node's down to its height, and have there a byte from the key's own up to this one in that direction, but
-- don't begin like the other node
abbrev pub IsOutside : Bool → Position → ℕ → Position → ℕ → Type 0
IsOutside rising s byte d k = IsWithin rising s.height s.key byte k × (up d.height k ≢ up d.height d.key)

-- Keys are passed that aren't there, or a node is next, before whose key none is.
abbrev pub Chooses : Bool → Position → ℕ → Position → Option Turn → Type 0
Chooses rising s byte d None = Unit {0}
Chooses rising s byte d (Some (Past last)) = IsFrom rising s.key last × EndsLeaf rising last × ((k : ℕ) → IsFrom rising s.key k → IsFrom rising k last → IsOutside rising s byte d k)
Chooses rising s byte d (Some (Goes c)) = (c.name ≡ d.name) × (c.height ≡ d.height) × (1 ≤ d.height) × (d.height < s.height) × IsFrom rising s.key c.key × BeginsLeaf rising s.key c.key × (up d.height c.key ≡ up d.height d.key)
    × ((k : ℕ) → IsFrom rising s.key k → IsBefore rising k c.key → IsOutside rising s byte d k)

-- What a seat knows then of a node that it enters there: that node, which has keys up to a limit, or its pairs, if it is a leaf.
abbrev pub Enters : Bool → ℕ → SeatView View → SeatView View → Book → Position → ℕ → ℕ → List (ℕ × ℕ) → Option Visit → Type 0
Enters rising caller v w b d limit start buffer None = Unit {0}
Enters rising caller v w b d limit start buffer (Some (visits.Past last)) = ⊥
Enters rising caller v w b d limit start buffer (Some (visits.Goes l)) = (l.node ≡ d) × (2 ≤ d.height) × IsOpen w b l.here.words.now l.here.taken d.name d.key d.height × (w.client.seen ≡ v.client.seen)
Enters rising caller v w b d limit start buffer (Some (visits.Read step leaf)) = IsStep rising caller v w d.key limit start buffer step.count step.last × IsLeafAt w leaf

-- What a seat knows after a visit.
abbrev pub Visits : Bool → ℕ → SeatView View → SeatView View → Book → Position → ℕ → ℕ → List (ℕ × ℕ) → Option Visit → Type 0
Visits rising caller v w b s limit start buffer None = Unit {0}
Visits rising caller v w b s limit start buffer (Some (visits.Past last)) = IsPassed rising caller v w s.key last
Visits rising caller v w b s limit start buffer (Some (visits.Goes l)) = (2 ≤ l.node.height) × (l.node.height < s.height) × IsFrom rising s.key l.node.key × IsFrom rising l.node.key limit × BeginsLeaf rising s.key l.node.key
    × IsOpen w b l.here.words.now l.here.taken l.node.name l.node.key l.node.height × ReadsTo rising caller v w s.key l.node.key
Visits rising caller v w b s limit start buffer (Some (visits.Read step leaf)) = IsStep rising caller v w s.key limit start buffer step.count step.last × IsLeafAt w leaf
