-- What a seat learns at one moment of many keys.
use Rattle.std.specs.Prelude.{◌≡◌, ℕ, ◌+◌, ◌<◌, ◌≤◌, Bool, true, false, nat_eq, List, [], Option, Some, None}
use Rattle.spec_map.specs.Map.{Pairs, lookup}
use Rattle.spec_node.specs.TableNode.{Child}
use Rattle.spec_node.specs.declared.child.Child.TheVariants as below
use Rattle.share_rule.specs.History.{Entry, StartsWith, entries_of, IsHistory, IsLegalHistory}
use Rattle.live_layout.specs.Order.{IsFrom}
use Rattle.live_nodes.specs.Seats.{Place, SeatView, IsIn}
use Rattle.live_nodes.specs.Levels.{up, digit, name_of, Covers, Shape, Spot}
use Rattle.live_nodes.specs.Views.{Watch, View, view_of}
use Rattle.live_nodes.specs.Tree.{IsOfKind, IsOf}
use Rattle.live_scans.specs.Scans.{HasRead}
use Rattle.live_scans.specs.inner.Directions.{low_of, high_of, EndsLeaf}

-- MORE WAS SEEN: what was seen is a beginning of it, and has all of the caller's entries. It is legal, if what was seen is.
pub record SeesMore (new : List (Entry ℕ)) (caller : ℕ) (old : List (Entry ℕ)) : Type 0 where
  pub begins : StartsWith new old
  pub own : entries_of caller new ≡ entries_of caller old
  pub legal : IsLegalHistory nat_eq old → IsLegalHistory nat_eq new

-- What a map has at a key, by what a node has under the key's digit. If that is a node without such keys, which the seat has
-- watched below this one, it has nothing.
abbrev pub HasUnder : View → ℕ → ℕ → Pairs ℕ → ℕ → Option (Child ℕ) → Type 0
HasUnder v number word m k None = lookup m k ≡ None
HasUnder v number word m k (Some (below.Payload x)) = lookup m k ≡ Some x
HasUnder v number word m k (Some (below.Node s)) = (b : Watch) → IsIn b v.watched → b.above ≡ number → b.word ≡ Some word → s ≡ name_of b.spot.shape → (Covers b.spot.shape k → ⊥) → lookup m k ≡ None

-- A NODE was read, which was met as a and is of that shape now: the map has at this moment what the node has, at all keys
-- that begin like it.
pub record IsRead (caller : ℕ) (v : View) (a : Spot) (s : Shape) (word : ℕ) (saw : List (ℕ × ℕ)) (w : View) : Type 0 where
  pub node : IsOf a s saw
  pub of_kind : (b : ℕ) → b < 256 → IsOfKind s.height (lookup node.its.children b)
  pub is : w ≡ view_of w.seen v.met v.own
  pub fits : SeesMore w.seen caller v.seen
  pub pairs : Pairs ℕ
  pub legal : IsHistory nat_eq w.seen pairs
  pub under : (k : ℕ) → Covers s k → HasUnder v a.number word pairs k (lookup node.its.children (digit s.height k))

abbrev pub LearnsAll : ℕ → View → ℕ → ℕ → List (ℕ × ℕ) → List Place → View → Type 0
LearnsAll caller v k word saw ps w = (a : Spot) → IsIn a v.met → a.number ≡ k → (s : Shape) × IsRead caller v a s word saw w

-- Of these keys the map has none at this moment.
pub record HasNone (caller : ℕ) (v w : SeatView View) (Is : ℕ → Type 0) : Type 0 where
  pub fits : SeesMore w.client.seen caller v.client.seen
  pub pairs : Pairs ℕ
  pub legal : IsHistory nat_eq w.client.seen pairs
  pub none : (k : ℕ) → Is k → lookup pairs k ≡ None

-- keys that begin like this one down to a height, and have there a byte from its own up to this one in that direction
abbrev pub IsWithin : Bool → ℕ → ℕ → ℕ → ℕ → Type 0
IsWithin rising height key b k = (up height k ≡ up height key) × IsFrom rising (digit height key) (digit height k) × IsFrom rising (digit height k) b

-- THE SEAT READ these keys, upwards (true) or downwards, and found these pairs.
pub record Reads (up : Bool) (caller : ℕ) (v w : SeatView View) (low high : ℕ) (pairs : Pairs ℕ) : Type 0 where
  pub fits : SeesMore w.client.seen caller v.client.seen
  pub legal : IsLegalHistory nat_eq w.client.seen
  pub read : HasRead up v.client.seen w.client.seen low high pairs

-- It read the keys from one on and before another, and found nothing.
abbrev pub ReadsTo : Bool → ℕ → SeatView View → SeatView View → ℕ → ℕ → Type 0
ReadsTo true caller v w key from = Reads true caller v w key from []
ReadsTo false caller v w key from = Reads false caller v w (from + 1) (key + 1) []

-- It read from a key to another, and found nothing. The other one is the last of a leaf, whether there is one or not.
pub record IsPassed (up : Bool) (caller : ℕ) (v w : SeatView View) (key to : ℕ) : Type 0 where
  pub order : IsFrom up key to
  pub seam : EndsLeaf up to
  pub reads : Reads up caller v w (low_of up key to) (high_of up key to) []
