-- A leaf loses the pairs of a range of keys.
use Rattle.std.specs.Prelude.{◌≡◌, ◌⊎◌, ℕ, ◌+◌, ◌*◌, ◌<◌, ◌≤◌, List, [], length, None}
use Rattle.spec_node.specs.TableNode.{TableNode}
use Rattle.spec_map.specs.Map.{Pairs, lookup}
use Rattle.word_book.specs.Book.{Book, Name}
use Rattle.live_nodes.specs.Nodes.{Content}
use Rattle.live_nodes.specs.Seats.{SeatView}
use Rattle.live_layout.specs.Encodes.{words_of, Encodes}
use Rattle.live_layout.specs.Page.{AreListed}
use Rattle.live_layout.specs.declared.page.Part.{Part}
use Rattle.live_nodes.specs.Levels.{Spot}
use Rattle.live_nodes.specs.Views.{View, view_of}
use Rattle.live_growth.specs.Holds.{HoldsOne}
use Rattle.live_updates.specs.Takings.{Takes}

-- The words are those of the node n without its children under the bytes from one on and below another.
pub record IsLeft (first to : ℕ) (n : TableNode ℕ) (d : Content) : Type 0 where
  pub its : TableNode ℕ
  pub encodes : Encodes d its
  pub form : its.form ≡ n.form
  pub prefix : its.prefix ≡ n.prefix
  pub gone : (b : ℕ) → first ≤ b → b < to → lookup its.children b ≡ None
  pub kept : (b : ℕ) → (b < first) ⊎ (to ≤ b) → lookup its.children b ≡ lookup n.children b

-- who takes the pairs with keys from `low` on and below `high` out of a leaf, and which these are
pub record Taking : Type 0 where
  pub caller : ℕ
  pub low : ℕ
  pub high : ℕ
  pub pairs : Pairs ℕ

abbrev pub taking_of : ℕ → ℕ → ℕ → Pairs ℕ → Taking
taking_of c low high ps = record { caller = c; low = low; high = high; pairs = ps }

-- the same, by a part of the leaf
abbrev pub part_taking : ℕ → Part → Pairs ℕ → Taking
part_taking c part ps = taking_of c (part.base + part.first) (part.base + (part.last + 1)) ps

-- A LEAF was unlocked, without those pairs.
pub record HasTaken (t : Taking) (v w : View) : Type 0 where
  pub is : w ≡ view_of w.seen v.met []
  pub takes : Takes t.caller t.low t.high t.pairs v.seen w.seen

abbrev pub TakesOut : Taking → View → ℕ → Content → View → Type 0
TakesOut t v k c w = HasTaken t v w

-- what the seat has seen then
abbrev pub SeesTaken : Taking → SeatView View → SeatView View → Type 0
SeesTaken t v w = Takes t.caller t.low t.high t.pairs v.client.seen w.client.seen

-- A leaf is locked, had these pairs in a part of it, and has none there by what was written.
pub record HoldsTaken (v : SeatView View) (b : Book) (words : List Name) (free : ℕ) (part : Part) (ps : Pairs ℕ) : Type 0 where
  pub spot : Spot
  pub content : Content
  pub draft : Content
  pub one : HoldsOne v b words free spot content draft
  pub leaf : spot.shape.height ≡ 1
  pub base : part.base ≡ 256 * spot.shape.top
  pub long : length draft ≡ words_of spot.shape.form
  pub listed : (n : TableNode ℕ) → Encodes content n → n.form ≡ spot.shape.form → length n.prefix ≡ 7 → AreListed n part.base part.first (part.last + 1) ps
  pub left : (n : TableNode ℕ) → Encodes content n → n.form ≡ spot.shape.form → IsLeft part.first (part.last + 1) n draft
