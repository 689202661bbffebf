-- What a copy has locked.
use Rattle.std.specs.Prelude.{◌≡◌, ℕ, ◌+◌, ◌%◌, ◌<◌, ◌^◌, List, [], ◌∷◌, ◌++◌, length}
use Rattle.node_base.specs.declared.base_node.NodeType.TheVariants.{N4}
use Rattle.spec_node.specs.TableNode.{TableNode}
use Rattle.spec_map.specs.Map.{Pairs}
use Rattle.word_book.specs.Book.{Book, Name}
use Rattle.live_nodes.specs.Nodes.{Content}
use Rattle.live_nodes.specs.Seats.{Place, Hold, hold, SeatView, IsIn, Each}
use Rattle.live_nodes.specs.Rows.{AreOf}
use Rattle.live_layout.specs.Encodes.{words_of}
use Rattle.live_nodes.specs.Levels.{up, Spot, spot, name_of, Covers, place_at}
use Rattle.live_nodes.specs.Views.{View, Own, locked}
use Rattle.live_nodes.specs.Tree.{IsApart}
use Rattle.live_copies.specs.declared.locks.Lock.{Lock}
use Rattle.live_copies.specs.inner.Told.{IsContent, HasPairs}

-- a node that is locked: its words, the word by which it was free, and what it has
pub record Grip : Type 0 where
  pub lock : Lock
  pub spot : Spot
  pub content : Content

abbrev pub own_of : List Grip → List Own
own_of [] = []
own_of (g ∷ gs) = locked g.spot g.content ∷ own_of gs

abbrev pub holds_of : List Grip → List Hold
holds_of [] = []
holds_of (g ∷ gs) = hold g.spot.number (g.lock.free + 2) g.content ∷ holds_of gs

-- They were noted in this order. The last one is the first.
abbrev pub AreNoted : List Grip → List Lock → Type 0
AreNoted [] ls = ls ≡ []
AreNoted (g ∷ gs) ls = (before : List Lock) × (ls ≡ before ++ g.lock ∷ []) × AreNoted gs before

-- These are its words, and it was free by that word. It is none of the others.
pub record IsGrip (places : List Place) (b : Book) (words : List Name) (free : ℕ) (a : Spot) (others : List Own) : Type 0 where
  pub placed : IsIn (place_at a) places
  pub are : AreOf (place_at a) b words
  pub even : free % 4 ≡ 0
  pub small : free < 2 ^ 62
  pub apart : Each (IsApart a.number) others

abbrev pub AreGrips : List Place → Book → List Grip → Type 0
AreGrips places b [] = Unit {0}
AreGrips places b (g ∷ gs) = IsGrip places b g.lock.words.now g.lock.free g.spot (own_of gs) × AreGrips places b gs

-- These nodes are locked, and no others. Nothing was written there.
pub record HasLocks (v : SeatView View) (b : Book) (ls : List Lock) : Type 0 where
  pub grips : List Grip
  pub noted : AreNoted grips ls
  pub own : v.client.own ≡ own_of grips
  pub holds : v.holds ≡ holds_of grips
  pub are : AreGrips v.places b grips

-- The node with these words was locked last, after those.
pub record IsTop (v : SeatView View) (b : Book) (words : List Name) (free : ℕ) (ls : List Lock) : Type 0 where
  pub spot : Spot
  pub content : Content
  pub grips : List Grip
  pub noted : AreNoted grips ls
  pub own : v.client.own ≡ locked spot content ∷ own_of grips
  pub holds : v.holds ≡ hold spot.number (free + 2) content ∷ holds_of grips
  pub is : IsGrip v.places b words free spot (own_of grips)
  pub are : AreGrips v.places b grips

-- The seat knows as much.
pub record Knows (v w : SeatView View) : Type 0 where
  pub places : (p : Place) → IsIn p v.places → IsIn p w.places
  pub met : (a : Spot) → IsIn a v.client.met → IsIn a w.client.met
  pub room : w.room ≡ v.room

-- It has as much to itself, too, and has seen no more.
pub record Grows (v w : SeatView View) : Type 0 where
  pub knows : Knows v w
  pub own : (o : Own) → IsIn o v.client.own → IsIn o w.client.own
  pub seen : w.client.seen ≡ v.client.seen

-- The node of that name was locked last.
pub record HasTaken (w : SeatView View) (b : Book) (name key height : ℕ) (words : List Name) : Type 0 where
  pub spot : Spot
  pub named : name ≡ name_of spot.shape
  pub high : spot.shape.height ≡ height
  pub covers : Covers spot.shape key
  pub content : Content
  pub free : ℕ
  pub others : List Own
  pub holds_before : List Hold
  pub own : w.client.own ≡ locked spot content ∷ others
  pub holds : w.holds ≡ hold spot.number (free + 2) content ∷ holds_before
  pub placed : IsIn (place_at spot) w.places
  pub are : AreOf (place_at spot) b words
  pub long : length content ≡ words_of spot.shape.form
  pub its : TableNode ℕ
  pub is : IsContent content spot its

-- where a node of this height is that has this key
abbrev pub place_above : ℕ → ℕ → Spot
place_above key height = spot 0 record { key = 0; form = N4; height = height; top = up height key }

-- ALL NODES FROM ONE ON DOWNWARDS are locked, and tell these pairs.
pub record HasTold (w : SeatView View) (name key height : ℕ) (pairs : Pairs ℕ) : Type 0 where
  pub its : Spot
  pub named : name ≡ name_of its.shape
  pub high : its.shape.height ≡ height
  pub covers : Covers its.shape key
  pub has : HasPairs w.client.own its pairs

-- These were copied.
abbrev pub Takes : SeatView View → ℕ → ℕ → ℕ → Pairs ℕ → Pairs ℕ → Type 0
Takes w name key height old new = (pairs : Pairs ℕ) × (new ≡ old ++ pairs) × HasTold w name key height pairs
