-- What a seat has locked.
use Rattle.std.specs.Prelude.{◌≡◌, ◌≢◌, ℕ, zero, suc, ◌+◌, ◌%◌, ◌<◌, ◌^◌, List, [], ◌∷◌, length, Option, Some, None}
use Rattle.node_base.specs.declared.base_node.NodeType.{NodeType}
use Rattle.spec_node.specs.TableNode.{TableNode}
use Rattle.spec_node.specs.declared.child.Child.TheVariants.{Payload, Node}
use Rattle.spec_map.specs.Map.{lookup}
use Rattle.word_book.specs.Book.{Book, Name}
use Rattle.live_nodes.specs.Nodes.{Content}
use Rattle.live_nodes.specs.Seats.{place, Hold, hold, SeatView, IsIn, Each, Agree}
use Rattle.live_nodes.specs.Rows.{AreOf}
use Rattle.live_layout.specs.Encodes.{words_of, Encodes, IsBelow, IsWord, with_child}
use Rattle.live_nodes.specs.Levels.{Spot, name_of, place_at}
use Rattle.live_nodes.specs.Views.{View, view_of, locked, detached, root_word, Ask, inserted}
use Rattle.live_nodes.specs.Tree.{HasValue, IsApart, Answers}
use Rattle.live_reads.specs.Paths.{Names, IsOpen}

-- The seat knows the same, but for what it has to itself.
pub record Alike (v w : SeatView View) : Type 0 where
  pub places : w.places ≡ v.places
  pub met : w.client.met ≡ v.client.met
  pub room : w.room ≡ v.room

-- A node of that name was locked, which was free by that word.
pub record HasLocked (v w : SeatView View) (name key height free : ℕ) : Type 0 where
  pub names : Names v name key height
  pub content : Content
  pub own : w.client.own ≡ locked names.spot content ∷ v.client.own
  pub holds : w.holds ≡ hold names.spot.number (free + 2) content ∷ v.holds
  pub alike : Alike v w
  pub seen : w.client.seen ≡ v.client.seen
  pub its : TableNode ℕ
  pub encodes : Encodes content its
  pub in_form : its.form ≡ names.spot.shape.form
  pub deep : length its.prefix + height ≡ 8
  pub long : length content ≡ words_of names.spot.shape.form
  pub even : free % 4 ≡ 0
  pub small : free < 2 ^ 62
  pub apart : Each (IsApart names.spot.number) v.client.own

-- An open node was locked by the word that was taken of it. What was read of it is its content.
abbrev pub HasLockedOpen : SeatView View → SeatView View → Book → List Name → ℕ → ℕ → ℕ → ℕ → ℕ → Type 0
HasLockedOpen v w b words taken name key height free =
    (o : IsOpen v b words taken name key height) → (h : HasLocked v w name key height free) × Agree h.content o.opened.saw

-- An obsolete node of that name was locked again. Its word is locked by the version of this one.
pub record HasReclaimed (v w : SeatView View) (name free : ℕ) : Type 0 where
  pub spot : Spot
  pub named : name ≡ name_of spot.shape
  pub content : Content
  pub long : length content ≡ words_of spot.shape.form
  pub own : w.client.own ≡ detached spot ∷ v.client.own
  pub holds : w.holds ≡ hold spot.number (free + 2) content ∷ v.holds
  pub placed : IsIn (place_at spot) w.places
  pub alike : Alike v w
  pub seen : w.client.seen ≡ v.client.seen
  pub even : free % 4 ≡ 0
  pub small : free < 2 ^ 63
  pub apart : Each (IsApart spot.number) v.client.own

-- The root word was locked, which was free by that word.
pub record HasRootWord (v w : SeatView View) (free : ℕ) : Type 0 where
  pub content : Content
  pub long : length content ≡ 1
  pub client : w.client ≡ view_of v.client.seen v.client.met (root_word content ∷ v.client.own)
  pub holds : w.holds ≡ hold 0 (free + 2) content ∷ v.holds
  pub alike : Alike v w
  pub even : free % 4 ≡ 0
  pub small : free < 2 ^ 62

-- It holds the root word alone, which is in these words.
pub record HoldsRootWord (v : SeatView View) (b : Book) (words : List Name) (free : ℕ) (c : Content) : Type 0 where
  pub own : v.client.own ≡ root_word c ∷ []
  pub holds : v.holds ≡ hold 0 (free + 2) c ∷ []
  pub placed : IsIn (place 0 1 1) v.places
  pub are : AreOf (place 0 1 1) b words

-- the number of the n-th hold, the last one first
abbrev pub number_at : ℕ → List Hold → ℕ
number_at n [] = 0
number_at zero (h ∷ hs) = h.number
number_at (suc n) (h ∷ hs) = number_at n hs

-- The node that was locked before the last one is another one.
abbrev pub IsBeside : List Hold → Type 0
IsBeside hs = number_at 1 hs ≢ number_at 0 hs

-- It holds this node alone, whose words are these, and has written this.
pub record HoldsOne (v : SeatView View) (b : Book) (words : List Name) (free : ℕ) (a : Spot) (c d : Content) : Type 0 where
  pub own : v.client.own ≡ locked a c ∷ []
  pub holds : v.holds ≡ hold a.number (free + 2) d ∷ []
  pub placed : IsIn (place_at a) v.places
  pub are : AreOf (place_at a) b words

-- It has nothing to itself any more.
pub record HasRest (v w : SeatView View) : Type 0 where
  pub own : w.client.own ≡ []
  pub holds : w.holds ≡ []
  pub alike : Alike v w

-- A byte of a leaf has this value, where the leaf isn't full. It had that.
abbrev pub IsWritten : ℕ → ℕ → Option (Option ℕ) → Content → Content → TableNode ℕ → Type 0
IsWritten b x None c d n = d ≡ c
IsWritten b x (Some old) c d n = Encodes d (with_child n b (Some (Payload x))) × HasValue (lookup n.children b) old

-- An insertion is done, which has found this.
abbrev pub IsDone : Ask → Option ℕ → SeatView View → SeatView View → Type 0
IsDone q found v w = Answers q.caller (inserted q found) v.client.seen w.client.seen

-- A byte has the node with this name as its child, by its word.
abbrev pub HasWordOf : Content → NodeType → ℕ → ℕ → Type 0
HasWordOf c form byte name = (w : ℕ) × ((n : TableNode ℕ) → Encodes c n → n.form ≡ form → IsBelow (lookup n.children byte) (Some w))
    × ((s : ℕ) → IsWord w (Node s) → s ≡ name)
