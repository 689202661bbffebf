-- A NODE AND THE ONE ABOVE IT are locked, and nothing was written in either.
use Rattle.std.specs.Prelude.{◌≡◌, ◌≢◌, ℕ, ◌+◌, ◌%◌, ◌<◌, ◌^◌, List, [], ◌∷◌, length}
use Rattle.spec_node.specs.TableNode.{TableNode}
use Rattle.word_book.specs.Book.{Book, Name}
use Rattle.live_nodes.specs.Nodes.{Content}
use Rattle.live_nodes.specs.Seats.{hold, SeatView, IsIn}
use Rattle.live_nodes.specs.Rows.{AreOf}
use Rattle.live_layout.specs.Encodes.{words_of, Encodes}
use Rattle.live_nodes.specs.Levels.{digit, Spot, name_of, Covers, place_at}
use Rattle.live_nodes.specs.Views.{View, locked}
use Rattle.live_growth.specs.Holds.{HasWordOf}
use Rattle.live_reads.specs.declared.descend.Position.{Position}

-- a node that is locked: its words, and the word by which it was free
pub record IsHeld (v : SeatView View) (b : Book) (words : List Name) (free : ℕ) (a : Spot) (c : Content) : Type 0 where
  pub placed : IsIn (place_at a) v.places
  pub are : AreOf (place_at a) b words
  pub its : TableNode ℕ
  pub encodes : Encodes c its
  pub in_form : its.form ≡ a.shape.form
  pub long : length c ≡ words_of a.shape.form
  pub even : free % 4 ≡ 0
  pub small : free < 2 ^ 62

pub record HoldsTwo (v : SeatView View) (b : Book) (words words_above : List Name) (free free_above : ℕ) : Type 0 where
  pub below : Spot
  pub above : Spot
  pub content : Content
  pub content_above : Content
  pub own : v.client.own ≡ locked below content ∷ locked above content_above ∷ []
  pub holds : v.holds ≡ hold below.number (free + 2) content ∷ hold above.number (free_above + 2) content_above ∷ []
  pub apart : above.number ≢ below.number
  pub held : IsHeld v b words free below content
  pub held_above : IsHeld v b words_above free_above above content_above

-- The upper one leads to the lower, by a key's digit. Both have keys that begin like this one.
pub record LeadsTwo (v : SeatView View) (b : Book) (words words_above : List Name) (free free_above : ℕ) (s : Position) (key : ℕ) : Type 0 where
  pub two : HoldsTwo v b words words_above free free_above
  pub named : s.name ≡ name_of two.below.shape
  pub named_above : s.above ≡ name_of two.above.shape
  pub high : two.below.shape.height ≡ s.height
  pub high_above : two.above.shape.height ≡ s.level
  pub covers : Covers two.below.shape key
  pub covers_above : Covers two.above.shape key
  pub leads : HasWordOf two.content_above two.above.shape.form (digit s.level key) s.name
