-- A node without children is to be taken out, while it and the one above it are locked.
use Rattle.std.specs.Prelude.{◌≡◌, ℕ, List, []}
use Rattle.spec_node.specs.TableNode.{TableNode}
use Rattle.word_book.specs.Book.{Book, Name}
use Rattle.live_nodes.specs.Nodes.{Content}
use Rattle.live_nodes.specs.Seats.{SeatView}
use Rattle.live_layout.specs.Encodes.{Encodes}
use Rattle.live_nodes.specs.Levels.{Spot}
use Rattle.live_nodes.specs.Views.{View}
use Rattle.live_growth.specs.Two.{LeadsTwo}
use Rattle.live_reads.specs.declared.descend.Position.{Position}

-- A node's words are of one without children.
abbrev pub HasNone : Spot → Content → Type 0
HasNone a c = (n : TableNode ℕ) → Encodes c n → n.form ≡ a.shape.form → n.children ≡ []

-- The lower one is to be taken out.
pub record PartsTwo (v : SeatView View) (b : Book) (words words_above : List Name) (free free_above : ℕ) (s : Position) (key : ℕ) : Type 0 where
  pub lead : LeadsTwo v b words words_above free free_above s key
  pub none : HasNone lead.two.below lead.two.content
