-- A NODE, THE ONE ABOVE IT, and one that is used again in its place are locked. That one was locked last.
use Rattle.std.specs.Prelude.{ℕ, List}
use Rattle.node_base.specs.declared.base_node.NodeType.{NodeType}
use Rattle.word_book.specs.Book.{Book, Name}
use Rattle.live_nodes.specs.Nodes.{Content}
use Rattle.live_nodes.specs.Seats.{SeatView}
use Rattle.live_nodes.specs.Views.{View}
use Rattle.live_reads.specs.Paths.{AreNamed}
use Rattle.live_growth.specs.Holds.{HasReclaimed}
use Rattle.live_growth.specs.Two.{LeadsTwo}
use Rattle.live_reads.specs.declared.descend.Position.{Position}

-- The third one can have the children of the lower one, by what is asked of both forms and of the lower one's content.
pub record HasThree (asks : NodeType → NodeType → Content → Type 0) (v : SeatView View) (b : Book) (words words_above others : List Name) (free free_above back spare : ℕ) (s : Position) (key : ℕ) : Type 0 where
  pub before : SeatView View
  pub lead : LeadsTwo before b words words_above free free_above s key
  pub reclaimed : HasReclaimed before v spare back
  pub are : AreNamed b spare others
  pub resizes : asks lead.two.below.shape.form reclaimed.spot.shape.form lead.two.content
