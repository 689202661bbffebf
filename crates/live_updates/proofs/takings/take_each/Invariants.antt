use Rattle.std.proofs.Common.{◌≡◌, ℕ, length}
use Rattle.spec_node.specs.TableNode.{TableNode}
use Rattle.live_layout.specs.Words.{Stays}
use Rattle.live_layout.specs.Encodes.{words_of, Encodes}
use Rattle.live_updates.specs.inner.Losses.{IsLeft}
use Rattle.live_updates.proofs.takings.take_each.Given as goal

abbrev pub invariant-loop-byte : goal.invariant-loop-byte
invariant-loop-byte g l = record {
  seat : Stays g.D.WriteWords.may_write g.D.WriteWords.rest l.draft l.fn.seat l.seat;
  long : length (g.D.WriteWords.words l.draft l.seat) ≡ words_of l.form;
  left : (n : TableNode ℕ) → Encodes (g.D.WriteWords.words l.draft l.fn.seat) n → n.form ≡ l.form → IsLeft l.first l.byte n (g.D.WriteWords.words l.draft l.seat);
}
