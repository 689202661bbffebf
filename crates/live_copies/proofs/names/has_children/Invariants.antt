use Rattle.std.proofs.Common.{ℕ, ◌<◌, slice_index}
use Rattle.live_layout.specs.Words.{Looks}
use Rattle.live_copies.specs.inner.Noted.{HasNamed}
use Rattle.live_copies.proofs.names.has_children.Given as goal

abbrev pub invariant-loop-byte : goal.invariant-loop-byte
invariant-loop-byte g l = record {
  seat : Looks g.D.WriteWords.may_write g.D.WriteWords.words l.draft l.fn.seat l.seat;
  are : (b : ℕ) → b < l.byte → HasNamed (g.D.WriteWords.words l.draft l.fn.seat) l.form b (slice_index l.names b);
}
