use Rattle.std.proofs.Common.{◌≡◌, ℕ, length, List}
use Rattle.live_layout.specs.Words.{at, Stays}
use Rattle.live_layout.specs.ListCells.{HasList}
use Rattle.live_layout.specs.PlaceCells.{HasPlaces}
use Rattle.live_layout.proofs.MoveLaws.{entered}
use Rattle.live_layout.proofs.moves.spread.Given as goal

abbrev pub invariant-loop-i : goal.invariant-loop-i
invariant-loop-i g l = record {
  seat : Stays g.E.WriteWords.may_write g.E.WriteWords.rest l.to l.fn.seat l.seat;
  from : g.D.WriteWords.may_write l.from l.seat;
  same : g.D.WriteWords.words l.from l.seat ≡ g.D.WriteWords.words l.from l.fn.seat;
  head : at (g.E.WriteWords.words l.to l.seat) 0 ≡ at (g.E.WriteWords.words l.to l.fn.seat) 0;
  long : length (g.E.WriteWords.words l.to l.seat) ≡ 262;
  counts : at (g.E.WriteWords.words l.to l.seat) 1 ≡ l.i;
  is : (es : List (ℕ × ℕ)) → HasList l.room (g.D.WriteWords.words l.from l.fn.seat) es → HasPlaces (g.E.WriteWords.words l.to l.seat) (entered l.room (g.D.WriteWords.words l.from l.fn.seat) l.i);
}
