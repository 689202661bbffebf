use Rattle.std.proofs.Common.{◌≡◌, ℕ, ◌+◌, length, List}
use Rattle.spec_map.specs.Map.{between}
use Rattle.live_layout.specs.Words.{at, Stays}
use Rattle.live_layout.specs.ListCells.{HasList, first}
use Rattle.live_layout.specs.PlaceCells.{HasPlaces}
use Rattle.live_layout.proofs.moves.gather.Given as goal

abbrev pub invariant-loop-b : goal.invariant-loop-b
invariant-loop-b g l = record {
  seat : Stays g.E.WriteWords.may_write g.E.WriteWords.rest l.to l.fn.seat l.seat;
  from : g.D.WriteWords.may_write l.from l.seat;
  same : g.D.WriteWords.words l.from l.seat ≡ g.D.WriteWords.words l.from l.fn.seat;
  head : at (g.E.WriteWords.words l.to l.seat) 0 ≡ at (g.E.WriteWords.words l.to l.fn.seat) 0;
  long : length (g.E.WriteWords.words l.to l.seat) ≡ first l.room + l.room;
  is : (es : List (ℕ × ℕ)) → HasPlaces (g.D.WriteWords.words l.from l.fn.seat) es → HasList l.room (g.E.WriteWords.words l.to l.seat) (between es 0 l.b);
}
