use Rattle.std.proofs.Common.{◌≡◌, ℕ, ◌+◌, ◌/◌, ◌<◌, length}
use Rattle.live_layout.specs.Words.{at, Stays}
use Rattle.live_layout.specs.ListCells.{first, child}
use Rattle.live_layout.proofs.list.copy.Given as goal

abbrev pub invariant-loop-w : goal.invariant-loop-w
invariant-loop-w g l = record {
  seat : Stays g.E.WriteWords.may_write g.E.WriteWords.rest l.to l.fn.seat l.seat;
  from : g.D.WriteWords.may_write l.from l.seat;
  same : g.D.WriteWords.words l.from l.seat ≡ g.D.WriteWords.words l.from l.fn.seat;
  head : at (g.E.WriteWords.words l.to l.seat) 0 ≡ at (g.E.WriteWords.words l.to l.fn.seat) 0;
  long : length (g.E.WriteWords.words l.to l.seat) ≡ first l.other_room + l.other_room;
  keys : (j : ℕ) → j < l.w → at (g.E.WriteWords.words l.to l.seat) (1 + j) ≡ at (g.D.WriteWords.words l.from l.fn.seat) (1 + j);
}

abbrev pub invariant-loop-i : goal.invariant-loop-i
invariant-loop-i g l = record {
  seat : Stays g.E.WriteWords.may_write g.E.WriteWords.rest l.to l.fn.seat l.seat;
  from : g.D.WriteWords.may_write l.from l.seat;
  same : g.D.WriteWords.words l.from l.seat ≡ g.D.WriteWords.words l.from l.fn.seat;
  head : at (g.E.WriteWords.words l.to l.seat) 0 ≡ at (g.E.WriteWords.words l.to l.fn.seat) 0;
  long : length (g.E.WriteWords.words l.to l.seat) ≡ first l.other_room + l.other_room;
  keys : (j : ℕ) → j < (l.count + 8) / 8 → at (g.E.WriteWords.words l.to l.seat) (1 + j) ≡ at (g.D.WriteWords.words l.from l.fn.seat) (1 + j);
  children : (j : ℕ) → j < l.i → child l.other_room (g.E.WriteWords.words l.to l.seat) j ≡ child l.room (g.D.WriteWords.words l.from l.fn.seat) j;
}
