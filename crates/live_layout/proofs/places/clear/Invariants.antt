use Rattle.std.proofs.Common.{◌≡◌, ℕ, ◌<◌, length}
use Rattle.live_layout.specs.Words.{at, Stays}
use Rattle.live_layout.proofs.places.clear.Given as goal

abbrev pub invariant-loop-i : goal.invariant-loop-i
invariant-loop-i g l = record {
  seat : Stays g.D.WriteWords.may_write g.D.WriteWords.rest l.draft l.fn.seat l.seat;
  long : length (g.D.WriteWords.words l.draft l.seat) ≡ 262;
  head : at (g.D.WriteWords.words l.draft l.seat) 0 ≡ at (g.D.WriteWords.words l.draft l.fn.seat) 0;
  zeros : (j : ℕ) → 0 < j → j < l.i → at (g.D.WriteWords.words l.draft l.seat) j ≡ 0;
}
