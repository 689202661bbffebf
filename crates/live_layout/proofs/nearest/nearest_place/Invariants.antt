use Rattle.std.proofs.Common.{◌≡◌, ℕ, ◌+◌, ◌/◌, ◌<◌, ◌≤◌, List, IfSome}
use Rattle.live_layout.specs.Words.{at, Stays}
use Rattle.live_layout.specs.ListCells.{count, key}
use Rattle.live_layout.specs.inner.Best.{turned, IsBest}
use Rattle.live_layout.proofs.nearest.nearest_place.Given as goal

abbrev pub invariant-loop-i : goal.invariant-loop-i
invariant-loop-i g l = record {
  seat : Stays g.R.ReadWords.may_read g.R.ReadWords.rest l.cells l.fn.seat l.seat;
  kept : (c : List ℕ) → g.R.ReadWords.agrees l.cells l.seat c → g.R.ReadWords.agrees l.cells l.fn.seat c;
  few : l.all ≤ l.room;
  counted : (c : List ℕ) → g.R.ReadWords.agrees l.cells l.seat c → count c ≤ l.room → count c ≡ l.all;
  word : (c : List ℕ) → g.R.ReadWords.agrees l.cells l.seat c → at c (1 + l.i / 8) ≡ l.keys;
  inside : IfSome l.best (λ e. e.1 < l.i);
  best : (c : List ℕ) → g.R.ReadWords.agrees l.cells l.seat c → count c ≤ l.room → IsBest (λ j. turned l.up (key c j)) l.least l.i l.best;
}
