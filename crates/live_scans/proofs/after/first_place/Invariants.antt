use Rattle.std.proofs.Common.{◌≡◌, ℕ, ◌-◌, ◌*◌, ◌≤◌, min, List}
use Rattle.live_layout.specs.Words.{Stays}
use Rattle.live_layout.specs.ListCells.{count, key}
use Rattle.live_layout.specs.inner.Best.{IsBest}
use Rattle.live_scans.proofs.after.first_place.Given as goal

abbrev pub invariant-loop-w : goal.invariant-loop-w
invariant-loop-w g l = record {
  seat : Stays g.R.ReadWords.may_read g.R.ReadWords.rest l.cells l.fn.seat l.seat;
  kept : (c : List ℕ) → g.R.ReadWords.agrees l.cells l.seat c → g.R.ReadWords.agrees l.cells l.fn.seat c;
  few : l.all ≤ l.room;
  counted : (c : List ℕ) → g.R.ReadWords.agrees l.cells l.seat c → count c ≤ l.room → count c ≡ l.all;
  best : (c : List ℕ) → g.R.ReadWords.agrees l.cells l.seat c → count c ≤ l.room → IsBest (key c) l.least (min (8 * l.w - 1) l.all) l.best;
}
