use Rattle.std.proofs.Common.{◌≡◌, ◌≢◌, ℕ, ◌+◌, ◌*◌, ◌<◌, ◌≤◌, List}
use Rattle.live_layout.specs.Words.{Stays}
use Rattle.live_layout.specs.ListCells.{count, key}
use Rattle.live_layout.proofs.list.find.Given as goal

abbrev pub invariant-loop-w : goal.invariant-loop-w
invariant-loop-w g l = record {
  seat : Stays g.R.ReadWords.may_read g.R.ReadWords.rest l.cells l.fn.seat l.seat;
  kept : (c : List ℕ) → g.R.ReadWords.agrees l.cells l.seat c → g.R.ReadWords.agrees l.cells l.fn.seat c;
  counted : (c : List ℕ) → g.R.ReadWords.agrees l.cells l.seat c → count c ≤ l.room → count c ≡ l.all;
  passed : (c : List ℕ) → g.R.ReadWords.agrees l.cells l.seat c → count c ≤ l.room → (i : ℕ) → i + 1 < 8 * l.w → i < count c → key c i ≢ l.byte;
}
