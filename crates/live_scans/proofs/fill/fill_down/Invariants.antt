use Rattle.std.proofs.Common.{◌≡◌, ℕ, ◌+◌, ◌<◌, ◌≤◌, List, take, drop, length, reverse}
use Rattle.spec_node.specs.TableNode.{TableNode}
use Rattle.live_layout.specs.Words.{Stays}
use Rattle.live_layout.specs.Encodes.{Encodes}
use Rattle.live_layout.specs.Page.{AreListed, pairs_of}
use Rattle.live_scans.proofs.fill.fill_down.Given as goal

abbrev pub invariant-loop-place : goal.invariant-loop-place
invariant-loop-place g l = record {
  seat : Stays g.R.ReadWords.may_read g.R.ReadWords.rest l.cells l.fn.seat l.seat;
  kept : (c : List ℕ) → g.R.ReadWords.agrees l.cells l.seat c → g.R.ReadWords.agrees l.cells l.fn.seat c;
  low : l.part.first ≤ l.from;
  high : l.from ≤ l.part.last;
  begun : l.start < l.place → l.from < l.part.last;
  before : take l.start (pairs_of g.P.RangeEntry.pair l.buffer) ≡ take l.start (pairs_of g.P.RangeEntry.pair l.fn.buffer);
  is : (c : List ℕ) (n : TableNode ℕ) → g.R.ReadWords.agrees l.cells l.seat c → Encodes c n → n.form ≡ l.form → length n.prefix ≡ 7
      → AreListed n l.part.base (l.from + 1) (l.part.last + 1) (reverse (drop l.start (take l.place (pairs_of g.P.RangeEntry.pair l.buffer))));
}
