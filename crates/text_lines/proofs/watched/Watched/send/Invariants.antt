use Rattle.std.proofs.Common.{length, ◌-◌, ◌≤◌, ◌≡◌, take}
use Rattle.std.specs.Io.KnownBytes.{Appends}
use Rattle.text_lines.proofs.watched.Watched.send.Given as goal

abbrev pub invariant-loop-at : goal.invariant-loop-at
invariant-loop-at g l = record {
  within : l.at ≤ length l.bytes;
  grows : Appends (g.W.Writer.contents l.fn.self.inner) (g.W.Writer.contents l.self.inner) (take l.at l.bytes);
  kept : l.self.failed ≡ l.fn.self.failed;
}

abbrev pub decreases-loop-at : goal.decreases-loop-at
decreases-loop-at g l = length l.bytes - l.at
