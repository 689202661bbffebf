use Rattle.std.proofs.Common.{◌-◌}
use Rattle.olc_write.specs.inner.Makings.{IsCopy}
use Rattle.olc_write.proofs.making.copied.Given as goal

abbrev pub invariant-children : goal.invariant-children
invariant-children g l = IsCopy g.P.HasMeaning.meaning l.from l.node l.copy

abbrev pub decreases-children : goal.decreases-children
decreases-children g l = 256 - l.from
