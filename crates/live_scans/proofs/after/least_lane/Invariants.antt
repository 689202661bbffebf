use Rattle.live_layout.specs.Words.{lane}
use Rattle.live_scans.proofs.Leasts.{IsLeft, limit_of}
use Rattle.live_scans.proofs.after.least_lane.Given as goal

abbrev pub invariant-loop-mask : goal.invariant-loop-mask
invariant-loop-mask l = record { left : IsLeft (lane l.word) l.from l.to l.least l.mask l.best }

abbrev pub decreases-loop-mask : goal.decreases-loop-mask
decreases-loop-mask l = limit_of l.best
