use Rattle.std.proofs.Common.{◌≡◌, take}
use Rattle.olc_write.proofs.making.fork_at.Given as goal

abbrev pub invariant-loop-i : goal.invariant-loop-i
invariant-loop-i l = take l.i l.prefix ≡ take l.i l.key
