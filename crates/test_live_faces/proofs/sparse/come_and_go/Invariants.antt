use Rattle.std.proofs.Common.{◌≡◌}
use Rattle.test_live_faces.proofs.sparse.come_and_go.Given as goal

abbrev pub invariant-loop-byte : goal.invariant-loop-byte
invariant-loop-byte g l = l.guard.book ≡ l.map

abbrev pub invariant-loop-byte-2 : goal.invariant-loop-byte-2
invariant-loop-byte-2 g l = l.guard.book ≡ l.map
