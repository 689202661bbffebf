use Rattle.std.proofs.Common.{take}
use Rattle.olc_machine.specs.inner.Inside.{inside}
use Rattle.olc_replay.specs.inner.Played.{SoFar}
use Rattle.olc_replay.proofs.replay.replay_with.Given as goal

abbrev pub invariant-loop-event : goal.invariant-loop-event
invariant-loop-event g l =
    SoFar (inside g.A.Allocator.charge l.initial.machine) (take l.event-index l.events) l.lines.items l.decided.items (inside g.A.Allocator.charge l.machine)
