-- So many slots are behind the others.
use Rattle.std.proofs.Common.{◌≡◌}
use Rattle.share_visits.proofs.Turning.{Turned}
use Rattle.share_visits.proofs.one.turn.Given as goal

abbrev pub invariant-turns : goal.invariant-turns
invariant-turns g l =
    (l.seat.table_id ≡ l.initial.seat.table_id) × (l.seat.me.0 ≡ l.initial.seat.me.0) × Turned l.counter l.initial.seat.me.1 l.seat.me.1
