use Rattle.std.proofs.Common.{◌≡◌}
use Rattle.live_growth.specs.Calls.{IsReady}
use Rattle.live_pool.proofs.pool.Pool.supply.Given as goal

abbrev pub invariant-loop-form : goal.invariant-loop-form
invariant-loop-form l = record {
  seat : (l.seat.book ≡ l.fn.seat.book) × (l.seat.id ≡ l.fn.seat.id);
  ready : IsReady l.seat.view l.room;
  seen : l.seat.view.client.seen ≡ l.fn.seat.view.client.seen;
}
