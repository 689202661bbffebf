use Rattle.std.proofs.Common.{◌≡◌}
use Rattle.live_growth.specs.Calls.{IsReady}
use Rattle.live_updates.proofs.computes.absent.enter.Given as goal

abbrev pub invariant-loop : goal.invariant-loop
invariant-loop g l = record {
  book : l.pass.book ≡ l.fn.pass.book;
  id : l.pass.id ≡ l.fn.pass.id;
  seen : l.pass.view.client.seen ≡ l.fn.pass.view.client.seen;
  ready : IsReady l.pass.view l.room;
}
