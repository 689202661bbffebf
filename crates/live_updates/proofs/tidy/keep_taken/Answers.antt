use Rattle.std.proofs.Common.{refl, true}
use Rattle.live_growth.specs.Calls.{IsReady}
use Rattle.live_growth.proofs.Ready.{ready_changed, ready_spare}
use Rattle.live_updates.proofs.tidy.keep_taken.Goals as goal
use Rattle.live_updates.proofs.tidy.keep_taken.Goals.{After-keep}

-- the name is kept
kept : (c : After-keep) → IsReady c.args.seat.now.view (record c.args.room.now { spare = c.keep.new.self; is_changed = true })
kept c = ready_spare c.args.seat.now.view (record c.args.room.now { is_changed = true }) c.keep.new.self (ready_changed c.args.seat.now.view c.args.room.now true c.args.room.now.used c.requires.ready) (c.keep.ensures.kept c.args.seat.now.view c.requires.ready.spare c.requires.sighted)

pub shrink_on_path-requires-clause-ready : goal.shrink_on_path-requires-clause-ready
shrink_on_path-requires-clause-ready c = kept (goal.at.shrink_on_path-requires-clause-ready c).After-keep

pub returns-then-eq : goal.returns-then-eq
returns-then-eq c = record { book = refl; id = refl; ready = kept (goal.at.returns-then-eq c).After-keep; seen = refl }
