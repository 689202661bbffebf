use Rattle.std.proofs.Common.{rules, refl, None}
use Rattle.live_growth.specs.Calls.{IsReady}
use Rattle.live_growth.proofs.Ready.{ready_kept, ready_last}
use Rattle.live_updates.specs.inner.Lookups.{Lookup, lookup_of}
use Rattle.live_updates.proofs.Made.{no_more, at_some}
use Rattle.live_updates.specs.inner.Ends.{kept}
use Rattle.live_updates.proofs.Called.{keep_lookup, always_update}
use Rattle.live_updates.proofs.computes.present.keep_once.Given.{Over}
use Rattle.live_updates.proofs.computes.present.keep_once.Goals as goal
use Rattle.live_updates.proofs.computes.present.keep_once.Goals.{After-seek}

-- the key was looked for
module _ (g : Over) (c : After-seek g) where
  abbrev looked : Lookup
  looked = lookup_of c.args.seat.now.id c.args.key (kept c.args.seat.now.id c.args.key)

  ready : IsReady c.seek.new.seat.view (record c.args.room.now { last = c.seek.new.last })
  ready = ready_last c.seek.new.seat.view c.args.room.now c.seek.new.last (ready_kept c.args.seat.now.view c.seek.new.seat.view c.args.room.now c.requires.ready c.seek.ensures.keeps) c.seek.ensures.last

pub seek-requires-clause-legal : goal.seek-requires-clause-legal
seek-requires-clause-legal g c = keep_lookup c.args.seat.now.id c.args.key

pub returns-in-Some-At : goal.returns-in-Some-At
returns-in-Some-At g c =
    let a = (goal.at.returns-in-Some-At g c).After-seek in
    let t = c.seek.ensures in
    let found = c.in-Some-At.found in
    record { book = t.book; id = t.id; ready = ready g a; stores = (found, at_some (looked g a) c.seek.new.seat.book c.seek.result c.in-Some-At._leaf found c.args.seat.now.view c.seek.new.seat.view (search rules) t.sought, refl) }

pub enter-requires-clause-legal : goal.enter-requires-clause-legal
enter-requires-clause-legal g c = always_update c.seek.new.seat.id c.args.key None c.args.value

pub enter-requires-clause-ready : goal.enter-requires-clause-ready
enter-requires-clause-ready g c = ready g (goal.at.enter-requires-clause-ready g c).After-seek

pub returns-in-None : goal.returns-in-None
returns-in-None g c =
    let a = (goal.at.returns-in-None g c).After-seek in
    let t = c.seek.ensures in
    record { book = t.book; id = t.id; ready = ready g a; stores = no_more (looked g a) c.seek.new.seat.book c.seek.result c.args.seat.now.view c.seek.new.seat.view (search rules) t.sought }
