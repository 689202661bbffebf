use Rattle.std.proofs.Common.{rules, subst, Option, None, Some, ◌≡◌, ◌∙◌}
use Rattle.live_growth.specs.Calls.{IsReady}
use Rattle.live_growth.proofs.Ready.{ready_rest}
use Rattle.live_growth.proofs.StoodOn.{position_rest}
use Rattle.live_updates.specs.declared.leaf.Missed.{Missed}
use Rattle.live_updates.specs.declared.leaf.Missed.TheVariants as missed
use Rattle.live_updates.specs.inner.Updates.{Updated}
use Rattle.live_updates.proofs.computes.absent.enter_at.Given.{Over}
use Rattle.live_updates.proofs.computes.absent.enter_at.Goals as goal
use Rattle.live_updates.proofs.computes.absent.enter_at.Goals.{After-update_here}

-- the leaf was tried
module _ (g : Over) (c : After-update_here g) where
  ready : IsReady c.update_here.new.seat.view c.args.room.now
  ready = ready_rest c.args.seat.now.view c.update_here.new.seat.view c.args.room.now c.requires.ready c.update_here.ensures.rest

  updated : (o : Option Missed) → c.update_here.result ≡ o → Updated g.U.Updates.update o c.args.seat.now.view c.update_here.new.seat.view
  updated o is = subst (λ z. Updated g.U.Updates.update z c.args.seat.now.view c.update_here.new.seat.view) is c.update_here.ensures.updated

pub returns-in-None : goal.returns-in-None
returns-in-None g c =
    let a = (goal.at.returns-in-None g c).After-update_here in let t = c.update_here.ensures in
    record { book = t.book; id = t.id; ready = ready g a; tries = updated g a None (search rules) }

pub returns-in-Some-Changed : goal.returns-in-Some-Changed
returns-in-Some-Changed g c =
    let a = (goal.at.returns-in-Some-Changed g c).After-update_here in let t = c.update_here.ensures in
    record { book = t.book; id = t.id; ready = ready g a; tries = updated g a (Some missed.Changed) (search rules) }

pub returns-in-Some-Busy : goal.returns-in-Some-Busy
returns-in-Some-Busy g c =
    let a = (goal.at.returns-in-Some-Busy g c).After-update_here in let t = c.update_here.ensures in
    record { book = t.book; id = t.id; ready = ready g a; tries = updated g a (Some missed.Busy) (search rules) }

pub enlarge-lacks-requires-clause-ready : goal.enlarge-lacks-requires-clause-ready
enlarge-lacks-requires-clause-ready g c = ready g (goal.at.enlarge-lacks-requires-clause-ready g c).After-update_here

pub enlarge-lacks-requires-clause-position : goal.enlarge-lacks-requires-clause-position
enlarge-lacks-requires-clause-position g c = position_rest c.args.seat.now.view c.update_here.new.seat.view c.args.key c.args.leaf.position c.update_here.ensures.rest c.requires.leaf.0

pub returns-in-Some-Full : goal.returns-in-Some-Full
returns-in-Some-Full g c =
    let t = c.update_here.ensures in
    let e = c.enlarge-lacks.ensures in
    let same = updated g (goal.at.returns-in-Some-Full g c).After-update_here (Some missed.Full) (search rules) in
    record { book = e.book ∙ t.book; id = e.id ∙ t.id; ready = e.ready; tries = c.tried_with.ensures g.U.Updates.update c.args.seat.now.view c.enlarge-lacks.new.seat.view (e.seen ∙ same) }
