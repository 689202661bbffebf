use Rattle.std.proofs.Common.{ℕ, List, ◌≡◌, ◌∙◌, subst}
use Rattle.share_rule.specs.History.{Entry}
use Rattle.live_nodes.specs.Views.{View}
use Rattle.live_nodes.specs.Tree.{Answers}
use Rattle.live_nodes.specs.Seats.{SeatView}
use Rattle.live_updates.specs.inner.Updates.{Update}
use Rattle.live_updates.specs.inner.Ends.{Tries}
use Rattle.live_updates.specs.declared.computes.absent.Tried.{Tried}
use Rattle.live_updates.specs.declared.computes.absent.Tried.TheVariants.{Entered, Present, Again, Lacks}
use Rattle.live_growth.specs.Calls.{IsReady}
use Rattle.live_growth.proofs.Ready.{ready_kept}
use Rattle.live_updates.proofs.computes.absent.enter_once.Given.{Over}
use Rattle.live_updates.proofs.computes.absent.enter_once.Goals as goal
use Rattle.live_updates.proofs.computes.absent.enter_once.Goals.{After-descend_from}

-- a try that goes on where its seat has seen no more
tries_from : (u : Update) (o : Tried) (a v w : SeatView View) → v.client.seen ≡ a.client.seen → Tries u o v w → Tries u o a w
tries_from u Entered a v w same t = subst (λ (z : List (Entry ℕ)). Answers u.caller u.entry z w.client.seen) same t
tries_from u Present a v w same t = t ∙ same
tries_from u Again a v w same t = t ∙ same
tries_from u Lacks a v w same t = t ∙ same

ready : (g : Over) (c : After-descend_from g) → IsReady c.descend_from.new.seat.view c.args.room.now
ready g c = ready_kept c.args.seat.now.view c.descend_from.new.seat.view c.args.room.now c.requires.ready c.descend_from.ensures.keeps

pub returns-in_default : goal.returns-in_default
returns-in_default g c =
    let t = c.descend_from.ensures in
    record { book = t.book; id = t.id; ready = ready g (goal.at.returns-in_default g c).After-descend_from; tries = t.seen }

pub part-requires-clause-ready : goal.part-requires-clause-ready
part-requires-clause-ready g c = ready g (goal.at.part-requires-clause-ready g c).After-descend_from

pub returns-in-Ok : goal.returns-in-Ok
returns-in-Ok g c =
    let t = c.descend_from.ensures in
    let p = c.part.ensures in
    let e = c.enter_below.ensures in
    record { book = e.book ∙ (p.book ∙ t.book); id = e.id ∙ (p.id ∙ t.id); ready = e.ready; tries = tries_from g.U.Updates.update c.enter_below.result c.args.seat.now.view c.part.new.seat.view c.enter_below.new.seat.view (p.seen ∙ t.seen) e.tries }

pub returns-in-Err : goal.returns-in-Err
returns-in-Err g c =
    let t = c.descend_from.ensures in
    let p = c.part.ensures in
    record { book = p.book ∙ t.book; id = p.id ∙ t.id; ready = p.ready; tries = c.tried_with.ensures g.U.Updates.update c.args.seat.now.view c.part.new.seat.view (p.seen ∙ t.seen) }

pub enter_below-requires-then-position-gt1-clause-ready : goal.enter_below-requires-then-position-gt1-clause-ready
enter_below-requires-then-position-gt1-clause-ready g c = ready g (goal.at.enter_below-requires-then-position-gt1-clause-ready g c).After-descend_from

pub enter_at-requires-clause-ready : goal.enter_at-requires-clause-ready
enter_at-requires-clause-ready g c = ready g (goal.at.enter_at-requires-clause-ready g c).After-descend_from
