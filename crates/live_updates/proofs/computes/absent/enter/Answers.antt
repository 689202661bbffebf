use Rattle.std.proofs.Common.{rules, ◌≡◌, ◌∙◌}
use Rattle.live_updates.proofs.Tries.{entered_by, present_same, goes_on, answers_later}
use Rattle.live_updates.proofs.computes.absent.enter.Given.{Over}
use Rattle.live_updates.proofs.computes.absent.enter.Goals as goal
use Rattle.live_updates.proofs.computes.absent.enter.Goals.{After-try_enter}

-- an insertion was tried
module _ (g : Over) (c : After-try_enter g) where
  same : (c.try_enter.new.seat.book ≡ c.args.seat.now.book) × (c.try_enter.new.seat.id ≡ c.args.seat.now.id)
  same = let i = c.loop.invariant in let t = c.try_enter.ensures in (t.book ∙ i.book, t.id ∙ i.id)

pub returns-in-Entered : goal.returns-in-Entered
returns-in-Entered g c =
    let a = (goal.at.returns-in-Entered g c).After-try_enter in
    let t = c.try_enter.ensures in
    let v = c.loop.seat.view in
    let w = c.try_enter.new.seat.view in
    let u = g.U.Updates.update in
    let done = entered_by u c.try_enter.result v w (search rules) t.tries in
    record { book = (same g a).0; id = (same g a).1; ready = t.ready; enters = answers_later u.caller u.entry v.client.seen c.args.seat.now.view.client.seen w.client.seen c.loop.invariant.seen done }

pub returns-in-Present : goal.returns-in-Present
returns-in-Present g c =
    let a = (goal.at.returns-in-Present g c).After-try_enter in
    let t = c.try_enter.ensures in
    record { book = (same g a).0; id = (same g a).1; ready = t.ready; enters = present_same g.U.Updates.update c.try_enter.result c.loop.seat.view c.try_enter.new.seat.view (search rules) t.tries ∙ c.loop.invariant.seen }

pub loop-preserved : goal.loop-preserved
loop-preserved g c =
    let a = (goal.at.loop-preserved g c).After-try_enter in
    let t = c.try_enter.ensures in
    record {
      book = (same g a).0;
      id = (same g a).1;
      seen = goes_on g.U.Updates.update c.try_enter.result c.loop.seat.view c.try_enter.new.seat.view (search rules) t.tries ∙ c.loop.invariant.seen;
      ready = t.ready;
    }
