use Rattle.std.proofs.Common.{Some, ◌∙◌}
use Rattle.live_growth.specs.Calls.{IsReady}
use Rattle.live_growth.proofs.Ready.{ready_kept, ready_cleanup_due}
use Rattle.live_updates.proofs.tidy.tidy.Goals as goal
use Rattle.live_updates.proofs.tidy.tidy.Goals.{After-detach_one}

-- what is ready once a node was taken out, or none
ready : (c : After-detach_one) → IsReady c.detach_one.new.seat.view c.loop.room
ready c = ready_kept c.loop.seat.view c.detach_one.new.seat.view c.loop.room c.loop.invariant.ready c.detach_one.ensures.keeps

pub returns-then-room-ne0 : goal.returns-then-room-ne0
returns-then-room-ne0 c =
    let i = c.loop.invariant in
    record { book = i.book; id = i.id; ready = ready_cleanup_due c.loop.seat.view c.loop.room (Some c.args.key) i.ready; seen = i.seen }

pub returns-in-Err-InUse : goal.returns-in-Err-InUse
returns-in-Err-InUse c =
    let i = c.loop.invariant in let t = c.detach_one.ensures in
    record { book = t.book ∙ i.book; id = t.id ∙ i.id; ready = ready (goal.at.returns-in-Err-InUse c).After-detach_one; seen = t.seen ∙ i.seen }

pub returns-in-Err-Busy : goal.returns-in-Err-Busy
returns-in-Err-Busy c =
    let i = c.loop.invariant in let t = c.detach_one.ensures in
    record { book = t.book ∙ i.book; id = t.id ∙ i.id; ready = ready_cleanup_due c.detach_one.new.seat.view c.loop.room (Some c.args.key) (ready (goal.at.returns-in-Err-Busy c).After-detach_one); seen = t.seen ∙ i.seen }

pub keep_taken-requires-clause-ready : goal.keep_taken-requires-clause-ready
keep_taken-requires-clause-ready c = ready (goal.at.keep_taken-requires-clause-ready c).After-detach_one

pub returns-then-not-keep_taken : goal.returns-then-not-keep_taken
returns-then-not-keep_taken c =
    let i = c.loop.invariant in let t = c.detach_one.ensures in
    let n = c.keep_taken.ensures in
    record { book = n.book ∙ (t.book ∙ i.book); id = n.id ∙ (t.id ∙ i.id); ready = n.ready; seen = n.seen ∙ (t.seen ∙ i.seen) }

pub loop-preserved : goal.loop-preserved
loop-preserved c =
    let i = c.loop.invariant in let t = c.detach_one.ensures in
    let n = c.keep_taken.ensures in
    record { book = n.book ∙ (t.book ∙ i.book); id = n.id ∙ (t.id ∙ i.id); ready = n.ready; seen = n.seen ∙ (t.seen ∙ i.seen) }
