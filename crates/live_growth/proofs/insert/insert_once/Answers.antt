use Rattle.std.proofs.Common.{◌∙◌}
use Rattle.live_growth.specs.Calls.{IsReady}
use Rattle.live_nodes.specs.Views.{ask}
use Rattle.live_growth.proofs.Ready.{ready_kept, inserts_not, inserts_from}
use Rattle.live_growth.proofs.insert.insert_once.Goals as goal
use Rattle.live_growth.proofs.insert.insert_once.Goals.{After-descend_from}

ready : (c : After-descend_from) → IsReady c.descend_from.new.seat.view c.args.room.now
ready c = ready_kept c.args.seat.now.view c.descend_from.new.seat.view c.args.room.now c.requires.ready c.descend_from.ensures.keeps

pub returns-in_default : goal.returns-in_default
returns-in_default c =
    let t = c.descend_from.ensures in
    record { book = t.book; id = t.id; ready = ready (goal.at.returns-in_default c).After-descend_from; inserts = t.seen }

pub part-requires-clause-ready : goal.part-requires-clause-ready
part-requires-clause-ready c = ready (goal.at.part-requires-clause-ready c).After-descend_from

pub returns-in_err-below : goal.returns-in_err-below
returns-in_err-below c =
    let t = c.descend_from.ensures in
    let p = c.part.ensures in
    record { book = p.book ∙ t.book; id = p.id ∙ t.id; ready = p.ready; inserts = inserts_not (ask c.args.seat.now.id c.args.key c.args.value 1) c.from_residual.result c.args.seat.now.view c.part.new.seat.view c.from_residual.ensures.0 (p.seen ∙ t.seen) }

pub returns-in-Some-mismatch : goal.returns-in-Some-mismatch
returns-in-Some-mismatch c =
    let t = c.descend_from.ensures in
    let p = c.part.ensures in
    let i = c.insert_below.ensures in
    record { book = i.book ∙ (p.book ∙ t.book); id = i.id ∙ (p.id ∙ t.id); ready = i.ready; inserts = inserts_from c.args.seat.now.id c.part.new.seat.id c.args.key c.args.value c.insert_below.result c.args.seat.now.view c.part.new.seat.view c.insert_below.new.seat.view (p.id ∙ t.id) (p.seen ∙ t.seen) i.inserts }

pub insert_below-requires-then-position-gt1-clause-ready : goal.insert_below-requires-then-position-gt1-clause-ready
insert_below-requires-then-position-gt1-clause-ready c = ready (goal.at.insert_below-requires-then-position-gt1-clause-ready c).After-descend_from

pub insert_at-requires-clause-ready : goal.insert_at-requires-clause-ready
insert_at-requires-clause-ready c = ready (goal.at.insert_at-requires-clause-ready c).After-descend_from
