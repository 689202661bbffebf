use Rattle.std.proofs.Common.{sym, subst, ◌∙◌}
use Rattle.live_nodes.specs.Tree.{Answers}
use Rattle.live_growth.proofs.Ready.{ready_rest}
use Rattle.live_growth.proofs.StoodOn.{position_rest}
use Rattle.live_updates.proofs.Seeks.{leaf_open}
use Rattle.live_updates.proofs.leaf.exchange_here.Goals as goal

pub tidy_from-requires-clause-position : goal.tidy_from-requires-clause-position
tidy_from-requires-clause-position g c = position_rest c.args.seat.now.view c.update_leaf.new.seat.view c.args.key c.args.leaf.position c.in-Ok-Empty.ensures.rest (leaf_open c.args.seat.now.view c.args.seat.now.book c.args.key c.args.leaf c.args.old c.requires.open).0

pub tidy_from-requires-clause-ready : goal.tidy_from-requires-clause-ready
tidy_from-requires-clause-ready g c = ready_rest c.args.seat.now.view c.update_leaf.new.seat.view c.args.room.now c.requires.ready c.in-Ok-Empty.ensures.rest

pub returns-in-Ok-Empty : goal.returns-in-Ok-Empty
returns-in-Ok-Empty g c =
    let q = g.U.Updates.update in
    let v = c.args.seat.now.view in
    let e = c.in-Ok-Empty.ensures in
    let t = c.tidy_from.ensures in
    record { book = t.book ∙ e.book; id = t.id ∙ e.id; ready = t.ready; updated = subst (λ z. Answers q.caller q.entry v.client.seen z) (sym t.seen) e.updated }

pub shrink_on_path-requires-clause-ready : goal.shrink_on_path-requires-clause-ready
shrink_on_path-requires-clause-ready g c = ready_rest c.args.seat.now.view c.update_leaf.new.seat.view c.args.room.now c.requires.ready c.in-Ok.ensures.rest

pub returns-in-Ok : goal.returns-in-Ok
returns-in-Ok g c =
    let q = g.U.Updates.update in
    let v = c.args.seat.now.view in
    let e = c.in-Ok.ensures in
    let t = c.shrink_on_path.ensures in
    record { book = t.book ∙ e.book; id = t.id ∙ e.id; ready = t.ready; updated = subst (λ z. Answers q.caller q.entry v.client.seen z) (sym t.seen) e.updated }

pub returns-in-Err : goal.returns-in-Err
returns-in-Err g c =
    let e = c.in-Err.ensures in
    record { book = e.book; id = e.id; ready = ready_rest c.args.seat.now.view c.update_leaf.new.seat.view c.args.room.now c.requires.ready e.rest; updated = e.updated }
