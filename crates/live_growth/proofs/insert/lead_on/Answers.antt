use Rattle.std.proofs.Common.{rules, arith, ◌≢◌, ◌∙◌}
use Rattle.live_growth.specs.Calls.{IsReady}
use Rattle.live_growth.specs.Rooms.{HasGrown}
use Rattle.live_growth.proofs.Ready.{ready_again}
use Rattle.live_growth.proofs.Rooms.{grown_twice}
use Rattle.live_growth.proofs.StoodOn.{position_grown}
use Rattle.live_growth.proofs.insert.lead_on.Goals as goal
use Rattle.live_growth.proofs.insert.lead_on.Goals.{After-link}

pub spare_or_made-spare-requires-clause-spare : goal.spare_or_made-spare-requires-clause-spare
spare_or_made-spare-requires-clause-spare c = λ some. c.spare_for_new.ensures c.args.seat.now.view c.requires.ready.spare some

pub returns-then-spare-eq0 : goal.returns-then-spare-eq0
returns-then-spare-eq0 c =
    let s = c.spare_or_made-spare.ensures in
    let g = s.grown in
    record { book = s.seat.0; id = s.seat.1; ready = s.ready; grown = g; leaf = tt }

pub link-requires-clause-named : goal.link-requires-clause-named
link-requires-clause-named c =
    let g = c.spare_or_made-spare.ensures.grown in
    (position_grown c.args.seat.now.view c.spare_or_made-spare.new.seat.view c.args.key c.args.position g c.requires.position).named

pub link-requires-clause-spare : goal.link-requires-clause-spare
link-requires-clause-spare c =
    let some : c.spare_or_made-spare.result ≢ 0 = search rules in
    c.spare_or_made-spare.ensures.sighted (omega (arith, some))

-- the leaf is linked
linked : (c : After-link) → IsReady c.link.new.seat.view (record c.spare_or_made-spare.new.room { spare = c.link.new.free_nodes }) × HasGrown c.args.seat.now.view c.link.new.seat.view
linked c =
    let v = c.args.seat.now.view in
    let w = c.spare_or_made-spare.new.seat.view in
    let x = c.link.new.seat.view in
    let s = c.spare_or_made-spare.ensures in
    let e = c.link.ensures in
    let t = e in
    (ready_again w x c.spare_or_made-spare.new.room c.link.new.free_nodes s.ready t.grown t.room e.free_nodes, grown_twice v w x s.grown t.grown)

pub returns-in_err-link-clause-ready : goal.returns-in_err-link-clause-ready
returns-in_err-link-clause-ready c =
    let l = linked (goal.at.returns-in_err-link-clause-ready c).After-link in
    l.0

pub returns-in_err-link-clause-grown : goal.returns-in_err-link-clause-grown
returns-in_err-link-clause-grown c =
    let l = linked (goal.at.returns-in_err-link-clause-grown c).After-link in
    l.1

pub returns : goal.returns
returns c =
    let l = linked (goal.at.returns c).After-link in
    let s = c.spare_or_made-spare.ensures in
    let t = c.link.ensures in
    record { book = t.book ∙ s.seat.0; id = t.id ∙ s.seat.1; ready = l.0; grown = l.1; leaf = c.in_ok-link.ensures.linked }
