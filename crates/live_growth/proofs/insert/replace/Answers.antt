use Rattle.std.proofs.Common.{rules, arith, ◌≢◌, ◌∙◌}
use Rattle.live_growth.proofs.Ready.{ready_again}
use Rattle.live_growth.proofs.Rooms.{grown_twice}
use Rattle.live_growth.proofs.StoodOn.{position_grown}
use Rattle.live_growth.proofs.insert.replace.Goals as goal

pub spare_or_made-spare-requires-clause-spare : goal.spare_or_made-spare-requires-clause-spare
spare_or_made-spare-requires-clause-spare c = λ some. c.spare_above.ensures c.args.seat.now.view c.requires.ready.spare some

pub returns-then-spare-eq0 : goal.returns-then-spare-eq0
returns-then-spare-eq0 c =
    let s = c.spare_or_made-spare.ensures in
    let g = s.grown in
    record { book = s.seat.0; id = s.seat.1; ready = s.ready; grown = g }

pub grow_node-requires-clause-position : goal.grow_node-requires-clause-position
grow_node-requires-clause-position c =
    position_grown c.args.seat.now.view c.spare_or_made-spare.new.seat.view c.args.key c.args.position c.spare_or_made-spare.ensures.grown c.requires.position

pub grow_node-requires-clause-spare : goal.grow_node-requires-clause-spare
grow_node-requires-clause-spare c =
    let some : c.spare_or_made-spare.result ≢ 0 = search rules in
    c.spare_or_made-spare.ensures.sighted (omega (arith, some))

pub returns : goal.returns
returns c =
    let v = c.args.seat.now.view in
    let w = c.spare_or_made-spare.new.seat.view in
    let x = c.grow_node.new.seat.view in
    let s = c.spare_or_made-spare.ensures in
    let g = s.grown in
    let e = c.grow_node.ensures in
    record { book = e.seat.0 ∙ s.seat.0; id = e.seat.1 ∙ s.seat.1; ready = ready_again w x c.spare_or_made-spare.new.room c.grow_node.new.free_nodes s.ready e.grown e.room e.free_nodes; grown = grown_twice v w x g e.grown }
