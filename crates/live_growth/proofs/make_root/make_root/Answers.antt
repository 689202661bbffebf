use Rattle.live_growth.proofs.Ready.{ready_again}
use Rattle.live_growth.proofs.Rooms.{grown_twice}
use Rattle.live_growth.proofs.make_root.make_root.Goals as goal

pub returns-clause-ready : goal.returns-clause-ready
returns-clause-ready g c =
    let m = c.make_node-spare in
    let n = c.name_root in
    ready_again m.new.seat.view n.new.seat.view m.new.room n.new.free_nodes m.ensures.ready n.ensures.grown n.ensures.room n.ensures.free_nodes

pub returns-clause-grown : goal.returns-clause-grown
returns-clause-grown g c = grown_twice c.args.seat.now.view c.make_node-spare.new.seat.view c.name_root.new.seat.view c.make_node-spare.ensures.grown c.name_root.ensures.grown
