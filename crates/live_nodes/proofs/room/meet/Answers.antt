use Rattle.live_nodes.proofs.Meets.{may_meet}
use Rattle.live_nodes.proofs.room.meet.Goals as goal

pub meet-requires-clause-rule : goal.meet-requires-clause-rule
meet-requires-clause-rule g c =
    let a = c.args.a.now in
    let b = c.args.b.now in
    may_meet g.L.NodeLaw.root g.L.NodeLaw.holds a.id b.id a.view b.view g.M.OnMeet.told c.requires.meets
