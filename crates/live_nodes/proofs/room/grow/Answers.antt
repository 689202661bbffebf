use Rattle.std.proofs.Common.{rules}
use Rattle.live_nodes.proofs.Faces.{grows}
use Rattle.live_nodes.proofs.room.grow.Goals as goal

pub compare_exchange-found-requires-clause-rule : goal.compare_exchange-found-requires-clause-rule
compare_exchange-found-requires-clause-rule g c = let s = c.args.seat.now in
    grows g.L.NodeLaw.root g.L.NodeLaw.holds s.id s.view c.args.count.now.key c.requires.count.0 c.args.old

pub returns-clause-grown : goal.returns-clause-grown
returns-clause-grown g c = (c.compare_exchange-found.result.0, search rules, c.compare_exchange-found.ensures.view)
