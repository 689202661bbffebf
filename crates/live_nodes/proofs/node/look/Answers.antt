use Rattle.live_nodes.proofs.Faces.{looks}
use Rattle.live_nodes.proofs.node.look.Goals as goal

pub load-requires-clause-rule : goal.load-requires-clause-rule
load-requires-clause-rule g c = let s = c.args.seat.now in looks g.L.NodeLaw.root g.L.NodeLaw.holds s.id s.view c.args.word.now.key
