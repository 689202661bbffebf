use Rattle.live_nodes.proofs.Faces.{writes}
use Rattle.live_nodes.proofs.node.write.Goals as goal

pub store-requires-clause-rule : goal.store-requires-clause-rule
store-requires-clause-rule g c = let s = c.args.seat.now in writes g.L.NodeLaw.root g.L.NodeLaw.holds s.id s.view c.args.word.now.key c.requires.held c.args.new
