use Rattle.live_nodes.proofs.Faces.{checks}
use Rattle.live_nodes.proofs.node.check.Goals as goal

pub load-requires-clause-rule : goal.load-requires-clause-rule
load-requires-clause-rule g c = let s = c.args.seat.now in checks g.L.NodeLaw.root g.L.NodeLaw.holds s.id s.view c.args.word.now.key g.M.OnCheck.told c.args.taken c.requires.free c.requires.learns
