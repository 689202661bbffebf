use Rattle.live_nodes.proofs.Faces.{makes}
use Rattle.live_nodes.proofs.room.make.Goals as goal

pub store-requires-clause-rule : goal.store-requires-clause-rule
store-requires-clause-rule g c = let s = c.args.seat.now in makes g.L.NodeLaw.root g.L.NodeLaw.holds s.id s.view c.args.word.now.key g.M.OnMake.told c.args.last c.requires.makes
