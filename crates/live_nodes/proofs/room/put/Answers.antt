use Rattle.live_nodes.proofs.Faces.{puts}
use Rattle.live_nodes.proofs.room.put.Goals as goal

pub store-requires-clause-rule : goal.store-requires-clause-rule
store-requires-clause-rule g c = let s = c.args.seat.now in puts g.L.NodeLaw.root g.L.NodeLaw.holds s.id s.view c.args.word.now.key c.requires.room c.args.new
