use Rattle.live_nodes.proofs.Faces.{unlocks}
use Rattle.live_nodes.proofs.node.unlock.Goals as goal

pub store-requires-clause-rule : goal.store-requires-clause-rule
store-requires-clause-rule g c = let s = c.args.seat.now in
    unlocks g.L.NodeLaw.root g.L.NodeLaw.holds s.id s.view c.args.word.now.key g.M.OnLock.told c.args.free c.requires.free.0 c.requires.frees
