use Rattle.std.proofs.Common.{rules}
use Rattle.word_book.specs.Book.{joined}
use Rattle.live_nodes.proofs.Faces.{locks}
use Rattle.live_nodes.proofs.node.lock.Goals as goal

pub compare_exchange-found-requires-clause-rule : goal.compare_exchange-found-requires-clause-rule
compare_exchange-found-requires-clause-rule g c = let s = c.args.seat.now in
    locks g.L.NodeLaw.root g.L.NodeLaw.holds s.id s.view c.args.word.now.key g.M.OnLock.told c.args.free c.requires.free.0 c.requires.locks

pub returns-clause-locked : goal.returns-clause-locked
returns-clause-locked g c = let r = c.compare_exchange-found.result in (r.0, joined r.1.next r.1.left, search rules, c.compare_exchange-found.ensures.view)
