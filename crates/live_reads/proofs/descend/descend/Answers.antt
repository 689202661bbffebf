use Rattle.live_reads.proofs.descend.descend.Goals as goal

pub descend_from-requires-clause-last : goal.descend_from-requires-clause-last
descend_from-requires-clause-last c = c.none.ensures c.args.seat.now.view
