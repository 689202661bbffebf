use Rattle.share_visits.proofs.Holding.{contains_taken}
use Rattle.share_visits.proofs.whole.take_all.Goals as goal

pub returns-clause-all : goal.returns-clause-all
returns-clause-all g c = λ is.
    contains_taken g.M.MapShard.pairs g.M.MapShard.limit c.args.lock.now c.requires.shards c.args.seat.now.me c.take.new.seat.me
    (record { idle = c.requires.idle; shards = c.all_shards.result.now; all = c.all_shards.ensures; took = c.take.ensures.took is })
