use Rattle.share_visits.specs.Visits.{Clears}
use Rattle.share_visits.proofs.Visiting.{cleared, visited}
use Rattle.share_visits.proofs.whole.clear.Goals as goal

pub returns-clause-none : goal.returns-clause-none
returns-clause-none g c =
    let P = g.M.MapShard.pairs in
    let t = visited P g.M.MapShard.limit c.args.lock.now (Clears P g.M.MapShard.limit) _ _ _ _ _ _ c.all_shards.result.now c.requires.all.0 c.requires.all.1 c.all_shards.ensures c.each.ensures.visited in
    cleared P g.M.MapShard.limit c.args.lock.now c.requires.all.0 _ c.requires.all.1 c.requires.shards _ _ _ _ t.0 _ t.1 t.2
