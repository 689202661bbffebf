use Rattle.std.proofs.Common.{refl}
use Rattle.share_visits.specs.Visits.{Tallies}
use Rattle.share_visits.proofs.Visiting.{counted_all, looked}
use Rattle.share_visits.proofs.whole.pair_count.Goals as goal

pub returns-clause-same : goal.returns-clause-same
returns-clause-same g c =
    let P = g.M.MapShard.pairs in
    let t = looked P g.M.MapShard.limit c.args.lock.now (Tallies P) _ _ _ _ _ _ c.all_shards.result.now c.requires.all.0 c.requires.all.1 c.all_shards.ensures c.each.ensures.visited (λ v b i x w a y d. d.stays) in
    λ i. (c.each.ensures.view i, t.1 i)

pub returns-clause-count : goal.returns-clause-count
returns-clause-count g c = λ all h.
    let P = g.M.MapShard.pairs in
    let t = looked P g.M.MapShard.limit c.args.lock.now (Tallies P) _ _ _ _ _ _ c.all_shards.result.now all h c.all_shards.ensures c.each.ensures.visited (λ v b i x w a y d. d.stays) in
    counted_all P g.M.MapShard.limit c.args.lock.now all _ h c.requires.shards _ _ _ _ t.0 refl t.2
