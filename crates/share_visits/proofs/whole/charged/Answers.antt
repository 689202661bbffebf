use Rattle.std.proofs.Common.{refl}
use Rattle.share_visits.specs.Visits.{Charges}
use Rattle.share_visits.proofs.Visiting.{charged_all, charged_within, looked}
use Rattle.share_visits.proofs.whole.charged.Goals as goal

pub returns-clause-same : goal.returns-clause-same
returns-clause-same g c =
    let P = g.M.MapShard.pairs in
    let t = looked P g.M.MapShard.limit c.args.lock.now (Charges P g.M.MapShard.charges g.M.MapShard.limit) _ _ _ _ _ _ c.all_shards.result.now c.requires.all.0 c.requires.all.1 c.all_shards.ensures c.each.ensures.visited (λ v b i x w a y d. d.stays) in
    λ i. (c.each.ensures.view i, t.1 i)

pub returns-clause-bytes : goal.returns-clause-bytes
returns-clause-bytes g c = λ all h.
    let P = g.M.MapShard.pairs in
    let t = looked P g.M.MapShard.limit c.args.lock.now (Charges P g.M.MapShard.charges g.M.MapShard.limit) _ _ _ _ _ _ c.all_shards.result.now all h c.all_shards.ensures c.each.ensures.visited (λ v b i x w a y d. d.stays) in
    charged_all P g.M.MapShard.limit c.args.lock.now all _ h c.requires.shards g.M.MapShard.charges _ _ _ _ t.0 refl t.2

pub returns-clause-within : goal.returns-clause-within
returns-clause-within g c =
    let P = g.M.MapShard.pairs in let all = c.requires.all in
    let t = looked P g.M.MapShard.limit c.args.lock.now (Charges P g.M.MapShard.charges g.M.MapShard.limit) _ _ _ _ _ _ c.all_shards.result.now all.0 all.1 c.all_shards.ensures c.each.ensures.visited (λ v b i x w a y d. d.stays) in
    charged_within P g.M.MapShard.limit c.args.lock.now all.0 _ all.1 c.requires.shards g.M.MapShard.charges _ _ _ _ t.0 refl t.2
