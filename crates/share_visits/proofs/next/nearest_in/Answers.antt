use Rattle.std.proofs.Common.{◌≡◌, ◌∙◌, ap, arith}
use Rattle.share_visits.specs.Near.{near_of}
use Rattle.share_visits.proofs.Nearing.{of_all, of_more, of_none, of_shards}
use Rattle.share_visits.proofs.next.nearest_in.Goals as goal

pub loop-shard-init : goal.loop-shard-init
loop-shard-init c = λ all up t. of_none c.args.shards all (near_of c.args.near)

pub loop-shard-preserved : goal.loop-shard-preserved
loop-shard-preserved c = λ all up t.
    of_more c.args.shards all up (near_of c.args.near) c.loop-shard.shard c.loop-shard.best _ c.nearer_of-best.result (c.loop-shard.invariant all up t) (t.each c.loop-shard.shard c.loop-shard-test.true) c.nearer_of-best.ensures

pub returns : goal.returns
returns c = λ all up t.
    let past = c.loop-shard-test.false in
    let end : c.loop-shard.shard ≡ c.args.shards = omega (arith, past) in
    c.loop-shard.invariant all up t ∙ (ap (λ n. of_shards c.args.shards all n (near_of c.args.near)) end ∙ of_all c.args.shards all up (near_of c.args.near) c.requires)
