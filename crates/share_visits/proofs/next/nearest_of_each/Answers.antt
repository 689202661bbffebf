use Rattle.std.proofs.Common.{◌∙◌, arith, subst, sym}
use Rattle.std.proofs.lemmas.List.{length-set}
use Rattle.share_visits.specs.Near.{near_of}
use Rattle.share_visits.specs.Whole.{Contains}
use Rattle.share_visits.proofs.Nearing.{asked}
use Rattle.share_visits.proofs.Numbers.{few_shards}
use Rattle.share_visits.proofs.next.nearest_of_each.Goals as goal

pub loop-shard-preserved : goal.loop-shard-preserved
loop-shard-preserved g c =
    let inv = c.loop-shard.invariant in
    let few = few_shards c.args.lock.now.table.slots c.requires.shards in
    let many = c.shards-shard-end.ensures in
    let less = c.loop-shard-test.true in
    let long = inv.2 in (
      c.nearest_at.ensures.table ∙ inv.0,
      c.nearest_at.ensures.same ∙ inv.1,
      length-set c.loop-shard.pairs c.loop-shard.shard c.nearest_at.result ∙ inv.2,
      λ all h.
          asked c.args.lock.now.table.slots all (near_of c.args.near) c.loop-shard.shard c.loop-shard.pairs c.nearest_at.result (omega (arith, few, many, less, long)) (inv.3 all h)
          (c.nearest_at.ensures.pair all (subst (λ z. Contains g.M.MapShard.pairs g.M.MapShard.limit c.args.lock.now all z.1) (sym inv.1) h)),
    )

pub returns-clause-each : goal.returns-clause-each
returns-clause-each g c = λ all h.
    let inv = c.loop-shard.invariant in
    let many = c.shards-shard-end.ensures in
    let end = c.loop-shard-test.false in
    record { many = inv.2; each = λ i less. inv.3 all h i (omega (arith, less, many, end)) }
