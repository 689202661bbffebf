use Rattle.std.proofs.Common.{ap, refl, ◌∙◌, ℕ}
use Rattle.share_visits.specs.Whole.{shard_of}
use Rattle.share_visits.proofs.Removing.{removed_key}
use Rattle.share_visits.proofs.whole.remove_key.Goals as goal

pub returns-clause-left : goal.returns-clause-left
returns-clause-left g c = λ all h.
    removed_key g.M.MapShard.pairs g.M.MapShard.limit c.args.lock.now c.shard_of_key-shard.result c.args.key all _ _ _ _ _ _ h (c.shard_of_key-shard.ensures.shard ∙ ap (λ (n : ℕ). shard_of n c.args.key) c.shards.ensures) refl
    (c.visit_one.ensures.visited all h)
