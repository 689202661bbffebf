use Rattle.std.proofs.Common.{◌≡◌, ◌∙◌, ap, subst, sym}
use Rattle.share_parts.specs.Parts.{kept}
use Rattle.share_shards.specs.Held.{keys_at}
use Rattle.share_visits.specs.Near.{near_of}
use Rattle.share_visits.specs.Whole.{shard_of}
use Rattle.share_visits.proofs.RunNear.{nearest_of_run}
use Rattle.spec_map.specs.Near.{pair_near}
use Rattle.share_visits.proofs.whole.nearest_in_run.Goals as goal

pub returns-then-pair-key-clause-found : goal.returns-then-pair-key-clause-found
returns-then-pair-key-clause-found g c = λ all h.
    let key = c.in_ok-key.key in
    let shard_is = c.shard_of_key.ensures.shard ∙ ap (λ n. shard_of n key) c.shards.ensures in
    let found = subst (λ s. c.nearest_at.result ≡ pair_near (kept (keys_at (shard_of c.args.lock.now.table.slots) s) all) (near_of c.args.near)) shard_is (c.nearest_at.ensures.pair all h) in
    nearest_of_run c.args.lock.now.table.slots all h.ordered c.args.near key c.in_ok-pair.pair (sym c.key_of.ensures ∙ c.in_ok-key.was) c.if-pair-key.true (sym found ∙ c.in_ok-pair.was)
