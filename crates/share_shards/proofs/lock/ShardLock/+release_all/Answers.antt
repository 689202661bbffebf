use Rattle.std.proofs.Common.{◌∙◌, ℕ, List, reverse, rules, ap}
use Rattle.share_shards.specs.Held.{numbers}
use Rattle.share_shards.specs.inner.Steps.{held_of}
use Rattle.share_shards.proofs.Holding.{all_front, empty_of, holds_less, holds_none, last_of_reverse}
use Rattle.share_shards.proofs.lock.ShardLock.+release_all.Goals as goal

pub returns-in_default-clause-idle : goal.returns-in_default-clause-idle
returns-in_default-clause-idle g t c =
    holds_none (g.S.Sharded.content c.args.self.now.limit) (g.S.Sharded.shard c.args.self.now.table.slots) c.args.seat.now.me c.requires.holds (c.requires.shards ∙ ap (λ (l : List ℕ). reverse l) (empty_of c.args.shards.now c.in_default.ensures.cases))

pub release_all-requires : goal.release_all-requires
release_all-requires g t c κs within =
    let n = c.args.self.now.table.slots in let m = c.args.seat.now.me in
    let last : ℕ = c.in-Some.last.now in let others : List ℕ = c.in-Some.others.now in
    let shards : List ℕ = c.args.shards.now in
    let less = holds_less (g.S.Sharded.content c.args.self.now.limit) (g.S.Sharded.shard n) m c.release_one.new.seat.me last (reverse others) c.requires.holds
    (last_of_reverse shards others last (numbers (held_of m.0)) c.in-Some.ensures.cases.0 c.requires.shards) c.release_one.ensures.released
    in
    let all = all_front n shards others last c.in-Some.ensures.cases.0 c.requires.within in
    (search rules, (search rules, (search rules, (search rules, (less.holds, (less.held, all))))))
