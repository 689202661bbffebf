use Rattle.std.proofs.Common.{◌∙◌, ◌<◌, ℕ, rules, refl, sym, ap, subst}
use Rattle.std.proofs.lemmas.List.Elements.{All-rest}
use Rattle.std.specs.Prelude.{Option}
use Rattle.atomic_table.specs.Table.{Me}
use Rattle.share_shards.specs.Held.{numbers}
use Rattle.share_shards.specs.inner.SeatView.{ShardView}
use Rattle.share_shards.specs.inner.Steps.{Holds, held_of}
use Rattle.share_shards.proofs.Holding.{holds_more}
use Rattle.share_shards.proofs.lock.ShardLock.+take.Goals as goal

pub take-requires : goal.take-requires
take-requires g t c κs within =
    let n = c.args.self.now.table.slots in
    let holds = holds_more (g.S.Sharded.content c.args.self.now.limit) (g.S.Sharded.shard n) c.in-Some.first.now c.args.seat.now.me c.take_one.new.seat.me c.requires.holds (c.if-not-take_one.ensures.won refl) in
    let all = All-rest (λ (i : ℕ). i < n) c.in-Some.first.now c.in-Some.others.now c.args.shards.now c.in-Some.ensures.cases.0 c.requires.within in
    (search rules, (search rules, (search rules, (search rules, (holds, all)))))

pub release_one-requires-clause-holds : goal.release_one-requires-clause-holds
release_one-requires-clause-holds g t c =
    let n = c.args.self.now.table.slots in
    let M : Type 0 = Me (Option g.row.S.Denot) (ShardView g.row.T.Denot g.row.S.Denot) in
    subst (λ (z : M). Holds (g.S.Sharded.content c.args.self.now.limit) (g.S.Sharded.shard n) z) (sym (c.if-take.ensures.missed refl))
    (holds_more (g.S.Sharded.content c.args.self.now.limit) (g.S.Sharded.shard n) c.in-Some.first.now c.args.seat.now.me c.take_one.new.seat.me c.requires.holds (c.if-not-take_one.ensures.won refl))

pub release_one-requires-clause-last : goal.release_one-requires-clause-last
release_one-requires-clause-last g t c =
    let M : Type 0 = Me (Option g.row.S.Denot) (ShardView g.row.T.Denot g.row.S.Denot) in
    let won = c.if-not-take_one.ensures.won refl in
    (numbers (held_of c.args.seat.now.me.0), ap (λ (z : M). numbers (held_of z.0)) (c.if-take.ensures.missed refl ∙ won.is))
