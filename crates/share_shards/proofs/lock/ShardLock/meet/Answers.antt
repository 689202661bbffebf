use mathlib.Core.Option.{none}
use Rattle.atomic_table.specs.Table.{step}
use Rattle.std.proofs.Common.{sym, ap, ◌∙◌, subst, arith}
use Rattle.share_shards.specs.inner.Steps.{IsIdle, caller_of, seen_of}
use Rattle.share_shards.proofs.Moves.{may_cut, may_join, may_meet, may_part, both_idle, met_of}
use Rattle.share_shards.proofs.lock.ShardLock.meet.Goals as goal

pub split_seat-spare-requires : goal.split_seat-spare-requires
split_seat-spare-requires g c =
    let kept = c.self.invariant in
    (c.requires.first_table ∙ ap (λ l. l.table) (sym c.self.view_is), omega (arith, kept.0, kept.2), may_cut g.S.Sharded.same (g.S.Sharded.content c.self.inside.board.shared.key) g.S.Sharded.shard c.args.a.now.id c.args.a.now.me.0)

pub join_seat-requires : goal.join_seat-requires
join_seat-requires g c =
    let kept = c.self.invariant in
    let cut = c.split_seat-spare.ensures in let b = c.replace-other.ensures.value in
    let one = subst IsIdle (sym cut.2) c.requires.first_idle in let two = subst IsIdle (sym (ap (λ s. s.me) b)) c.requires.second_idle in (
      cut.0 ∙ (c.requires.first_table ∙ ap (λ l. l.table) (sym c.self.view_is)),
      ap (λ s. s.table_id) b ∙ (c.requires.second_table ∙ ap (λ l. l.table) (sym c.self.view_is)),
      ap (λ m. m.1) two,
      omega (arith, kept.0, kept.2),
      may_join g.S.Sharded.same (g.S.Sharded.content c.self.inside.board.shared.key) g.S.Sharded.shard c.split_seat-spare.new.seat.id c.split_seat-spare.new.seat.me c.replace-other.result.id c.replace-other.result.me one two,
    )

pub load-requires : goal.load-requires
load-requires g c =
    let kept = c.self.invariant in
    let cut = c.split_seat-spare.ensures in let b = c.replace-other.ensures.value in let join = c.join_seat.ensures in
    let m = c.split_seat-spare.new.seat.me in let n = c.replace-other.result.me in
    let one = subst IsIdle (sym cut.2) c.requires.first_idle in let two = subst IsIdle (sym (ap (λ s. s.me) b)) c.requires.second_idle in (
      join.0 ∙ (cut.0 ∙ (c.requires.first_table ∙ ap (λ l. l.table) (sym c.self.view_is))),
      omega (arith, kept.0, kept.2),
      may_meet g.S.Sharded.same (g.S.Sharded.content c.self.inside.board.shared.key) g.S.Sharded.shard _ c.join_seat.new.seat.id c.join_seat.new.seat.me (caller_of m.0) (caller_of n.0) (seen_of m.0) (seen_of n.0) (both_idle m n c.join_seat.new.seat.me one two join.2),
    )

pub split_seat-requires : goal.split_seat-requires
split_seat-requires g c =
    let kept = c.self.invariant in
    let cut = c.split_seat-spare.ensures in let b = c.replace-other.ensures.value in let join = c.join_seat.ensures in
    let m = c.split_seat-spare.new.seat.me in let n = c.replace-other.result.me in
    let one = subst IsIdle (sym cut.2) c.requires.first_idle in let two = subst IsIdle (sym (ap (λ s. s.me) b)) c.requires.second_idle in
    let met = met_of g.S.Sharded.same (step c.self.inside.board.shared.table_id.slots 0 0 0 none) c.join_seat.new.seat.me c.load.new.seat.me c.load.result (caller_of m.0) (caller_of n.0) (seen_of m.0) (seen_of n.0) (both_idle m n c.join_seat.new.seat.me one two join.2) c.load.ensures.2 in (
      c.load.ensures.0 ∙ (join.0 ∙ (cut.0 ∙ (c.requires.first_table ∙ ap (λ l. l.table) (sym c.self.view_is)))),
      omega (arith, kept.0, kept.2),
      may_part g.S.Sharded.same (g.S.Sharded.content c.self.inside.board.shared.key) g.S.Sharded.shard c.load.new.seat.id c.load.new.seat.me.0 _ _ _ _ (ap (λ z. z.0) met.is),
    )

pub returns-clause-differ : goal.returns-clause-differ
returns-clause-differ g c =
    let cut = c.split_seat-spare.ensures in let b = c.replace-other.ensures.value in let join = c.join_seat.ensures in
    let m = c.split_seat-spare.new.seat.me in let n = c.replace-other.result.me in
    let one = subst IsIdle (sym cut.2) c.requires.first_idle in let two = subst IsIdle (sym (ap (λ s. s.me) b)) c.requires.second_idle in
    let met = met_of g.S.Sharded.same (step c.self.inside.board.shared.table_id.slots 0 0 0 none) c.join_seat.new.seat.me c.load.new.seat.me c.load.result (caller_of m.0) (caller_of n.0) (seen_of m.0) (seen_of n.0) (both_idle m n c.join_seat.new.seat.me one two join.2) c.load.ensures.2 in
    λ e. met.differ (ap (λ z. caller_of z.0) cut.2 ∙ (e ∙ sym (ap (λ s. caller_of s.me.0) b)))
