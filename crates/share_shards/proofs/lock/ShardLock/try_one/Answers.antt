use Rattle.std.proofs.Common.{◌≡◌, ◌∙◌, ◌*◌, ℕ, ap, eqb, sym, subst, arith}
use Rattle.std.specs.Prelude.{Option}
use mathlib.Core.Option.{none}
use prog.Atomic.{either}
use Rattle.atomic_table.specs.Table.{Allows, Me, step}
use Rattle.share_shards.specs.inner.Rule.{TableRule}
use Rattle.share_shards.specs.inner.SeatView.{ShardView}
use Rattle.share_shards.specs.inner.Steps.{Holds, Tries}
use Rattle.share_shards.proofs.Holding.{caller_is}
use Rattle.share_shards.proofs.Moves.{may_try, taken_shut}
use Rattle.share_shards.proofs.lock.ShardLock.try_one.Goals as goal

pub compare_exchange-requires : goal.compare_exchange-requires
compare_exchange-requires g c =
    let kept = c.self.invariant in let within = c.requires.within in let loop = c.loop.invariant in
    let content = g.S.Sharded.content g.B.Limit.limit in let shard = g.S.Sharded.shard in let i : ℕ = c.args.shard in
    let M : Type 0 = Me (Option g.row.S.Denot) (ShardView g.row.T.Denot g.row.S.Denot) in
    let slots : ◌≡◌ {A = ℕ} c.args.self.now.table.slots c.self.inside.board.shared.table_id.slots = ap (λ l. l.table.slots) (sym c.self.view_is) in
    let limit : ◌≡◌ {A = ℕ} g.B.Limit.limit c.self.inside.board.shared.key = c.requires.limit ∙ ap (λ l. l.limit) (sym c.self.view_is) in
    let m : M = c.loop.seat.me in
    let holds = subst (λ (z : M). Holds content (shard c.args.self.now.table.slots) z) (sym loop.1) c.requires.holds in (
      loop.0 ∙ (c.requires.table ∙ ap (λ l. l.table) (sym c.self.view_is)),
      omega (arith, kept.0, within, slots),
      subst (λ (z : ℕ × ℕ). Allows (TableRule g.S.Sharded.same (g.S.Sharded.content z.1) shard) z.0 c.loop.seat.id m (8 * i) (λ n. either (eqb n 0) 1 n) (Tries content (shard z.0) (step z.0 (8 * i) 0 1 none) m)) (λ k. (slots k, limit k))
          (may_try g.S.Sharded.same content shard c.args.self.now.table.slots c.loop.seat.id i 1 m within taken_shut (caller_is content (shard c.args.self.now.table.slots) m holds)),
    )
