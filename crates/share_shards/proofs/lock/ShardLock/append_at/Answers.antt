use Rattle.std.proofs.Common.{◌≡◌, ◌∙◌, ◌*◌, ℕ, ap, sym, subst, arith}
use Rattle.std.specs.Prelude.{Option}
use mathlib.Core.Option.{none}
use Rattle.atomic_table.specs.Table.{Allows, Me, step}
use Rattle.share_shards.specs.inner.Rule.{TableRule}
use Rattle.share_shards.specs.inner.SeatView.{ShardView}
use Rattle.share_shards.specs.inner.Steps.{Appends}
use Rattle.share_shards.proofs.Moves.{may_append}
use Rattle.share_shards.proofs.lock.ShardLock.append_at.Goals as goal

pub load-requires : goal.load-requires
load-requires g c =
    let kept = c.self.invariant in let within = c.requires.within in let may = c.requires.may in
    let content = g.S.Sharded.content g.B.Limit.limit in let shard = g.S.Sharded.shard in let i : ℕ = c.args.shard in
    let M : Type 0 = Me (Option g.row.S.Denot) (ShardView g.row.T.Denot g.row.S.Denot) in
    let slots : ◌≡◌ {A = ℕ} c.args.self.now.table.slots c.self.inside.board.shared.table_id.slots = ap (λ l. l.table.slots) (sym c.self.view_is) in
    let limit : ◌≡◌ {A = ℕ} g.B.Limit.limit c.self.inside.board.shared.key = c.requires.limit ∙ ap (λ l. l.limit) (sym c.self.view_is) in
    let m : M = c.args.seat.now.me in (
      c.requires.table ∙ ap (λ l. l.table) (sym c.self.view_is),
      omega (arith, kept.0, within, slots),
      subst (λ (z : ℕ × ℕ). Allows (TableRule g.S.Sharded.same (g.S.Sharded.content z.1) shard) z.0 c.args.seat.now.id m (8 * i) (λ n. n) (Appends g.S.Sharded.same content (shard z.0) g.D.Done.operations (step z.0 (8 * i) 0 0 none) m)) (λ k. (slots k, limit k))
          (may_append g.S.Sharded.same content shard g.D.Done.operations c.args.self.now.table.slots c.args.seat.now.id (8 * i) m may.0 may.1 may.2),
    )
