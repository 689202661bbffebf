use Rattle.std.proofs.Common.{◌≡◌, ◌∙◌, ◌*◌, ℕ, ap, sym, subst, arith}
use Rattle.std.specs.Prelude.{Option}
use mathlib.Core.Option.{none}
use Rattle.atomic_table.specs.Table.{Allows, Me, step}
use Rattle.share_shards.specs.Lock.{LockView}
use Rattle.share_shards.specs.inner.Rule.{TableRule}
use Rattle.share_shards.specs.inner.SeatView.{ShardView}
use Rattle.share_shards.specs.inner.Steps.{Releases, caller_of, seen_of, pairs_of}
use Rattle.share_shards.proofs.Holding.{last_held, last_is, last_new}
use Rattle.share_shards.proofs.Moves.{may_release}
use Rattle.share_shards.proofs.lock.ShardLock.release_one.Goals as goal

pub swap-requires : goal.swap-requires
swap-requires g c =
    let kept = c.self.invariant in let within = c.requires.within in let last = c.requires.last in
    let content = g.S.Sharded.content c.args.self.now.limit in let shard = g.S.Sharded.shard in let i : ℕ = c.args.shard in
    let M : Type 0 = Me (Option g.row.S.Denot) (ShardView g.row.T.Denot g.row.S.Denot) in
    let slots : ◌≡◌ {A = ℕ} c.args.self.now.table.slots c.self.inside.board.shared.table_id.slots = ap (λ l. l.table.slots) (sym c.self.view_is) in
    let m : M = c.args.seat.now.me in
    let mine = shard c.args.self.now.table.slots in
    let b = last_held content mine m i last.0 last.1 in (
      c.requires.table ∙ ap (λ l. l.table) (sym c.self.view_is),
      omega (arith, kept.0, within, slots),
      subst (λ (l : LockView). Allows (TableRule g.S.Sharded.same (g.S.Sharded.content l.limit) shard) l.table.slots c.args.seat.now.id m (8 * i) (λ _. 0) (Releases (shard l.table.slots) (step l.table.slots (8 * i) 0 0 none) m)) (sym c.self.view_is)
          (may_release g.S.Sharded.same content shard c.args.self.now.table.slots c.args.seat.now.id i (caller_of m.0) (seen_of m.0) (pairs_of m.0) b.value b.held m (last_new content mine m i last.0 c.requires.holds b) (last_is content mine m i last.0 c.requires.holds b)),
    )
