use Rattle.std.proofs.Common.{◌≡◌, ℕ, sym, ap, arith}
use Rattle.share_shards.specs.Held.{values_of}
use Rattle.share_shards.proofs.Holding.{held_by}
use Rattle.share_shards.proofs.lock.ShardLock.release.Goals as goal

pub append-requires-clause-within : goal.append-requires-clause-within
append-requires-clause-within g c =
    let kept = c.self.invariant in let slots : ◌≡◌ {A = ℕ} c.args.self.now.table.slots c.self.inside.board.shared.table_id.slots = ap (λ l. l.table.slots) (sym c.self.view_is) in
    omega (arith, kept.2, slots)

pub returns-clause-held : goal.returns-clause-held
returns-clause-held g c =
    let m = c.args.seat.now.me in
    held_by g.S.Sharded.same (g.S.Sharded.content c.args.self.now.limit) (g.S.Sharded.shard c.args.self.now.table.slots) g.D.Done.operations m c.append.new.seat.me c.release_all.new.seat.me (values_of m.1) c.append.ensures.appended c.release_all.ensures.idle c.release_all.ensures.caller c.release_all.ensures.seen
