use Rattle.std.proofs.Common.{ℕ, ◌+◌, [], ◌∷◌, ap}
use Rattle.std.specs.Prelude.{take}
use Rattle.spec_map.specs.Call.{range, ranged}
use Rattle.spec_map.specs.Map.{between}
use Rattle.share_rule.specs.inner.Steps.{known_of}
use Rattle.share_works.proofs.Knowing.{numbers_known}
use Rattle.share_works.proofs.Writing.{first_written}
use Rattle.share_works.specs.Made.{returned}
use Rattle.share_guards.proofs.whole.Raw+L+u64+u64+M.range_inclusive.Goals as goal

pub returns : goal.returns
returns g c =
    let h = c.hold.ensures.held in let w = c.hold.new.work in let m = c.guard.inside.seat in let n = c.hold.new.seat in
    let all = between (g.M.Ordered.pairs h.0.under) w.start (w.last + 1) in
    record {
      made = rw (← c.guard.view_is) (first_written g.E.RangeEntry.entry c.args.buffer.now c.hold.new.buffer all (known_of m.table_id m.me) (known_of n.table_id n.me)
          c.args.start w.start (c.args.last + 1) (w.last + 1) w.room w.written h.2.0 (ap (λ (n : ℕ). n + 1) h.2.1) h.2.2
          (numbers_known m.table_id n.table_id m.me n.me c.hold.ensures.table g.M.Lent.same c.numbers_mean_themselves.ensures.same (returned (range w.start (w.last + 1) w.room) (ranged (take w.room all)) ∷ []) h.1) h.2.3);
    }
