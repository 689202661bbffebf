use Rattle.std.proofs.Common.{ℕ}
use Rattle.spec_map.specs.Map.{Pairs}
use Rattle.share_works.proofs.Knowing.{numbers_known}
use Rattle.share_works.specs.Made.{clearing}
use Rattle.share_guards.proofs.whole.Raw+L+u64+u64+M.clear.Goals as goal

pub returns : goal.returns
returns g c =
    let h = c.hold.ensures.held in let m = c.guard.inside.seat in let n = c.hold.new.seat in
    let p : Pairs ℕ = g.M.Ordered.pairs h.0.under in
    let known = numbers_known m.table_id n.table_id m.me n.me c.hold.ensures.table g.M.Lent.same c.numbers_mean_themselves.ensures.same (clearing p) h.1 in
    record { made = rw (← c.guard.view_is) (p, known.0) }
