use Rattle.share_works.proofs.Knowing.{numbers_known}
use Rattle.share_works.specs.Made.{retaining}
use Rattle.share_guards.proofs.many.Raw+L+u64+u64+M.retain.Goals as goal

pub returns-clause-made : goal.returns-clause-made
returns-clause-made g c =
    let h = c.retain.ensures.held in let m = c.guard.inside.seat in let n = c.retain.new.seat in
    let known = numbers_known m.table_id n.table_id m.me n.me c.retain.ensures.table g.M.Lent.same c.numbers_mean_themselves.ensures.same (retaining h.0 h.1) h.2 in
    rw (← c.guard.view_is) (h.0, h.1, known.0, h.3)
