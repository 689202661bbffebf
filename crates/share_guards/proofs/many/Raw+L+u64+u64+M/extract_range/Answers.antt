use Rattle.std.proofs.Common.{ℕ, length}
use Rattle.spec_map.specs.Map.{Pairs, between}
use Rattle.share_works.proofs.Knowing.{numbers_known}
use Rattle.share_works.specs.Made.{range_removal}
use Rattle.share_guards.proofs.many.Raw+L+u64+u64+M.extract_range.Goals as goal

pub returns-clause-made : goal.returns-clause-made
returns-clause-made g c =
    let h = c.extract.ensures.held in let m = c.guard.inside.seat in let n = c.extract.new.seat in
    let p : Pairs ℕ = h.0 in
    let known = numbers_known m.table_id n.table_id m.me n.me c.extract.ensures.table g.M.Lent.same c.numbers_mean_themselves.ensures.same
    (range_removal c.args.start c.args.end (length p) (between p c.args.start c.args.end)) h.1
    in
    rw (← c.guard.view_is) (length p, between p c.args.start c.args.end, known.0, h.2)
