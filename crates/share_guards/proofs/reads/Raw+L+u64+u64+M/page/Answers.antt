use Rattle.std.proofs.Common.{ℕ, subst}
use Rattle.std.specs.Prelude.{IfSome}
use Rattle.share_holds.specs.Moments.{HasPage}
use Rattle.share_rule.specs.Known.{Known}
use Rattle.share_guards.proofs.reads.Raw+L+u64+u64+M.page.Goals as goal

pub returns-clause-written : goal.returns-clause-written
returns-clause-written g c =
    subst (λ (k : Known ℕ). IfSome c.page.result (λ count. HasPage g.M.Lent.same k.seen g.E.RangeEntry.entry c.args.start c.args.end c.args.buffer.now count c.page.new.buffer))
    c.guard.view_is c.page.ensures.written
