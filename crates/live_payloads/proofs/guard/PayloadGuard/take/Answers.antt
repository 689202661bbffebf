use Rattle.std.proofs.Common.{◌∙◌, ap, subst}
use mathlib.Core.List.{IsPrefix}
use Rattle.word_slots.proofs.Logs.{prefix_trans}
use Rattle.live_payloads.proofs.Looked.{taken_is}
use Rattle.live_payloads.proofs.guard.PayloadGuard.take.Goals as goal

pub returns-clause-map : goal.returns-clause-map
returns-clause-map g c =
    let is = c.self.view_is in
    let log = c.into_inner-taken.new.seen.log in (
      ap (λ k. k.tickets.book) is,
      c.into_inner-taken.ensures.table ∙ (c.inform.ensures.table ∙ ap (λ k. k.table) is),
      subst (λ k. IsPrefix k.log log) is (prefix_trans c.self.inside.seen.log c.inform.new.seen.log log c.inform.ensures.grown c.into_inner-taken.ensures.grown),
    )

pub returns-clause-taken : goal.returns-clause-taken
returns-clause-taken g c =
    taken_is c.into_inner-taken.result c.args.lent.value c.inform.new.seen.log c.into_inner-taken.new.seen.log c.args.lent.ticket c.inform.ensures.issued c.into_inner-taken.ensures.grown c.into_inner-taken.ensures.taken c.agree.ensures.once
