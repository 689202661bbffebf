use Rattle.std.proofs.Common.{◌∙◌, Some, ap}
use Rattle.word_slots.specs.declared.log.LogEntry.TheVariants.{Issued}
use Rattle.word_slots.proofs.Logs.{get_prefix, prefix_trans}
use Rattle.word_slots.proofs.slots.Slots.insert.Goals as goal

pub returns-in-Ok-clause-grown : goal.returns-in-Ok-clause-grown
returns-in-Ok-clause-grown g c =
    prefix_trans c.args.seen.now.log c.loop.seen.log c.insert_once.new.seen.log c.loop.invariant.2 c.insert_once.ensures.grown

pub returns-in-Ok-clause-issued : goal.returns-in-Ok-clause-issued
returns-in-Ok-clause-issued g c =
    let issued = c.in-Ok.ensures.issued in
    (issued.0, issued.1 ∙ ap (λ o. Some (Issued c.in-Ok.ticket o)) c.loop.invariant.1)

pub returns-in-Ok-clause-first : goal.returns-in-Ok-clause-first
returns-in-Ok-clause-first g c = λ v h.
    c.in-Ok.ensures.first v (h.0, get_prefix c.args.seen.now.log c.loop.seen.log c.loop.invariant.2 h.0 (Issued c.in-Ok.ticket v) h.1)
