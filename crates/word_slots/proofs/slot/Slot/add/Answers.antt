use Rattle.std.proofs.Common.{◌∙◌, ap}
use Rattle.logbook.specs.Pages.{inked}
use Rattle.word_slots.specs.declared.log.LogEntry.TheVariants.{Opened}
use Rattle.word_slots.proofs.Issuing.{adds_at, enters_at}
use Rattle.word_slots.proofs.slot.Slot.add.Goals as goal

pub compare_exchange-found-requires : goal.compare_exchange-found-requires
compare_exchange-found-requires g c =
    let offer = c.plain-offer.ensures in
    let pen = c.no_pen-pen.ensures in
    let table = c.requires.table in (
      c.requires.count.0,
      table,
      pen.0 ∙ table,
      offer.0,
      rw (pen.1, offer.3) (adds_at c.args.seen.now.log c.args.index (Opened c.args.index) c.args.count.now.key c.requires.count.1),
    )

pub compare_exchange-requires : goal.compare_exchange-requires
compare_exchange-requires g c =
    let offer = c.plain-entry.ensures in
    let first = c.compare_exchange-found.ensures in
    let given = first.7 c.if-found-index.false in
    let made = c.tracked-tickets.ensures in
    let held = made.2 ∙ ap (λ p. inked p 0) given in
    let table = c.requires.table in (
      c.requires.count.0,
      first.0 ∙ table,
      made.1 ∙ (first.5 ∙ (c.no_pen-pen.ensures.0 ∙ table)),
      offer.0,
      rw (held, offer.1, offer.3) (enters_at c.compare_exchange-found.new.seen.log c.args.index c.args.count.now.key c.requires.count.1),
    )
