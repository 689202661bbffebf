use Rattle.std.proofs.Common.{◌∙◌, ap, sym, Some}
use Rattle.word_slots.specs.declared.log.LogEntry.TheVariants.{Opened, Issued}
use Rattle.word_slots.specs.Tickets.{HasOpened}
use Rattle.word_slots.proofs.Logs.{get_prefix}
use Rattle.word_slots.proofs.Issuing.{issues_at}
use Rattle.word_slots.proofs.slot.Slot.issue.Goals as goal

pub compare_exchange-found-requires : goal.compare_exchange-found-requires
compare_exchange-found-requires g c =
    let n = c.self.inside in
    let inv = c.self.invariant in
    let learned = c.learn.ensures in
    let log = c.learn.new.self.log in
    let offer = c.plain-offer.ensures in
    let pen = c.no_pen-pen.ensures in
    let table = learned.0 ∙ (c.requires.table ∙ sym (ap (λ x. x.book) c.self.view_is)) in
    let opened : HasOpened log n.index = (inv.5.0, get_prefix n.seen.log log learned.3 inv.5.0 (Opened n.index) inv.5.1) in (
      inv.0,
      table,
      pen.0 ∙ table,
      offer.0,
      rw (pen.1, offer.1, offer.3) (issues_at log n.index c.args.generation c.ticket_of-ticket.result c.args.value opened c.ticket_of-ticket.ensures.slot c.ticket_of-ticket.ensures.generation n.count.key inv.1),
    )

pub returns-clause-issued : goal.returns-clause-issued
returns-clause-issued g c =
    let known = c.compare_exchange-found.ensures.7 c.if-found-generation.false in
    let asked = c.plain-offer.ensures.1 in (known.0, known.1 ∙ ap (λ x. Some x) asked)

pub returns-clause-first : goal.returns-clause-first
returns-clause-first g c =
    let known = c.compare_exchange-found.ensures.7 c.if-found-generation.false in
    let ticket = c.ticket_of-ticket.result in λ v h.
    known.2 ticket c.args.value c.plain-offer.ensures.1 v (h.0, get_prefix c.args.seen.now.log c.learn.new.self.log c.learn.ensures.2 h.0 (Issued ticket v) h.1)
