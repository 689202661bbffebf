use Rattle.std.proofs.Common.{inr}
use Rattle.live_scans.proofs.Pages.{waited_more}
use Rattle.live_copies.proofs.Inserted.{if_not_moved}
use Rattle.live_payloads.proofs.Moving.{all_moved}
use Rattle.live_payloads.proofs.payload_congee.PayloadCongee.moved_out.Goals as goal

pub returns-in_err-places-clause-refused : goal.returns-in_err-places-clause-refused
returns-in_err-places-clause-refused g c =
    rw (← c.guard.view_is) (if_not_moved c.from_residual-in_err-places.result c.guard.inside.guard c.copied.new.guard c.in_ok-tickets.tickets.items c.in_ok-tickets.ensures.copied)

pub returns-clause-moved : goal.returns-clause-moved
returns-clause-moved g c =
    rw (← c.guard.view_is) (all_moved c.guard.inside.guard c.copied.new.guard c.placed.new.seen.log c.in_ok-tickets.tickets.items c.deref-2.result.now c.placed.result.pairs c.in_ok-tickets.ensures.copied c.deref-2.ensures.value c.placed.ensures.keys c.placed.ensures.placed)

pub returns-clause-map : goal.returns-clause-map
returns-clause-map g c =
    let copied = c.in_ok-tickets.ensures.copied in
    let waited = waited_more c.guard.inside.guard copied.0 c.copied.new.guard copied.1 (inr copied.2.seen) in
    rw (← c.guard.view_is) (waited.book, c.placed.ensures.table, c.placed.ensures.grown)
