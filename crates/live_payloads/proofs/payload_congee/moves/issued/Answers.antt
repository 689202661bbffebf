use Rattle.std.proofs.Common.{◌^◌, ◌∙◌, arith}
use Rattle.live_payloads.proofs.Moving.{not_there, issued_next}
use Rattle.live_payloads.proofs.payload_congee.moves.issued.Goals as goal

pub unreachable-requires : goal.unreachable-requires
unreachable-requires g c =
    let are = c.deref-number-items.ensures.value ∙ c.in_ok-numbers.ensures in
    not_there c.args.owned.now.pairs c.deref-number-items.result.now c.loop-number.number-index are c.loop-number-test.true c.in_default.ensures

pub loop-number-preserved : goal.loop-number-preserved
loop-number-preserved g c =
    let are = c.deref-number-items.ensures.value ∙ c.in_ok-numbers.ensures in
    let entered = c.in_ok-ticket.ensures in
    let issued = issued_next g.P.Payload.alike (2 ^ 64) c.loop-number.seen.log c.entered.new.seen.log c.args.owned.now.pairs c.deref-number-items.result.now c.loop-number.tickets.items c.push.new.self.items c.loop-number.number-index c.in_ok-ticket.ticket c.in-Some.payload.now c.in_ok-share.field-0 c.law_ordered.ensures are c.loop-number-test.true c.in-Some.ensures entered.grown entered.issued c.in_ok-share.ensures.alike c.in_ok-push.ensures.items c.loop-number.invariant.1 in
    (entered.table ∙ c.loop-number.invariant.0, issued)
