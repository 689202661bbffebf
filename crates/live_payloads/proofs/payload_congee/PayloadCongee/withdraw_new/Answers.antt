use Rattle.std.proofs.Common.{◌∙◌, Some, sym, ap, subst}
use Rattle.live_payloads.specs.Payloads.{IsPayloadOf}
use Rattle.live_payloads.proofs.payload_congee.PayloadCongee.withdraw_new.Goals as goal

pub returns-in-Some-clause-payload : goal.returns-in-Some-clause-payload
returns-in-Some-clause-payload g c = λ new issued.
    let h = subst (λ t. IsPayloadOf c.args.guard.now.log t new) c.in-Some.is issued in
    ap (λ x. Some x) (c.withdraw.ensures.payload h.0 h.2) ∙ sym h.1
