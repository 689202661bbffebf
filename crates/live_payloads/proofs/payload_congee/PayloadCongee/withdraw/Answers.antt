use Rattle.std.proofs.Common.{subst}
use mathlib.Core.List.{IsPrefix}
use Rattle.live_payloads.proofs.Looked.{issued_on}
use Rattle.live_payloads.proofs.payload_congee.PayloadCongee.withdraw.Goals as goal

pub returns-clause-payload : goal.returns-clause-payload
returns-clause-payload g c = λ v issued.
    let log = c.take-payload.new.seen.log in
    let grown = subst (λ k. IsPrefix k.log log) c.guard.view_is c.take-payload.ensures.grown in
    c.agree.ensures.once c.args.ticket c.take-payload.result v c.take-payload.ensures.taken (issued_on c.args.guard.now.log log c.args.ticket v grown issued)
