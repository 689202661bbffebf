use Rattle.std.proofs.Common.{rules}
use Rattle.olc_descend.proofs.Looks.{if_err}
use Rattle.olc_descend.proofs.looking.shared.Goals as goal

pub returns-in_err-shown-in-Some-Payload-clause-payload :
    goal.returns-in_err-shown-in-Some-Payload-clause-payload
returns-in_err-shown-in-Some-Payload-clause-payload g c = if_err _ c.from_residual.result (c.in-Some-Payload.payload.now, search rules)

pub returns-in_err-spare-in-Some-Payload-clause-payload :
    goal.returns-in_err-spare-in-Some-Payload-clause-payload
returns-in_err-spare-in-Some-Payload-clause-payload g c = if_err _ c.from_residual-in_err-spare-in-Some-Payload.result (c.in-Some-Payload.payload.now, search rules)

pub returns-in_err-question-in-Some-Payload-clause-payload :
    goal.returns-in_err-question-in-Some-Payload-clause-payload
returns-in_err-question-in-Some-Payload-clause-payload g c = if_err _ c.from_residual-in_err-question-in-Some-Payload.result (c.in-Some-Payload.payload.now, search rules)
