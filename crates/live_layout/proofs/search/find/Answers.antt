use Rattle.std.proofs.Common.{ap, ◌∙◌, sym, Some, None}
use Rattle.node_base.specs.Form.{limit}
use Rattle.live_layout.proofs.StandLaws.{found-child, leaf-found}
use Rattle.live_layout.proofs.search.find.Goals as goal

pub returns-in-Some-clause-is : goal.returns-in-Some-clause-is
returns-in-Some-clause-is g c = λ c' n agree e f.
    found-child c' n c.args.byte c.in_list.result (Some c.in-Some.room) (ap limit f ∙ sym c.room_of.ensures.is ∙ c.in-Some.is) e (λ es h. c.in_list.ensures.is c' es agree h)

pub returns-in-Some-clause-payload : goal.returns-in-Some-clause-payload
returns-in-Some-clause-payload g c = λ c' n agree e f seven.
    leaf-found c' n c.args.byte c.in_list.result e seven
    (found-child c' n c.args.byte c.in_list.result (Some c.in-Some.room) (ap limit f ∙ sym c.room_of.ensures.is ∙ c.in-Some.is) e (λ es h. c.in_list.ensures.is c' es agree h))

pub returns-in-None-clause-is : goal.returns-in-None-clause-is
returns-in-None-clause-is g c = λ c' n agree e f.
    found-child c' n c.args.byte c.find.result None (ap limit f ∙ sym c.room_of.ensures.is ∙ c.in-None.is) e (λ es h. c.find.ensures.is c' es agree h)

pub returns-in-None-clause-payload : goal.returns-in-None-clause-payload
returns-in-None-clause-payload g c = λ c' n agree e f seven.
    leaf-found c' n c.args.byte c.find.result e seven
    (found-child c' n c.args.byte c.find.result None (ap limit f ∙ sym c.room_of.ensures.is ∙ c.in-None.is) e (λ es h. c.find.ensures.is c' es agree h))
