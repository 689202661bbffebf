use Rattle.std.proofs.Common.{ap, ◌∙◌, sym, Some, None}
use Rattle.node_base.specs.Form.{limit}
use Rattle.live_layout.proofs.ChildLaws.{nearest_child}
use Rattle.live_layout.proofs.nearest.nearest.Goals as goal

pub returns-in-Some-clause-is : goal.returns-in-Some-clause-is
returns-in-Some-clause-is g c = λ w n a e f.
    nearest_child w n c.args.up c.args.from c.in_list.result (Some c.in-Some.room) (ap limit f ∙ sym c.room_of.ensures.is ∙ c.in-Some.is) e (λ es h. c.in_list.ensures.is w es a h)

pub returns-in-None-clause-is : goal.returns-in-None-clause-is
returns-in-None-clause-is g c = λ w n a e f.
    nearest_child w n c.args.up c.args.from c.in_places.result None (ap limit f ∙ sym c.room_of.ensures.is ∙ c.in-None.is) e (λ es h. c.in_places.ensures.is w es a h)
