use Rattle.std.proofs.Common.{sym, subst, Bool}
use Rattle.live_layout.specs.Order.{HasNearest}
use Rattle.live_scans.proofs.after.child_after.Goals as goal

pub returns-then-not-up-clause-is : goal.returns-then-not-up-clause-is
returns-then-not-up-clause-is g c = λ content n agrees encodes formed. subst (λ (z : Bool). HasNearest z n.children c.args.from c.nearest.result) (sym c.if-not-up.true) (c.nearest.ensures.is content n agrees encodes formed)

pub returns-in-None-clause-is : goal.returns-in-None-clause-is
returns-in-None-clause-is g c = λ content n agrees encodes formed. subst (λ (z : Bool). HasNearest z n.children c.args.from c.nearest-in-None.result) (sym c.if-not-up.false) (c.nearest-in-None.ensures.is content n agrees encodes formed)

pub returns-in-Some-clause-is : goal.returns-in-Some-clause-is
returns-in-Some-clause-is g c = λ content n agrees encodes formed. subst (λ (z : Bool). HasNearest z n.children c.args.from c.list_after.result) (sym c.if-not-up.false) (c.list_after.ensures.is content n agrees encodes formed)
