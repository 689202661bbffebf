use Rattle.std.proofs.Common.{refl}
use Rattle.spec_node.specs.TableNode.{looked_at}
use Rattle.olc_write.proofs.CopyLaws.{copy_absent, copy_end, copy_kind, copy_next, copy_start}
use Rattle.olc_write.proofs.making.copied.Goals as goal

pub children-init : goal.children-init
children-init g c = copy_start g.P.HasMeaning.meaning c.args.node.now c.empty_as.ensures.ascending c.in_ok-copy.copy c.in_ok-copy.ensures.empty

pub put_in-requires-clause-absent : goal.put_in-requires-clause-absent
put_in-requires-clause-absent g c =
    copy_absent g.P.HasMeaning.meaning c.args.node.now c.empty_as.ensures.ascending c.children.from c.in-Some.byte (looked_at c.in-Some.child) c.in-Some.ensures.order c.in-Some.ensures.some c.children.copy c.children.invariant

pub put_in-requires-clause-kind : goal.put_in-requires-clause-kind
put_in-requires-clause-kind g c =
    copy_kind g.P.HasMeaning.meaning c.args.node.now c.empty_as.ensures.ascending c.children.from c.in-Some.byte (looked_at c.in-Some.child) c.in-Some.ensures.order c.in-Some.ensures.some c.children.copy c.in_ok-child.child c.children.invariant
    c.requires c.in_ok-child.ensures

pub children-preserved : goal.children-preserved
children-preserved g c =
    copy_next g.P.HasMeaning.meaning c.args.node.now c.empty_as.ensures.ascending c.children.from c.in-Some.byte (looked_at c.in-Some.child) c.in-Some.ensures.order c.in-Some.ensures.some c.children.copy c.put_in.new.node c.in_ok-child.child c.children.invariant
    c.in_ok-child.ensures (c.if-not-put_in.ensures.prefix refl) (c.if-not-put_in.ensures.children refl) (c.if-not-put_in.ensures.least refl)

pub returns : goal.returns
returns g c = copy_end g.P.HasMeaning.meaning c.args.node.now c.empty_as.ensures.ascending c.children.from c.children.copy c.in_default.ensures.none c.children.invariant
