use Rattle.std.proofs.Common.{refl, sym, subst, ap, ◌∙◌}
use Rattle.node_base.specs.Form.{stated_size}
use Rattle.node_base.specs.declared.base_node.NodeType.{NodeType}
use Rattle.node_table.specs.Charge.{Covers, add_charge}
use Rattle.spec_node.specs.TableNode.{TableNode}
use Rattle.olc_machine.proofs.Reclaiming.{freed_by, let_go, node_at, part_covered}
use Rattle.olc_machine.proofs.inner.Inner.free.Goals as goal

pub free-node-requires-clause-there : goal.free-node-requires-clause-there
free-node-requires-clause-there g c =
    let at = node_at g.P.HasMeaning.meaning g.A.Allocator.charge g.P.Payload.always_shared g.P.HasMeaning.same_meaning c.args.self.now.stock c.args.self.now.calls c.requires.sound c.args.slot c.requires.may in (at.node, at.here)

pub free-node-requires-clause-may : goal.free-node-requires-clause-may
free-node-requires-clause-may g c = let_go g.P.HasMeaning.meaning g.A.Allocator.charge g.P.Payload.always_shared g.P.HasMeaning.same_meaning c.args.self.now.stock c.args.self.now.calls c.requires.sound c.args.slot c.requires.may

pub deallocate-requires : goal.deallocate-requires
deallocate-requires g c =
    subst (λ (form : NodeType). Covers (g.A.Allocator.charge c.args.self.now.stock.budget) (stated_size form)) (sym (c.of-size.ensures ∙ (c.get_type.ensures ∙ c.base.ensures.form)))
    (part_covered g.P.HasMeaning.meaning g.A.Allocator.charge g.P.Payload.always_shared g.P.HasMeaning.same_meaning c.args.self.now.stock c.args.self.now.calls c.requires.sound c.args.slot c.requires.may
    c.free-node.new.self.nodes.slots c.free-node.result.form c.free-node.ensures.sizes)

pub returns : goal.returns
returns g c = record {
  freed =
      let at = node_at g.P.HasMeaning.meaning g.A.Allocator.charge g.P.Payload.always_shared g.P.HasMeaning.same_meaning c.args.self.now.stock c.args.self.now.calls c.requires.sound c.args.slot c.requires.may in
      freed_by g.P.HasMeaning.meaning g.A.Allocator.charge g.P.Payload.always_shared g.P.HasMeaning.same_meaning c.args.self.now.stock c.args.self.now.calls c.requires.sound c.args.slot c.requires.may
      (record c.args.self.now.stock { store = c.free-node.new.self; budget = c.deallocate.new.self }) c.free-node.result.form c.free-node.ensures.sets
      (ap (λ (n : TableNode g.P.HasMeaning.Meaning). n.form) (c.free-node.ensures.node at.node at.here))
      c.free-node.ensures.sizes c.free-node.ensures.admitted
      (c.deallocate.ensures ∙ ap (λ (form : NodeType). add_charge (g.A.Allocator.charge c.deallocate.new.self) (stated_size form)) (c.of-size.ensures ∙ (c.get_type.ensures ∙ c.base.ensures.form)))
      refl;
}
