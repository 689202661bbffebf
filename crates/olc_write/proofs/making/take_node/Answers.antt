use Rattle.std.proofs.Common.{ap, refl, sym, ◌∙◌}
use Rattle.node_base.specs.Form.{stated_size}
use Rattle.node_base.specs.declared.base_node.NodeType.{NodeType}
use Rattle.node_table.specs.Charge.{add_charge}
use Rattle.spec_node.specs.TableNode.{TableNode}
use Rattle.olc_write.proofs.MakingStocks.{taken}
use Rattle.olc_write.proofs.making.take_node.Goals as goal

pub returns : goal.returns
returns g c =
    taken g.P.HasMeaning.meaning g.A.Allocator.charge c.args.stock.now _ c.requires.kept c.args.slot c.take_back-node.result.form c.requires.private c.take_back-node.ensures.sets
    (ap (λ (n : TableNode g.P.HasMeaning.Meaning). n.form) (sym (c.take_back-node.ensures.node c.requires.private.node c.requires.private.here)))
    c.take_back-node.ensures.sizes c.take_back-node.ensures.admitted
    (c.deallocate.ensures ∙ ap (λ (f : NodeType). add_charge (g.A.Allocator.charge c.deallocate.new.self) (stated_size f)) (c.of-size.ensures ∙ (c.get_type.ensures ∙ c.base.ensures.form))) refl
