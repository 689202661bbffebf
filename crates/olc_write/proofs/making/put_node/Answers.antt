use Rattle.std.proofs.Common.{◌<◌, ◌^◌, ap, refl, rules, ◌∙◌}
use Rattle.node_base.specs.Form.{stated_size}
use Rattle.node_base.specs.declared.base_node.NodeType.{NodeType}
use Rattle.node_table.specs.Charge.{add_charge}
use Rattle.olc_write.proofs.MakingStocks.{added}
use Rattle.olc_write.proofs.making.put_node.Goals as goal

pub returns-in-Ok-add-clause-some : goal.returns-in-Ok-add-clause-some
returns-in-Ok-add-clause-some g c =
    let small : c.in-Ok-add.slot < 2 ^ 64 = search rules in
    added g.P.HasMeaning.meaning g.A.Allocator.charge c.args.stock.now _ c.requires c.in-Ok-add.slot _ small c.in-Ok-add.ensures.free c.in-Ok-add.ensures.sets c.in-Ok-add.ensures.sizes c.in-Ok-add.ensures.admitted
    (c.in-Ok.ensures.ok ∙ ap (λ (f : NodeType). add_charge (g.A.Allocator.charge c.args.stock.now.budget) (stated_size f)) (c.of-size.ensures ∙ (c.get_type.ensures ∙ c.base.ensures.form))) refl
