use Rattle.std.proofs.Common.{rules, sym, subst, ◌≡◌, ◌∙◌}
use Rattle.node_base.specs.declared.base_node.NodeType.TheVariants.{N4}
use Rattle.live_growth.specs.FreeNodes.{HasFreeNodes}
use Rattle.live_growth.proofs.FreeNodes.{free_nodes_put, free_nodes_second}
use Rattle.live_growth.proofs.free_nodes.FreeNodes.keep.Goals as goal

pub returns-then-get-eq0 : goal.returns-then-get-eq0
returns-then-get-eq0 c = record {
  kept = λ v h s. subst (HasFreeNodes v) (sym c.set.ensures) (free_nodes_put v c.args.self.now c.form_below-form.result c.args.name h (λ some. record { sighted = s; in_form = sym (c.form_below-form.ensures s.spot.shape.key s.spot.shape.form s.named) }));
}

pub returns-then-eq : goal.returns-then-eq
returns-then-eq c =
    let small : c.form_below-form.result ≡ N4 = search rules in
    record {
      kept = λ v h s. free_nodes_second v c.args.self.now c.args.name h (λ some. record { sighted = s; in_form = sym (c.form_below-form.ensures s.spot.shape.key s.spot.shape.form s.named) ∙ small });
    }
