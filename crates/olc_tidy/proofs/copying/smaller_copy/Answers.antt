use Rattle.std.proofs.Common.{refl, ap, ◌∙◌}
use Rattle.node_base.specs.Form.{smaller_form}
use Rattle.node_base.specs.declared.base_node.NodeType.{NodeType}
use Rattle.olc_tidy.proofs.SmallerForms.{smaller_is}
use Rattle.olc_tidy.proofs.copying.smaller_copy.Goals as goal

pub returns-then-step-2 : goal.returns-then-step-2
returns-then-step-2 g c =
    smaller_is g.P.HasMeaning.meaning c.args.node.now c.base.ensures.ascending c.requires.few c.smaller-form.result c.in_ok-copy.copy c.step.new.node c.step-then-step.new.node
    (c.smaller-form.ensures ∙ ap (λ (f : NodeType). smaller_form f) (c.get_type.ensures ∙ c.base.ensures.form)) c.in_ok-copy.ensures (c.if-step.ensures refl) (c.if-step-2.ensures refl)
