use Rattle.std.proofs.Common.{◌≡◌, true, false, refl, ap, subst, sym, ◌∙◌}
use Rattle.std.specs.Bool.{IsTrue}
use Rattle.std.specs.Result.{OnOk, is_ok}
use Rattle.std.specs.Prelude.{Result, Ok, Err}
use denote.Enum.Bare.{sameb}
use Rattle.node_base.specs.Form.{next_form}
use Rattle.node_base.specs.contracts.base_node.NodeType.{the_type}
use Rattle.node_base.specs.declared.base_node.NodeType.{NodeType}
use Rattle.node_base.specs.declared.base_node.NodeType.TheVariants.{N4, N16, N48, N256}
use Rattle.olc_state.proofs.Unlike.{false_true, true_false}
use Rattle.olc_tidy.specs.inner.Tidying.{stepped}
use Rattle.olc_tidy.proofs.copying.step.Goals as goal

-- at the goal a node stays as it is, and else it grows
stays : (form goal : NodeType) → sameb the_type form goal ≡ true → stepped form goal ≡ form
stays N4 N4 e = refl
stays N4 N16 e = absurd (false_true e)
stays N4 N48 e = absurd (false_true e)
stays N4 N256 e = absurd (false_true e)
stays N16 N4 e = absurd (false_true e)
stays N16 N16 e = refl
stays N16 N48 e = absurd (false_true e)
stays N16 N256 e = absurd (false_true e)
stays N48 N4 e = absurd (false_true e)
stays N48 N16 e = absurd (false_true e)
stays N48 N48 e = refl
stays N48 N256 e = absurd (false_true e)
stays N256 N4 e = absurd (false_true e)
stays N256 N16 e = absurd (false_true e)
stays N256 N48 e = absurd (false_true e)
stays N256 N256 e = refl

grows : (form goal : NodeType) → sameb the_type form goal ≡ false → stepped form goal ≡ next_form form
grows N4 N4 e = absurd (true_false e)
grows N4 N16 e = refl
grows N4 N48 e = refl
grows N4 N256 e = refl
grows N16 N4 e = refl
grows N16 N16 e = absurd (true_false e)
grows N16 N48 e = refl
grows N16 N256 e = refl
grows N48 N4 e = refl
grows N48 N16 e = refl
grows N48 N48 e = absurd (true_false e)
grows N48 N256 e = refl
grows N256 N4 e = refl
grows N256 N16 e = refl
grows N256 N48 e = refl
grows N256 N256 e = absurd (true_false e)

on_ok : {T E : Type 0} (r : Result T E) (Q : Type 0) → IsTrue (is_ok r) → OnOk r Q → Q
on_ok (Ok v) Q ok h = h
on_ok (Err e) Q ok h = absurd (false_true ok)

pub returns-then-eq : goal.returns-then-eq
returns-then-eq g c =
    let is : c.get_type.result ≡ c.args.node.now.form = c.get_type.ensures ∙ c.base.ensures.form in
    let still : stepped c.args.node.now.form c.args.form ≡ c.args.node.now.form =
    subst (λ (f : NodeType). stepped f c.args.form ≡ f) is (stays c.get_type.result c.args.form (sym c.eq.ensures ∙ c.if-eq.true)) in
    λ e. ap (λ (f : NodeType). record c.args.node.now { form = f }) (sym still)

pub returns : goal.returns
returns g c =
    let is : c.get_type.result ≡ c.args.node.now.form = c.get_type.ensures ∙ c.base.ensures.form in
    let next : stepped c.args.node.now.form c.args.form ≡ next_form c.args.node.now.form =
    subst (λ (f : NodeType). stepped f c.args.form ≡ next_form f) is (grows c.get_type.result c.args.form (sym c.eq.ensures ∙ c.if-eq.false)) in
    λ e. on_ok c.grow.result _ (sym c.is_ok.ensures.value ∙ e) c.grow.ensures.ok ∙ ap (λ (f : NodeType). record c.args.node.now { form = f }) (sym next)
