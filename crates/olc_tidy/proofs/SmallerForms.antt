-- THE SMALLER FORM: from the least form for the few children of a node two steps lead to it.
use Rattle.std.proofs.Common.{◌≡◌, ℕ, ◌≤◌, List, length, refl, sym, subst, ap, ◌∙◌, arith}
use Rattle.node_base.specs.Form.{Fits, few_in, smaller_form}
use Rattle.node_base.specs.declared.base_node.NodeType.{NodeType}
use Rattle.node_base.specs.declared.base_node.NodeType.TheVariants.{N4, N16, N48, N256}
use Rattle.spec_map.specs.Map.{Rises}
use Rattle.spec_node.specs.TableNode.{TableNode, Child}
use Rattle.node_table.specs.inner.Kinds.{mapped}
use Rattle.node_table.proofs.KindLaws.{length-mapped}
use Rattle.spec_olc.specs.Meaning.{child_of}
use Rattle.olc_state.specs.inner.CleanupFacts.{smaller_of}
use Rattle.olc_state.specs.inner.Meant.{meant_node}
use Rattle.olc_write.specs.inner.Makings.{IsCopy, IsLeast}
use Rattle.olc_write.proofs.CopyLaws.{copy_all}
use Rattle.olc_tidy.specs.inner.Tidying.{stepped}

-- few children fit into the smaller form
pub fits_few : (form : NodeType) (n : ℕ) → n ≤ few_in form → Fits (smaller_form form) n
fits_few N4 n few = omega (arith, few)
fits_few N16 n few = omega (arith, few)
fits_few N48 n few = omega (arith, few)
fits_few N256 n few = omega (arith, few)

pub steps_smaller : (form least : NodeType) (n : ℕ) → n ≤ few_in form → IsLeast least n
    → stepped (stepped least (smaller_form form)) (smaller_form form) ≡ smaller_form form
steps_smaller N4 N4 n few most = refl
steps_smaller N4 N16 n few most = absurd (omega (arith, few, most.0))
steps_smaller N4 N48 n few most = absurd (omega (arith, few, most.0))
steps_smaller N4 N256 n few most = absurd (omega (arith, few, most))
steps_smaller N16 N4 n few most = refl
steps_smaller N16 N16 n few most = absurd (omega (arith, few, most.0))
steps_smaller N16 N48 n few most = absurd (omega (arith, few, most.0))
steps_smaller N16 N256 n few most = absurd (omega (arith, few, most))
steps_smaller N48 N4 n few most = refl
steps_smaller N48 N16 n few most = refl
steps_smaller N48 N48 n few most = absurd (omega (arith, few, most.0))
steps_smaller N48 N256 n few most = absurd (omega (arith, few, most))
steps_smaller N256 N4 n few most = refl
steps_smaller N256 N16 n few most = refl
steps_smaller N256 N48 n few most = refl
steps_smaller N256 N256 n few most = absurd (omega (arith, few, most))

node_is : {M : Type 0} (n : TableNode M) (form : NodeType) (prefix : List ℕ) (children : List (ℕ × Child M)) → n.form ≡ form → n.prefix ≡ prefix → n.children ≡ children
    → n ≡ record { form = form; prefix = prefix; children = children }
node_is n form prefix children a b c = rw (← a, ← b, ← c) refl

module _ {P M : Type 0} (meaning : P → M) (a : TableNode P) (rises : Rises 0 256 a.children) (few : length a.children ≤ few_in a.form) where
  -- a copy after two steps
  pub smaller_is : (form : NodeType) (copy one two : TableNode P) → form ≡ smaller_form a.form → IsCopy meaning 256 a copy
      → one ≡ record copy { form = stepped copy.form form } → two ≡ record one { form = stepped one.form form }
      → meant_node meaning two ≡ smaller_of (meant_node meaning a)
  smaller_is form copy one two goal is first second =
      let f : Child P → Child M = child_of meaning in
      let count : length copy.children ≡ length a.children = sym (length-mapped f copy.children) ∙ (ap length (copy_all meaning a rises copy is) ∙ length-mapped f a.children) in
      let least : IsLeast copy.form (length a.children) = subst (λ (n : ℕ). IsLeast copy.form n) count is.least in
      let both : two ≡ record copy { form = stepped (stepped copy.form form) form } = second ∙ ap (λ (z : TableNode P). record z { form = stepped z.form form }) first in
      let form_is : stepped (stepped copy.form form) form ≡ smaller_form a.form =
      ap (λ (g : NodeType). stepped (stepped copy.form g) g) goal ∙ steps_smaller a.form copy.form (length a.children) few least in
      node_is (meant_node meaning two) (smaller_form a.form) a.prefix (mapped f a.children)
      (ap (λ (z : TableNode P). z.form) both ∙ form_is)
      (ap (λ (z : TableNode P). z.prefix) both ∙ is.prefix)
      (ap (λ (z : TableNode P). mapped f z.children) both ∙ copy_all meaning a rises copy is)
