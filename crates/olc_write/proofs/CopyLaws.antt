-- A copy of a node, child by child, by what its payloads mean.
use Rattle.std.proofs.Common.{◌≡◌, ◌≢◌, ℕ, ◌+◌, ◌<◌, ◌≤◌, ◌↔◌, List, [], ◌∷◌, length, Option, Some, None, inl, inr, refl, sym, subst, ap, ◌∙◌, arith}
use Rattle.std.proofs.lemmas.Bool.{eq-eqb, cases_lt}
use Rattle.std.proofs.lemmas.Bool.Decides.{eqb_tells}
use Rattle.node_base.specs.Form.{Fits, next_form}
use Rattle.node_base.specs.declared.base_node.NodeType.{NodeType}
use Rattle.node_base.specs.declared.base_node.NodeType.TheVariants.{N4, N16, N48, N256}
use Rattle.spec_map.specs.Map.{Rises, between, lookup, put}
use Rattle.spec_map.proofs.JoinLaws.{lookup-above}
use Rattle.spec_map.proofs.MapLaws.{Rises-between, Rises-put, lookup-between_inside, lookup-between_outside, lookup-below, lookup-put_same, lookup-put_other, same_from_lookups}
use Rattle.spec_map.proofs.ByteMapLaws.{length-put_new}
use Rattle.spec_node.specs.TableNode.{MayHave, TableNode, Child}
use Rattle.spec_node.specs.declared.child.Child.TheVariants.{Payload, Node as below_at}
use Rattle.node_table.specs.inner.Kinds.{mapped}
use Rattle.node_table.proofs.KindLaws.{between-mapped, length-mapped, lookup-mapped_none, mapped-absent, put-mapped, Rises-mapped}
use Rattle.spec_olc.specs.Meaning.{child_of}
use Rattle.olc_state.specs.declared.stage.Task.{Task}
use Rattle.olc_state.specs.inner.Meant.{meant_node}
use Rattle.olc_state.proofs.Options.{none_some}
use Rattle.olc_write.specs.inner.Makings.{AreOfKind, IsCopy, IsLeast, IsOwnOf}

module _ {C : Type 0} (es : List (ℕ × C)) (rises : Rises 0 256 es) where
  -- none is below zero
  pub between_zero : between es 0 0 ≡ []
  between_zero = same_from_lookups 0 256 0 256 (between es 0 0) [] (Rises-between 0 256 0 0 es rises) tt (λ k. lookup-between_outside es 0 0 k (inr (omega arith)))

  pub between_all : between es 0 256 ≡ es
  between_all = same_from_lookups 0 256 0 256 (between es 0 256) es (Rises-between 0 256 0 256 es rises) rises (λ k.
      elim (cases_lt k 256) [
        | inl small ↦ lookup-between_inside es 0 256 k (omega arith) small
        | inr wide ↦ lookup-between_outside es 0 256 k (inr wide) ∙ sym (lookup-above 0 256 es k rises wide)
      ])

  -- the rest is empty
  pub between_end : (from : ℕ) → between es from 256 ≡ [] → between es 0 from ≡ es
  between_end from none = same_from_lookups 0 256 0 256 (between es 0 from) es (Rises-between 0 256 0 from es rises) rises (λ k.
      elim (cases_lt k from) [
        | inl below ↦ lookup-between_inside es 0 from k (omega arith) below
        | inr on ↦ lookup-between_outside es 0 from k (inr on) ∙ sym (elim (cases_lt k 256) [
          | inl small ↦ sym (lookup-between_inside es from 256 k on small) ∙ ap (λ x. lookup x k) none
          | inr wide ↦ lookup-above 0 256 es k rises wide
        ])
      ])

  module _ (from b : ℕ) (c : C) (order : from ≤ b) (first : between es from 256 ≡ (b, c) ∷ between es (b + 1) 256) where
    rest_rises : Rises 0 256 ((b, c) ∷ between es (b + 1) 256)
    rest_rises = subst (λ (x : List (ℕ × C)). Rises 0 256 x) first (Rises-between 0 256 from 256 es rises)

    pub first_small : b < 256
    first_small = rest_rises.1

    pub first_there : lookup es b ≡ Some c
    first_there = sym (lookup-between_inside es from 256 b order first_small) ∙ (ap (λ x. lookup x b) first ∙ rw (eq-eqb b b refl) refl)

    -- no child is before it
    first_least : (k : ℕ) → from ≤ k → k < b → lookup es k ≡ None
    first_least k on below =
        let small : b < 256 = first_small in
        sym (lookup-between_inside es from 256 k on (omega (arith, small, below))) ∙ (ap (λ x. lookup x k) first ∙ lookup-below b 256 ((b, c) ∷ between es (b + 1) 256) k (omega arith, small, rest_rises.2) below)

    pub between_next : between es 0 (b + 1) ≡ put (between es 0 from) b c
    between_next =
        let before : Rises 0 256 (between es 0 from) = Rises-between 0 256 0 from es rises in
        same_from_lookups 0 256 0 256 (between es 0 (b + 1)) (put (between es 0 from) b c) (Rises-between 0 256 0 (b + 1) es rises) (Rises-put 0 256 (between es 0 from) b c before (omega arith) first_small) (λ k.
        elim (eqb_tells k b) [
          | inl e ↦ subst (λ z. lookup (between es 0 (b + 1)) z ≡ lookup (put (between es 0 from) b c) z) (sym e.1)
              (lookup-between_inside es 0 (b + 1) b (omega arith) (omega arith) ∙ (first_there ∙ sym (lookup-put_same (between es 0 from) b c)))
          | inr far ↦ elim (cases_lt k from) [
            | inl below ↦ lookup-between_inside es 0 (b + 1) k (omega arith) (omega (arith, below, order)) ∙ (sym (lookup-between_inside es 0 from k (omega arith) below) ∙ sym (lookup-put_other (between es 0 from) b c k far.1))
            | inr on ↦
                let none : lookup (put (between es 0 from) b c) k ≡ None = lookup-put_other (between es 0 from) b c k far.1 ∙ lookup-between_outside es 0 from k (inr on) in
                elim (cases_lt k b) [
                  | inl less ↦ lookup-between_inside es 0 (b + 1) k (omega arith) (omega (arith, less)) ∙ (first_least k on less ∙ sym none)
                  | inr more ↦ let off : k ≢ b = far.1 in lookup-between_outside es 0 (b + 1) k (inr (omega (arith, more, off))) ∙ sym none
                ]
          ]
        ])

-- the smallest form for one more is the next one, where there was no room
pub least_next : (form g : NodeType) (n : ℕ) → Fits form n → (Fits form (n + 1) → ⊥) → IsLeast g (n + 1) → g ≡ next_form form
least_next N256 g n fits full least = absurd (full tt)
least_next N4 N4 n fits full least = absurd (full least)
least_next N4 N16 n fits full least = refl
least_next N4 N48 n fits full least = absurd (omega (arith, fits, least.0))
least_next N4 N256 n fits full least = absurd (omega (arith, fits, least))
least_next N16 N4 n fits full least = absurd (full (omega (arith, least)))
least_next N16 N16 n fits full least = absurd (full least.1)
least_next N16 N48 n fits full least = refl
least_next N16 N256 n fits full least = absurd (omega (arith, fits, least))
least_next N48 N4 n fits full least = absurd (full (omega (arith, least)))
least_next N48 N16 n fits full least = absurd (full (omega (arith, least.1)))
least_next N48 N48 n fits full least = absurd (full least.1)
least_next N48 N256 n fits full least = refl

node_is : {M : Type 0} (n : TableNode M) (form : NodeType) (prefix : List ℕ) (children : List (ℕ × Child M)) → n.form ≡ form → n.prefix ≡ prefix → n.children ≡ children
    → n ≡ record { form = form; prefix = prefix; children = children }
node_is n form prefix children a b c = rw (← a, ← b, ← c) refl

module _ {P M : Type 0} (meaning : P → M) where
  -- a child is of a node's kind if one of the same meaning is
  pub may_meant : (p : List ℕ) (c : Child P) → MayHave p c → MayHave p (child_of meaning c)
  may_meant p (Payload v) m = m
  may_meant p (below_at s) m = m

  pub may_from : (p : List ℕ) (c : Child P) → MayHave p (child_of meaning c) → MayHave p c
  may_from p (Payload v) m = m
  may_from p (below_at s) m = m

  module _ (a : TableNode P) (rises : Rises 0 256 a.children) where
    pub copy_start : (b : TableNode P) → b ≡ record { form = N4; prefix = a.prefix; children = [] } → IsCopy meaning 0 a b
    copy_start b is = subst (λ (z : TableNode P). IsCopy meaning 0 a z) (sym is) (record {
      prefix = refl;
      children = sym (between_zero (mapped (child_of meaning) a.children) (Rises-mapped (child_of meaning) 0 256 a.children rises));
      least = omega arith;
    })

    pub copy_end : (from : ℕ) (b : TableNode P) → between a.children from 256 ≡ [] → IsCopy meaning from a b → IsCopy meaning 256 a b
    copy_end from b none copy =
        let ms : List (ℕ × Child M) = mapped (child_of meaning) a.children in
        let wide : Rises 0 256 ms = Rises-mapped (child_of meaning) 0 256 a.children rises in
        record {
          prefix = copy.prefix;
          children = copy.children ∙ (between_end ms wide from (between-mapped (child_of meaning) a.children from 256 ∙ ap (mapped (child_of meaning)) none) ∙ sym (between_all ms wide));
          least = copy.least;
        }

    pub copy_all : (b : TableNode P) → IsCopy meaning 256 a b → mapped (child_of meaning) b.children ≡ mapped (child_of meaning) a.children
    copy_all b copy = copy.children ∙ between_all (mapped (child_of meaning) a.children) (Rises-mapped (child_of meaning) 0 256 a.children rises)

    module _ (from byte : ℕ) (c : Child P) (order : from ≤ byte) (first : between a.children from 256 ≡ (byte, c) ∷ between a.children (byte + 1) 256) where
      pub copy_absent : (b : TableNode P) → IsCopy meaning from a b → lookup b.children byte ≡ None
      copy_absent b copy =
          mapped-absent (child_of meaning) b.children byte
          (ap (λ x. lookup x byte) copy.children ∙ lookup-between_outside (mapped (child_of meaning) a.children) 0 from byte (inr order))

      pub copy_kind : (b : TableNode P) (x : Child P) → IsCopy meaning from a b → AreOfKind a → child_of meaning x ≡ child_of meaning c → MayHave b.prefix x
      copy_kind b x copy kinds same =
          subst (λ (p : List ℕ). MayHave p x) (sym copy.prefix)
          (may_from a.prefix x (subst (λ (z : Child M). MayHave a.prefix z) (sym same) (may_meant a.prefix c (kinds byte c (first_there a.children rises from byte c order first)))))

      pub copy_next : (b d : TableNode P) (x : Child P) → IsCopy meaning from a b → child_of meaning x ≡ child_of meaning c
          → d.prefix ≡ b.prefix → d.children ≡ put b.children byte x → IsLeast d.form (length b.children + 1) → IsCopy meaning (byte + 1) a d
      copy_next b d x copy same prefix children least =
          let f : Child P → Child M = child_of meaning in
          let ms : List (ℕ × Child M) = mapped f a.children in
          let wide : Rises 0 256 ms = Rises-mapped f 0 256 a.children rises in
          let before : List (ℕ × Child M) = between ms 0 from in
          let on : between ms 0 (byte + 1) ≡ put before byte (f c) =
          between-mapped f a.children 0 (byte + 1) ∙ (ap (mapped f) (between_next a.children rises from byte c order first)
          ∙ (put-mapped f (between a.children 0 from) byte c ∙ ap (λ z. put z byte (f c)) (sym (between-mapped f a.children 0 from)))) in
          let is : mapped f d.children ≡ put before byte (f c) =
          ap (mapped f) children ∙ (put-mapped f b.children byte x ∙ (ap (λ z. put z byte (f x)) copy.children ∙ ap (λ z. put before byte z) same)) in
          let none : lookup before byte ≡ None = lookup-between_outside ms 0 from byte (inr order) in
          let more : length (put before byte (f c)) ≡ length before + 1 = length-put_new 0 256 before byte (f c) (Rises-between 0 256 0 from ms wide) none in
          let few : length b.children ≡ length before = sym (length-mapped f b.children) ∙ ap length copy.children in
          let now : length d.children ≡ length (put before byte (f c)) = sym (length-mapped f d.children) ∙ ap length is in
          let count : length b.children + 1 ≡ length d.children = omega (arith, more, few, now) in
          record {
            prefix = prefix ∙ copy.prefix;
            children = is ∙ sym on;
            least = subst (λ (n : ℕ). IsLeast d.form n) count least;
          }

    pub copied_absent : (b : TableNode P) → IsCopy meaning 256 a b → (byte : ℕ) → lookup a.children byte ≡ None → lookup b.children byte ≡ None
    copied_absent b copy byte none =
        mapped-absent (child_of meaning) b.children byte (ap (λ x. lookup x byte) (copy_all b copy) ∙ lookup-mapped_none (child_of meaning) a.children byte none)

    -- one more child in a full copy
    pub copy_grown : (b d : TableNode P) (byte : ℕ) (x : Child P) → IsCopy meaning 256 a b → Fits a.form (length a.children) → (Fits a.form (length a.children + 1) → ⊥)
        → d.prefix ≡ b.prefix → d.children ≡ put b.children byte x → IsLeast d.form (length b.children + 1)
        → meant_node meaning d ≡ record { form = next_form a.form; prefix = a.prefix; children = put (mapped (child_of meaning) a.children) byte (child_of meaning x) }
    copy_grown b d byte x copy fits full prefix children least =
        let f : Child P → Child M = child_of meaning in
        let few : length b.children ≡ length a.children = sym (length-mapped f b.children) ∙ (ap length (copy_all b copy) ∙ length-mapped f a.children) in
        let form : d.form ≡ next_form a.form = least_next a.form d.form (length a.children) fits full (subst (λ (n : ℕ). IsLeast d.form (n + 1)) few least) in
        let is : mapped f d.children ≡ put (mapped f a.children) byte (f x) = ap (mapped f) children ∙ (put-mapped f b.children byte x ∙ ap (λ z. put z byte (f x)) (copy_all b copy)) in
        node_is (meant_node meaning d) (next_form a.form) a.prefix (put (mapped f a.children) byte (f x)) form (prefix ∙ copy.prefix) is

  -- what the copy has under the key's byte is of its kind
  pub own_kind : (p : List ℕ) (task : Task P) (leaf : Option ℕ) (child : Child P) → IsOwnOf meaning task leaf child → (length p ≡ 7) ↔ (leaf ≡ None) → length p ≤ 7 → MayHave p child
  own_kind p task None child own kind short = may_from p child (subst (λ (z : Child M). MayHave p z) (sym own.1) (kind.1 refl))
  own_kind p task (Some leaf) child own kind short =
      let off : length p ≢ 7 = λ e. none_some leaf (sym (kind.0 e)) in
      may_from p child (subst (λ (z : Child M). MayHave p z) (sym own) (omega (arith, off, short)))
