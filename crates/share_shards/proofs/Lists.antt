-- Lists of shards that are held.
use Rattle.std.proofs.Common.{◌≡◌, ◌≢◌, ℕ, Bool, true, false, cond, eqb, List, [], ◌∷◌, sym, refl, ap, ◌∙◌, inl, inr, eq-eqb, ne_eqb}
use Rattle.std.proofs.lemmas.Bool.{cases_eq, true≢false, false_from_ne_true}
use Rattle.std.specs.Prelude.{Option, None, Some, unwrap_or}
use Rattle.share_shards.specs.Held.{is_in, numbers, slots_of, values_of}
use Rattle.spec_map.proofs.MapLaws.{lookup-next}
use Rattle.spec_map.specs.Map.{lookup}

pub is_in_here : (n : ℕ) (ns : List ℕ) (j : ℕ) → j ≡ n → is_in (n ∷ ns) j ≡ true
is_in_here n ns j e = ap (λ (b : Bool). cond b true (is_in ns j)) (eq-eqb n j (sym e))

pub is_in_next : (n : ℕ) (ns : List ℕ) (j : ℕ) → is_in ns j ≡ true → is_in (n ∷ ns) j ≡ true
is_in_next n ns j e = elim (eqb n j) as (λ b. cond b true (is_in ns j) ≡ true) [ true ↦ refl | false ↦ e ]

is_in_else : (n : ℕ) (ns : List ℕ) (j : ℕ) → n ≢ j → is_in (n ∷ ns) j ≡ is_in ns j
is_in_else n ns j ne = ap (λ (b : Bool). cond b true (is_in ns j)) (ne_eqb n j ne)

module _ {S : Type 0} where
  pub unsome : (x y : S) → Some x ≡ Some y → x ≡ y
  unsome x y e = ap (λ (o : Option S). unwrap_or o x) e

  pub at_here : (i j : ℕ) (x : S) (l : List (ℕ × S)) → i ≡ j → lookup ((i, x) ∷ l) j ≡ Some x
  at_here i j x l e = ap (λ (b : Bool). cond b (Some x) (lookup l j)) (eq-eqb i j e)

  pub at_next : (i j : ℕ) (x : S) (l : List (ℕ × S)) → i ≢ j → lookup ((i, x) ∷ l) j ≡ lookup l j
  at_next i j x l ne = lookup-next (i, x) l j ne

  pub found_in : (held : List (ℕ × S)) (j : ℕ) (v : S) → lookup held j ≡ Some v → is_in (numbers held) j ≡ true
  found_in [] j v e = absurd (let clash : ◌≡◌ {A = Option S} None (Some v) = e in cc)
  found_in (h ∷ l) j v e =
      elim (cases_eq h.0 j) [
        | inl is ↦ is_in_here h.0 (numbers l) j (sym is)
        | inr ne ↦ is_in_next h.0 (numbers l) j (found_in l j v (sym (lookup-next h l j ne) ∙ e))
      ]

  pub value_in : (held : List (ℕ × S)) (j : ℕ) → is_in (numbers held) j ≡ true → (x : S) × (lookup held j ≡ Some x)
  value_in [] j e = absurd (true≢false (sym e))
  value_in (h ∷ l) j e =
      elim (cases_eq h.0 j) [
        | inl is ↦ (h.1, at_here h.0 j h.1 l is)
        | inr ne ↦ let t = value_in l j (sym (is_in_else h.0 (numbers l) j ne) ∙ e) in (t.0, lookup-next h l j ne ∙ t.1)
      ]

  pub none_in : (held : List (ℕ × S)) (j : ℕ) → ((v : S) → lookup held j ≡ Some v → ⊥) → is_in (numbers held) j ≡ false
  none_in held j never = false_from_ne_true (is_in (numbers held) j) (λ e. let t = value_in held j e in never t.0 t.1)

  pub values-slots : (held : List (ℕ × S)) → values_of (slots_of held) ≡ held
  values-slots [] = refl
  values-slots (h ∷ l) = ap (λ (r : List (ℕ × S)). h ∷ r) (values-slots l)
