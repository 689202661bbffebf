-- The first pair from a key on.
use Rattle.std.proofs.Common.{◌≡◌, ℕ, ◌^◌, [], ◌∷◌, Some, None, refl, sym, ap, ◌∙◌, subst, arith}
use Rattle.std.proofs.lemmas.Bool.{eq-eqb}
use Rattle.tree_walk.specs.Scan.{first_pair, first_number, from_key}
use Rattle.spec_map.specs.Map.{Pairs, IsMap, lookup}
use Rattle.spec_map.proofs.MapLaws.{lookup-between_inside}
use Rattle.spec_map.proofs.RangeLaws.{between-next}
use Rattle.node_table.proofs.KindLaws.{Rises-mapped, between-mapped}
use Rattle.node_table.specs.inner.Kinds.{mapped}

some_is : {X : Type 0} (x y : X) → Some x ≡ Some y → x ≡ y
some_is x y e = cc

module _ {M : Type 0} where
  -- the first pair of a list is found at its key
  head_found : (e : ℕ × M) (es : Pairs M) → lookup (e ∷ es) e.0 ≡ Some e.1
  head_found e es = rw (eq-eqb e.0 e.0 refl)

  first_at : (start : ℕ) (m : Pairs M) (key : ℕ) → IsMap m → first_number (from_key start m) ≡ Some key
      → (v : M) × (lookup m key ≡ Some v) × (first_pair (from_key start m) ≡ Some (key, v))
  first_at start m key map is = at (from_key start m) refl
    where
      at : (xs : Pairs M) → from_key start m ≡ xs → (v : M) × (lookup m key ≡ Some v) × (first_pair (from_key start m) ≡ Some (key, v))
      at [] e = absurd (let none : first_number (from_key start m) ≡ None = ap (λ (x : Pairs M). first_number x) e in cc)
      at (x ∷ xs) e =
          let its : x.0 ≡ key = some_is x.0 key (sym (ap (λ (y : Pairs M). first_number y) e) ∙ is) in
          let next = between-next 0 (2 ^ 64) start (2 ^ 64) m x xs map (omega arith) e in
          let there : lookup (from_key start m) x.0 ≡ Some x.1 = ap (λ (y : Pairs M). lookup y x.0) e ∙ head_found x xs in (
            x.1,
            subst (λ k. lookup m k ≡ Some x.1) its (sym (lookup-between_inside m start (2 ^ 64) x.0 next.order next.inside) ∙ there),
            ap (λ (y : Pairs M). first_pair y) e ∙ ap (λ k. Some (k, x.1)) its,
          )

module _ {P M : Type 0} (meaning : P → M) where
  number_mapped : (es : Pairs P) → first_number (mapped meaning es) ≡ first_number es
  number_mapped [] = refl
  number_mapped (e ∷ es) = refl

  numbers_mapped : (start : ℕ) (es : Pairs P) → first_number (from_key start (mapped meaning es)) ≡ first_number (from_key start es)
  numbers_mapped start es =
      ap (λ (x : Pairs M). first_number x) (between-mapped meaning es start (2 ^ 64)) ∙ number_mapped (from_key start es)

  none_first : (xs : Pairs M) → first_number xs ≡ None → xs ≡ []
  none_first [] e = refl
  none_first (x ∷ xs) e = absurd (cc)

  -- without a key there is no pair
  pub none_from : (start : ℕ) (es : Pairs P) → None ≡ first_number (from_key start es) → from_key start (mapped meaning es) ≡ []
  none_from start es is = none_first (from_key start (mapped meaning es)) (numbers_mapped start es ∙ sym is)

  module _ (start : ℕ) (es : Pairs P) (key : ℕ) (map : IsMap es) (is : Some key ≡ first_number (from_key start es)) where
    least : (v : M) × (lookup (mapped meaning es) key ≡ Some v) × (first_pair (from_key start (mapped meaning es)) ≡ Some (key, v))
    least = first_at start (mapped meaning es) key (Rises-mapped meaning 0 (2 ^ 64) es map) (numbers_mapped start es ∙ sym is)

    -- the least key is stored
    pub not_absent : lookup (mapped meaning es) key ≡ None → ⊥
    not_absent none = absurd (let some = least.1 in cc)

    -- and the value stored there is its pair's
    pub pair_from : (v : M) → lookup (mapped meaning es) key ≡ Some v → first_pair (from_key start (mapped meaning es)) ≡ Some (key, v)
    pair_from v there =
        let same : least.0 ≡ v = some_is least.0 v (sym least.1 ∙ there) in
        least.2 ∙ ap (λ (x : M). Some (key, x)) same
