-- How a map goes on by the work on the whole of it.
use Rattle.std.proofs.Common.{◌≡◌, ℕ, Bool, [], ◌∷◌, ◌++◌, length, cond, refl, sym, ap, subst}
use Rattle.std.proofs.lemmas.Bool.{eq-eqb}
use Rattle.std.specs.Prelude.{Some, ◌==◌}
use Rattle.share_works.proofs.Going.{Goes, goes_by}
use Rattle.share_works.specs.Made.{returned, clearing, removals}
use Rattle.spec_map.specs.Call.{is_empty, tested, count, counted, old_value}
use Rattle.spec_map.specs.Legal.{IsLegal}
use Rattle.spec_map.specs.Map.{Pairs, lookup, without}
use Rattle.spec_map.specs.Refusal.{never}

-- after these removals no pair is left
removed_all : (same : ℕ → ℕ → Bool) (es : Pairs ℕ) → IsLegal same never es (removals es ++ returned count (counted 0) ∷ []) []
removed_all same [] = ((refl, refl), refl)
removed_all same (e ∷ es) =
    let here = eq-eqb e.0 e.0 refl in (
      (refl, ap (λ (b : Bool). old_value (cond b (Some e.1) (lookup es e.0))) (sym here)),
      subst (λ (z : Pairs ℕ). IsLegal same never z (removals es ++ returned count (counted 0) ∷ []) []) (ap (λ (b : Bool). cond b es (e ∷ without es e.0)) (sym here)) (removed_all same es),
    )

module _ {S : Type 0} (same : ℕ → ℕ → Bool) (content : S → Pairs ℕ → Type 0) (x : S) (p : Pairs ℕ) (only : (m : Pairs ℕ) → content x m → m ≡ p) where
  pub count_goes : (n : ℕ) → content x p → n ≡ length p → Goes same content (returned count (counted n) ∷ []) x x
  count_goes n has is = goes_by same content (returned count (counted n) ∷ []) x x p p only has ((refl, ap (λ (l : ℕ). counted l) is), refl)

  pub empty_goes : (n : ℕ) → content x p → n ≡ length p → Goes same content (returned is_empty (tested (n == 0)) ∷ []) x x
  empty_goes n has is =
      goes_by same content (returned is_empty (tested (n == 0)) ∷ []) x x p p only has ((refl, ap (λ (l : ℕ). tested (l == 0)) is), refl)

  pub clear_goes : (y : S) (q : Pairs ℕ) → content y q → q ≡ [] → Goes same content (clearing p) x y
  clear_goes y q has none =
      goes_by same content (clearing p) x y p q only has (subst (λ (z : Pairs ℕ). IsLegal same never p (clearing p) z) (sym none) ((refl, refl), removed_all same p))
