-- What the calls on the whole map make of it.
use Rattle.std.proofs.Common.{◌≡◌, ℕ, ◌+◌, ◌≤◌, ◌^◌, [], ◌∷◌, length, refl, sym, ap, subst, ◌∙◌, inl, inr, arith}
use Rattle.std.proofs.lemmas.Bool.{cases_lt}
use Rattle.std.specs.Prelude.{Option, Some, None, ◌==◌}
use Rattle.share_parts.specs.Parts.{Ascends}
use Rattle.share_rule.specs.inner.Hold.{StepsBy}
use Rattle.share_visits.specs.Near.{near_of}
use Rattle.share_visits.specs.declared.near.Near.{Near}
use Rattle.share_visits.specs.declared.near.Near.TheVariants.{First, Last, Floor, Below, Ceiling, Above}
use Rattle.share_works.specs.Ends.{popping}
use Rattle.share_works.specs.Made.{clearing, returned}
use Rattle.share_works.proofs.Counting.{clear_goes}
use Rattle.spec_map.proofs.ByteMapLaws.{length-from_Rises}
use Rattle.spec_map.proofs.MapLaws.{Rises-between, lookup-between_inside, lookup-between_outside}
use Rattle.spec_map.proofs.NearLaws.{first_at, last_at}
use Rattle.spec_map.specs.Call.{count as counting, counted, found, is_empty, nearest, old_value, tested}
use Rattle.spec_map.specs.Map.{IsMap, Pairs, between, lookup}
use Rattle.spec_map.specs.Near.{first_of, last_of, pair_near, without_pair}
use Rattle.spec_olc.specs.Runs.{same_number}

pub few_pairs : (m : Pairs ℕ) → IsMap m → length m ≤ 2 ^ 64
few_pairs m ordered = let few = length-from_Rises 0 (2 ^ 64) m (omega arith) ordered in omega (arith, few)

module _ (m : Pairs ℕ) where
  pub near_here : (near : Near) (pair : Option (ℕ × ℕ)) → pair ≡ pair_near m (near_of near) → StepsBy same_number (returned (nearest (near_of near)) (found pair) ∷ []) m m
  near_here near pair is = ((refl, ap (λ (o : Option (ℕ × ℕ)). found o) is), refl)

  pub count_here : (n : ℕ) → n ≡ length m → StepsBy same_number (returned counting (counted n) ∷ []) m m
  count_here n is = ((refl, ap (λ (k : ℕ). counted k) is), refl)

  pub empty_here : (n : ℕ) → n ≡ length m → StepsBy same_number (returned is_empty (tested (n == 0)) ∷ []) m m
  empty_here n is = ((refl, ap (λ (k : ℕ). tested (k == 0)) is), refl)

  pub clear_here : (p : Pairs ℕ) → p ≡ m → StepsBy same_number (clearing p) m []
  clear_here p is =
      let t = clear_goes same_number (λ (s n : Pairs ℕ). n ≡ s) p p (λ n e. e) [] [] refl refl p refl in
      subst (λ (z : Pairs ℕ × Pairs ℕ). StepsBy same_number (clearing p) z.0 z.1) (λ i. (is i, t.1 i)) t.2

  -- the pair that was found is stored
  in_range : (a b : ℕ) (p : ℕ × ℕ) → lookup (between m a b) p.0 ≡ Some p.1 → lookup m p.0 ≡ Some p.1
  in_range a b p is =
      elim (cases_lt p.0 a) [
        | inl less ↦ absurd (let clash : ◌≡◌ {A = Option ℕ} None (Some p.1) = sym (lookup-between_outside m a b p.0 (inl less)) ∙ is in cc)
        | inr from ↦ elim (cases_lt p.0 b) [
          | inl to ↦ sym (lookup-between_inside m a b p.0 from to) ∙ is
          | inr past ↦ absurd (let clash : ◌≡◌ {A = Option ℕ} None (Some p.1) = sym (lookup-between_outside m a b p.0 (inr past)) ∙ is in cc)
        ]
      ]

  module _ (up : Ascends m) where
    from_first : (a b : ℕ) (p : ℕ × ℕ) → Some p ≡ first_of (between m a b) → lookup m p.0 ≡ Some p.1
    from_first a b p is = in_range a b p (first_at 0 up.0 (between m a b) p (Rises-between 0 up.0 a b m up.1) (sym is)).stored

    from_last : (a b : ℕ) (p : ℕ × ℕ) → Some p ≡ last_of (between m a b) → lookup m p.0 ≡ Some p.1
    from_last a b p is = in_range a b p (last_at 0 up.0 (between m a b) p (Rises-between 0 up.0 a b m up.1) (sym is)).stored

    stored : (near : Near) (p : ℕ × ℕ) → Some p ≡ pair_near m (near_of near) → lookup m p.0 ≡ Some p.1
    stored First p is = (first_at 0 up.0 m p up.1 (sym is)).stored
    stored Last p is = (last_at 0 up.0 m p up.1 (sym is)).stored
    stored (Floor k) p is = from_last 0 (k + 1) p is
    stored (Below k) p is = from_last 0 k p is
    stored (Ceiling k) p is = from_first k (2 ^ 64) p is
    stored (Above k) p is = from_first (k + 1) (2 ^ 64) p is

  pub pop_here : Ascends m → (near : Near) (pair : Option (ℕ × ℕ)) → pair ≡ pair_near m (near_of near) → StepsBy same_number (popping (near_of near) pair) m (without_pair m pair)
  pop_here up near None is = ((refl, ap (λ (o : Option (ℕ × ℕ)). found o) is), refl)
  pop_here up near (Some pair) is =
      ((refl, ap (λ (o : Option (ℕ × ℕ)). found o) is), ((refl, ap (λ (o : Option ℕ). old_value o) (sym (stored up near pair is))), refl))
