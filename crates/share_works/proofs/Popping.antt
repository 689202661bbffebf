-- How a map goes on by a look for a pair, and by a pop, and what is known after it.
use Rattle.std.proofs.Common.{◌≡◌, ℕ, Bool, ◌^◌, [], ◌∷◌, refl, sym, ap, subst}
use Rattle.std.specs.Prelude.{Option, Some, None}
use Rattle.share_works.proofs.Going.{Goes, goes_by}
use Rattle.share_works.specs.Ends.{popping}
use Rattle.share_works.specs.Made.{KnowsBy, returned}
use Rattle.share_rule.specs.Known.{Known, MadeCalls}
use Rattle.spec_map.proofs.NearLaws.{first_at, last_at}
use Rattle.spec_map.specs.Call.{Near, first, last, nearest, found, old_value}
use Rattle.spec_map.specs.Legal.{IsLegal}
use Rattle.spec_map.specs.Map.{Pairs, IsMap, lookup}
use Rattle.spec_map.specs.Near.{first_of, last_of, pair_near, without_pair}
use Rattle.spec_map.specs.Refusal.{never}
use Rattle.spec_olc.specs.Runs.{same_number}

pub popping_made : (place : Near ℕ) (pair : Option (ℕ × ℕ)) (k n : Known ℕ) → KnowsBy (popping place pair) k n → MadeCalls same_number k (popping place pair) n
popping_made place None k n h = h.0
popping_made place (Some pair) k n h = h.0

module _ (same : ℕ → ℕ → Bool) (place : Near ℕ) (p q : Pairs ℕ) where
  near_is : (r : Option (ℕ × ℕ)) → r ≡ pair_near p place → IsLegal same never p (returned (nearest place) (found r) ∷ []) p
  near_is r is = ((refl, ap (λ (o : Option (ℕ × ℕ)). found o) is), refl)

  legal : (o : Option (ℕ × ℕ)) → pair_near p place ≡ o → q ≡ without_pair p o → ((e : ℕ × ℕ) → o ≡ Some e → lookup p e.0 ≡ Some e.1) → IsLegal same never p (popping place o) q
  legal None is on stored = ((refl, ap (λ (o : Option (ℕ × ℕ)). found o) (sym is)), on)
  legal (Some e) is on stored =
      ((refl, ap (λ (o : Option (ℕ × ℕ)). found o) (sym is)), ((refl, ap (λ (o : Option ℕ). old_value o) (sym (stored e refl))), on))

  popped : (r : Option (ℕ × ℕ)) → r ≡ pair_near p place → q ≡ without_pair p (pair_near p place) → ((e : ℕ × ℕ) → pair_near p place ≡ Some e → lookup p e.0 ≡ Some e.1) → IsLegal same never p (popping place r) q
  popped r is on stored = subst (λ (o : Option (ℕ × ℕ)). IsLegal same never p (popping place o) q) (sym is) (legal (pair_near p place) refl on stored)

module _ {S : Type 0} (same : ℕ → ℕ → Bool) (content : S → Pairs ℕ → Type 0) (x : S) (p : Pairs ℕ) (only : (m : Pairs ℕ) → content x m → m ≡ p) where
  pub near_goes : (place : Near ℕ) (r : Option (ℕ × ℕ)) → content x p → r ≡ pair_near p place → Goes same content (returned (nearest place) (found r) ∷ []) x x
  near_goes place r has is = goes_by same content (returned (nearest place) (found r) ∷ []) x x p p only has (near_is same place p p r is)

  module _ (y : S) (q : Pairs ℕ) (r : Option (ℕ × ℕ)) (ordered : IsMap p) (has : content y q) where
    pub first_goes : r ≡ first_of p → q ≡ without_pair p (first_of p) → Goes same content (popping first r) x y
    first_goes is on = goes_by same content (popping first r) x y p q only has (popped same first p q r is on (λ e at. (first_at 0 (2 ^ 64) p e ordered at).stored))

    pub last_goes : r ≡ last_of p → q ≡ without_pair p (last_of p) → Goes same content (popping last r) x y
    last_goes is on = goes_by same content (popping last r) x y p q only has (popped same last p q r is on (λ e at. (last_at 0 (2 ^ 64) p e ordered at).stored))
