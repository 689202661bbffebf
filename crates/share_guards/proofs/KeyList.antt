-- The keys that are listed are those of the map's pairs.
use Rattle.std.proofs.Common.{◌≡◌, ℕ, Bool, List, [], map, refl, ap, ◌∙◌}
use Rattle.std.specs.Prelude.{Result, Ok, Err, IfOk}
use Rattle.share_backend.specs.Reads.{IsTheContent}
use Rattle.share_guards.specs.inner.Listing.{listing_keys}
use Rattle.share_works.proofs.Going.{Goes, goes_by}
use Rattle.spec_map.specs.Map.{Pairs, IsMap}

abbrev keys_of : Pairs ℕ → List ℕ
keys_of m = map (λ (pair : ℕ × ℕ). pair.0) m

module _ {V E K : Type 0} (items : V → List K) (of_number : ℕ → K) (content : Pairs ℕ → Type 0) (p : Pairs ℕ) (only : (m : Pairs ℕ) → content m → m ≡ p) where
  pub keys_found : (r : Result V E) → IfOk r (λ keys. (m : Pairs ℕ) × IsMap m × IsTheContent content m × (items keys ≡ map of_number (keys_of m))) → IfOk r (λ keys. items keys ≡ map of_number (keys_of p))
  keys_found (Ok keys) h = h.3 ∙ ap (λ (m : Pairs ℕ). map of_number (keys_of m)) (only h.0 h.2.stored)
  keys_found (Err e) h = tt

module _ {V E S : Type 0} (same : ℕ → ℕ → Bool) (content : S → Pairs ℕ → Type 0) (x : S) (p : Pairs ℕ) (only : (m : Pairs ℕ) → content x m → m ≡ p) (has : content x p) where
  pub keys_go : (r : Result V E) → Goes same content (listing_keys r p) x x
  keys_go (Ok keys) = goes_by same content (listing_keys {E = E} (Ok keys) p) x x p p only has ((refl, refl), refl)
  keys_go (Err e) = goes_by same content [] x x p p only has refl
