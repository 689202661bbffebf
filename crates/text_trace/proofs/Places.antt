-- What an edit of a list of pairs at a place does to the map.
use Rattle.std.proofs.Common.{◌≡◌, ◌≢◌, ℕ, zero, suc, ◌<◌, ◌≤◌, [], ◌∷◌, length, get_or, set, Some, None, refl, ap, ◌∙◌, arith}
use Rattle.std.specs.List.{insert, remove}
use Rattle.std.proofs.lemmas.Bool.{lt-ltb, le-ltb, eq-eqb, ne_eqb}
use Rattle.spec_map.specs.Map.{Pairs, lookup, put, without}
use Rattle.text_trace.specs.inner.Places.{IsPlaceFor, IsFirstAt, IsNowhere}

module _ (k : ℕ) where
  place_next : (x : ℕ × ℕ) (m : Pairs ℕ) (at : ℕ) → IsPlaceFor (x ∷ m) k (suc at) → IsPlaceFor m k at
  place_next x m at place = record {
    within = omega (arith, place.within);
    before = λ j d lt. place.before (suc j) d (omega arith);
    here = λ d lt. place.here d (omega arith);
  }

  -- the value of a key that is there is overwritten
  pub put_over : (m : Pairs ℕ) (at v : ℕ) (d : ℕ × ℕ) → IsPlaceFor m k at → at < length m → (get_or m at d).0 ≡ k → put m k v ≡ set m at (k, v)
  put_over [] at v d place lt same = absurd (omega arith)
  put_over (x ∷ m) zero v d place lt same = rw (le-ltb x.0 k (omega arith), eq-eqb x.0 k same)
  put_over (x ∷ m) (suc at) v d place lt same =
      let less : x.0 < k = place.before 0 x (omega arith) in
      rw (lt-ltb x.0 k less) (ap (λ t. x ∷ t) (put_over m at v d (place_next x m at place) (omega arith) same))

  -- a pair of a new key is inserted
  pub put_between : (m : Pairs ℕ) (at v : ℕ) → IsPlaceFor m k at → (at < length m → (e : ℕ × ℕ) × (e ≡ get_or m at e) × (e.0 ≢ k)) → put m k v ≡ insert m at (k, v)
  put_between [] zero v place other = refl
  put_between [] (suc at) v place other = absurd (omega (arith, place.within))
  put_between (x ∷ m) zero v place other =
      let more : k ≤ x.0 = place.here x (omega arith) in
      let here = other (omega arith) in
      rw (le-ltb x.0 k more, ne_eqb x.0 k (λ same. here.2 (ap (λ (p : ℕ × ℕ). p.0) here.1 ∙ same)))
  put_between (x ∷ m) (suc at) v place other =
      let less : x.0 < k = place.before 0 x (omega arith) in
      rw (lt-ltb x.0 k less) (ap (λ t. x ∷ t) (put_between m at v (place_next x m at place) (λ lt. other (omega arith))))

  first_next : (x : ℕ × ℕ) (m : Pairs ℕ) (at : ℕ) → IsFirstAt (x ∷ m) k (suc at) → IsFirstAt m k at
  first_next x m at first = record {
    within = omega (arith, first.within);
    before = λ j d lt. first.before (suc j) d (omega arith);
    here = first.here;
  }

  pub lookup_first : (m : Pairs ℕ) (at : ℕ) (e : ℕ × ℕ) → IsFirstAt m k at → e ≡ get_or m at e → lookup m k ≡ Some e.1
  lookup_first [] at e first read = absurd (omega (arith, first.within))
  lookup_first (x ∷ m) zero e first read = rw (eq-eqb x.0 k (first.here x), read) refl
  lookup_first (x ∷ m) (suc at) e first read = rw (ne_eqb x.0 k (first.before 0 x (omega arith))) (lookup_first m at e (first_next x m at first) read)

  pub without_first : (m : Pairs ℕ) (at : ℕ) → IsFirstAt m k at → without m k ≡ remove m at
  without_first [] at first = absurd (omega (arith, first.within))
  without_first (x ∷ m) zero first = rw (eq-eqb x.0 k (first.here x))
  without_first (x ∷ m) (suc at) first = rw (ne_eqb x.0 k (first.before 0 x (omega arith))) (ap (λ t. x ∷ t) (without_first m at (first_next x m at first)))

  nowhere_next : (x : ℕ × ℕ) (m : Pairs ℕ) → IsNowhere (x ∷ m) k → IsNowhere m k
  nowhere_next x m none = λ j d lt. none (suc j) d (omega arith)

  pub lookup_nowhere : (m : Pairs ℕ) → IsNowhere m k → lookup m k ≡ None
  lookup_nowhere [] none = refl
  lookup_nowhere (x ∷ m) none = rw (ne_eqb x.0 k (none 0 x (omega arith))) (lookup_nowhere m (nowhere_next x m none))

  pub without_nowhere : (m : Pairs ℕ) → IsNowhere m k → without m k ≡ m
  without_nowhere [] none = refl
  without_nowhere (x ∷ m) none = rw (ne_eqb x.0 k (none 0 x (omega arith))) (ap (λ t. x ∷ t) (without_nowhere m (nowhere_next x m none)))
