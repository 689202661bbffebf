-- The search of all bytes at once finds the places of sorted bytes.
use Rattle.std.proofs.Common.{◌≡◌, ℕ, suc, ◌+◌, ◌<◌, ◌≤◌, ◌==◌, nat_lt, not, List, [], ◌∷◌, length, get_or, take, slice_get, Some, None, IsSome, refl, ap, sym, ◌∙◌, arith, inl, inr, cond, subst}
use Rattle.std.specs.List.{prefix_len, count_by}
use Rattle.std.proofs.lemmas.List.Sums.{sum_by-cons}
use Rattle.std.proofs.lemmas.Option.{slice_get-get_or}
use Rattle.std.proofs.lemmas.Bool.{lt-ltb, le-ltb, eq-eqb, ne_eqb, cases_lt, cases_eq, cases_order, false≢true}
use Rattle.spec_map.specs.Map.{lookup, Rises}
use Rattle.node_base.specs.inner.Sorted.{below, pairs, IsSorted}
use Rattle.node_forms.proofs.SortedLaws.{enough_bytes}
use Rattle.spec_map.proofs.MapLaws.{lookup-below}

count-cons : (b k : ℕ) (ks : List ℕ) → count_by (λ x. nat_lt x b) (k ∷ ks) ≡ cond (nat_lt k b) 1 0 + count_by (λ x. nat_lt x b) ks
count-cons b k ks = sum_by-cons (λ x. cond (nat_lt x b) 1 0) k ks

module _ {C : Type 0} where
  -- no byte is below the first one
  count-none : (a : ℕ) (ks : List ℕ) (cs : List C) (b : ℕ) → Rises a 256 (pairs ks cs) → b ≤ a → length cs ≤ length ks → count_by (λ x. nat_lt x b) (take (length cs) ks) ≡ 0
  count-none a ks [] b h l m = refl
  count-none a [] (c ∷ cs) b h l m = absurd (omega arith)
  count-none a (k ∷ ks) (c ∷ cs) b h l m =
      let t = count-none (k + 1) ks cs b h.2 (omega (arith, h.0)) (omega arith) in
      count-cons b k (take (length cs) ks) ∙ rw (le-ltb k b (omega (arith, h.0))) (omega (arith, t))

  -- how many bytes are below one is its place, as they ascend
  pub rank-place : (a : ℕ) (ks : List ℕ) (cs : List C) (b : ℕ) → Rises a 256 (pairs ks cs) → length cs ≤ length ks → count_by (λ x. nat_lt x b) (take (length cs) ks) ≡ below (take (length cs) ks) b
  rank-place a ks [] b h m = refl
  rank-place a [] (c ∷ cs) b h m = absurd (omega arith)
  rank-place a (k ∷ ks) (c ∷ cs) b h m =
      elim (cases_lt k b) [
        | inl less ↦
            let t = rank-place (k + 1) ks cs b h.2 (omega arith) in
            count-cons b k (take (length cs) ks) ∙ rw (lt-ltb k b less) (omega (arith, t))
        | inr more ↦
            let t = count-none (k + 1) ks cs b h.2 (omega arith) (omega arith) in
            count-cons b k (take (length cs) ks) ∙ rw (le-ltb k b more) (omega (arith, t))
      ]

  -- all bytes are below 256
  pub place-above : (a : ℕ) (ks : List ℕ) (cs : List C) → Rises a 256 (pairs ks cs) → length cs ≤ length ks → length cs ≡ below (take (length cs) ks) 256
  place-above a ks [] h m = refl
  place-above a [] (c ∷ cs) h m = absurd (omega arith)
  place-above a (k ∷ ks) (c ∷ cs) h m =
      let t = place-above (k + 1) ks cs h.2 (omega arith) in
      rw (lt-ltb k 256 h.1) (omega (arith, t))

  -- the child at the place that was found
  pub find-there : (ks : List ℕ) (cs : List C) (b : ℕ) (d : C) → length cs ≤ length ks → prefix_len (λ x. not (x == b)) (take (length cs) ks) < length cs → lookup (pairs ks cs) b ≡ Some (get_or cs (prefix_len (λ x. not (x == b)) (take (length cs) ks)) d)
  find-there ks [] b d m l = absurd (omega arith)
  find-there [] (c ∷ cs) b d m l = absurd (omega arith)
  find-there (k ∷ ks) (c ∷ cs) b d m l =
      elim (cases_eq k b) [
        | inl same ↦ rw (eq-eqb k b same) refl
        | inr other ↦
            let l' = rw (ne_eqb k b other) at l in
            let next : 1 + prefix_len (λ x. not (x == b)) (take (length cs) ks) ≡ suc (prefix_len (λ x. not (x == b)) (take (length cs) ks)) = omega arith in
            rw (ne_eqb k b other, next) (find-there ks cs b d (omega arith) (omega (arith, l')))
      ]

  find-some : (ks : List ℕ) (cs : List C) (b : ℕ) → length cs ≤ length ks → prefix_len (λ x. not (x == b)) (take (length cs) ks) < length cs → IsSome (lookup (pairs ks cs) b)
  find-some ks [] b m l = absurd (omega arith)
  find-some ks (c ∷ cs) b m l = subst IsSome (sym (find-there ks (c ∷ cs) b c m l)) refl

  find-none : (ks : List ℕ) (cs : List C) (b : ℕ) → length cs ≤ length ks → length cs ≤ prefix_len (λ x. not (x == b)) (take (length cs) ks) → lookup (pairs ks cs) b ≡ None
  find-none [] [] b m l = refl
  find-none (k ∷ ks) [] b m l = refl
  find-none [] (c ∷ cs) b m l = absurd (omega arith)
  find-none (k ∷ ks) (c ∷ cs) b m l =
      elim (cases_eq k b) [
        | inl same ↦ absurd (let l' = rw (eq-eqb k b same) at l in omega (arith, l'))
        | inr other ↦ let l' = rw (ne_eqb k b other) at l in rw (ne_eqb k b other) (find-none ks cs b (omega arith) (omega (arith, l')))
      ]

  -- a byte that is there is found at its place
  pub find-place : (a : ℕ) (ks : List ℕ) (cs : List C) (b : ℕ) → Rises a 256 (pairs ks cs) → length cs ≤ length ks → IsSome (lookup (pairs ks cs) b) → prefix_len (λ x. not (x == b)) (take (length cs) ks) ≡ below (take (length cs) ks) b
  find-place a [] [] b h m s = absurd (false≢true s)
  find-place a (k ∷ ks) [] b h m s = absurd (false≢true s)
  find-place a [] (c ∷ cs) b h m s = absurd (omega arith)
  find-place a (k ∷ ks) (c ∷ cs) b h m s =
      elim (cases_order k b) [
        | inl same ↦ rw (eq-eqb k b same, le-ltb k b (omega arith)) refl
        | inr (inl less) ↦
            let s' = rw (ne_eqb k b (omega arith)) at s in
            let t = find-place (k + 1) ks cs b h.2 (omega arith) s' in
            rw (ne_eqb k b (omega arith), lt-ltb k b less) (omega (arith, t))
        | inr (inr more) ↦
            let s' = rw (ne_eqb k b (omega arith), lookup-below (k + 1) 256 (pairs ks cs) b h.2 (omega arith)) at s in absurd (false≢true s')
      ]

-- what was found among the first n bytes of a sorted node, which are those with children
module _ {C : Type 0} {most : ℕ} {ks : List ℕ} {cs : List C} {count : ℕ} (r : IsSorted most ks cs count)
    {n : ℕ} (e : n ≡ length cs) (b : ℕ) {i : ℕ} where
  pub rank-at : i ≡ count_by (λ x. nat_lt x b) (take n ks) → i ≡ below (take n ks) b
  rank-at is = is ∙ ap (λ m. count_by (λ x. nat_lt x b) (take m ks)) e ∙ rank-place 0 ks cs b r.ascending (enough_bytes r) ∙ ap (λ m. below (take m ks) b) (sym e)

  searched : i ≡ prefix_len (λ x. not (x == b)) (take n ks) → i ≡ prefix_len (λ x. not (x == b)) (take (length cs) ks)
  searched is = is ∙ ap (λ m. prefix_len (λ x. not (x == b)) (take m ks)) e

  pub some-found : i ≡ prefix_len (λ x. not (x == b)) (take n ks) → i < n → IsSome (lookup (pairs ks cs) b)
  some-found is inside = find-some ks cs b (enough_bytes r) (omega (arith, inside, e, searched is))

  pub none-found : i ≡ prefix_len (λ x. not (x == b)) (take n ks) → n ≤ i → lookup (pairs ks cs) b ≡ None
  none-found is past = find-none ks cs b (enough_bytes r) (omega (arith, past, e, searched is))

  pub found-get : i ≡ prefix_len (λ x. not (x == b)) (take n ks) → i < n → slice_get cs i ≡ lookup (pairs ks cs) b
  found-get is inside = at cs refl
    where
      at : (ds : List C) → cs ≡ ds → slice_get cs i ≡ lookup (pairs ks cs) b
      at [] same = absurd (let none = ap length same in omega (arith, inside, e, none))
      at (d ∷ ds) same =
          slice_get-get_or cs i d (omega (arith, inside, e))
          ∙ ap (λ j. Some (get_or cs j d)) (searched is)
          ∙ sym (find-there ks cs b d (enough_bytes r) (omega (arith, inside, e, searched is)))

  pub find-at : i ≡ prefix_len (λ x. not (x == b)) (take n ks) → IsSome (lookup (pairs ks cs) b) → i ≡ below (take n ks) b
  find-at is some = searched is ∙ find-place 0 ks cs b r.ascending (enough_bytes r) some ∙ ap (λ m. below (take m ks) b) (sym e)

  pub end-at : b ≡ 256 → i ≡ n → i ≡ below (take n ks) b
  end-at whole is = is ∙ e ∙ place-above 0 ks cs r.ascending (enough_bytes r) ∙ ap (λ m. below (take m ks) 256) (sym e) ∙ ap (below (take n ks)) (sym whole)
