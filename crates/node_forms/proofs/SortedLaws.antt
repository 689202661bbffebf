-- Bytes beside children, as a map.
use Rattle.std.proofs.Common.{◌≡◌, ◌≢◌, ℕ, zero, suc, ◌+◌, ◌-◌, ◌<◌, ◌≤◌, List, [], ◌∷◌, length, get_or, slice_get, take, drop, set, Some, None, refl, ap, sym, ◌∙◌, arith, add-one, length-set, IsSome, subst, inl, inr}
use Rattle.std.specs.List.{insert, remove}
use Rattle.std.proofs.lemmas.Bool.{lt-ltb, le-ltb, eq-eqb, ne_eqb, cases_lt, cases_order, lt-leb, le-leb, false≢true}
use Rattle.spec_map.specs.Map.{lookup, put, without, between, Rises}
use Rattle.spec_map.proofs.ByteMapLaws.{count_below}
use Rattle.spec_map.proofs.MapLaws.{lookup-below, Rises-put, Rises-without}
use Rattle.spec_map.proofs.ByteMapLaws.{put-absent, without-at_present, place_present, lookup-at_index, lookup-at_present}
use Rattle.std.proofs.lemmas.List.{get_or_default}
use Rattle.std.proofs.lemmas.List.Edits.{length-insert, length-remove}
use Rattle.std.proofs.lemmas.Option.{slice_get_cases}
use Rattle.spec_map.proofs.RangeLaws.{between-above, between-crossed}
use Rattle.node_base.specs.inner.Sorted.{below, pairs, IsSorted}

module _ {C : Type 0} where
  pub length-pairs : (ks : List ℕ) (cs : List C) → length cs ≤ length ks → length (pairs ks cs) ≡ length cs
  length-pairs [] [] l = refl
  length-pairs [] (c ∷ cs) l = absurd (omega arith)
  length-pairs (k ∷ ks) [] l = refl
  length-pairs (k ∷ ks) (c ∷ cs) l = ap suc (length-pairs ks cs (omega arith))

  pub below-pairs : (ks : List ℕ) (cs : List C) (b : ℕ) → length cs ≤ length ks → below (take (length cs) ks) b ≡ count_below (pairs ks cs) b
  below-pairs [] [] b l = refl
  below-pairs [] (c ∷ cs) b l = absurd (omega arith)
  below-pairs (k ∷ ks) [] b l = refl
  below-pairs (k ∷ ks) (c ∷ cs) b l =
      elim (cases_lt k b) [
        | inl less ↦ rw (lt-ltb k b less) (ap (λ n. n + 1) (below-pairs ks cs b (omega arith)))
        | inr more ↦ rw (le-ltb k b more) refl
      ]

  pub get_or-pairs : (ks : List ℕ) (cs : List C) (i d : ℕ) (c : C) → length cs ≤ length ks → i < length cs → get_or (pairs ks cs) i (d, c) ≡ (get_or ks i d, get_or cs i c)
  get_or-pairs [] [] i d c l m = absurd (omega arith)
  get_or-pairs [] (x ∷ xs) i d c l m = absurd (omega arith)
  get_or-pairs (k ∷ ks) [] i d c l m = absurd (omega arith)
  get_or-pairs (k ∷ ks) (x ∷ xs) zero d c l m = refl
  get_or-pairs (k ∷ ks) (x ∷ xs) (suc i) d c l m = get_or-pairs ks xs i d c (omega arith) (omega arith)

  -- only the bytes at the children count
  pub pairs-same : (ks ls : List ℕ) (cs : List C) → length cs ≤ length ks → length cs ≤ length ls → ((k : ℕ) → k < length cs → get_or ls k 0 ≡ get_or ks k 0) → pairs ls cs ≡ pairs ks cs
  pairs-same [] [] cs l m h = refl
  pairs-same [] (x ∷ ls) [] l m h = refl
  pairs-same [] (x ∷ ls) (c ∷ cs) l m h = absurd (omega arith)
  pairs-same (k ∷ ks) [] [] l m h = refl
  pairs-same (k ∷ ks) [] (c ∷ cs) l m h = absurd (omega arith)
  pairs-same (k ∷ ks) (x ∷ ls) [] l m h = refl
  pairs-same (k ∷ ks) (x ∷ ls) (c ∷ cs) l m h =
      let e : x ≡ k = h 0 (omega arith) in
      let t = pairs-same ks ls cs (omega arith) (omega arith) (λ i j. h (suc i) (omega arith)) in
      rw (e, t) refl

  pub pairs-insert : (ks ls : List ℕ) (cs : List C) (i b : ℕ) (c : C) → length cs < length ks → length ls ≡ length ks → i ≤ length cs
      → ((k : ℕ) → k < i → get_or ls k 0 ≡ get_or ks k 0) → get_or ls i 0 ≡ b → ((k : ℕ) → i ≤ k → k < length cs → get_or ls (k + 1) 0 ≡ get_or ks k 0)
      → pairs ls (insert cs i c) ≡ insert (pairs ks cs) i (b, c)
  pairs-insert [] ls cs i b c l m n before here after = absurd (omega arith)
  pairs-insert (k ∷ ks) [] cs i b c l m n before here after = absurd (omega arith)
  pairs-insert (k ∷ ks) (x ∷ ls) cs zero b c l m n before here after =
      let e : x ≡ b = here in
      let t = pairs-same (k ∷ ks) ls cs (omega arith) (omega arith) (λ i j. (rw (add-one i) at (after i (omega arith) j))) in
      rw (e, t) refl
  pairs-insert (k ∷ ks) (x ∷ ls) [] (suc i) b c l m n before here after = absurd (omega arith)
  pairs-insert (k ∷ ks) (x ∷ ls) (y ∷ cs) (suc i) b c l m n before here after =
      let e : x ≡ k = before 0 (omega arith) in
      let t = pairs-insert ks ls cs i b c (omega arith) (omega arith) (omega arith) (λ j p. before (suc j) (omega arith)) here (λ j p q. rw (add-one j) (rw (add-one (suc j)) at (after (suc j) (omega arith) (omega arith)))) in
      rw e (ap (λ u. (k, y) ∷ u) t)

  pub pairs-remove : (ks ls : List ℕ) (cs : List C) (i : ℕ) → length cs ≤ length ks → length ls ≡ length ks → i < length cs
      → ((k : ℕ) → k < i → get_or ls k 0 ≡ get_or ks k 0) → ((k : ℕ) → i ≤ k → k + 1 < length cs → get_or ls k 0 ≡ get_or ks (k + 1) 0)
      → pairs ls (remove cs i) ≡ remove (pairs ks cs) i
  pairs-remove ks ls [] i l m n before after = absurd (omega arith)
  pairs-remove [] ls (y ∷ cs) i l m n before after = absurd (omega arith)
  pairs-remove (k ∷ ks) [] (y ∷ cs) i l m n before after = absurd (omega arith)
  pairs-remove (k ∷ ks) (x ∷ ls) (y ∷ cs) zero l m n before after =
      pairs-same ks (x ∷ ls) cs (omega arith) (omega arith) (λ j p. (rw (add-one j) at (after j (omega arith) (omega arith))))
  pairs-remove (k ∷ ks) (x ∷ ls) (y ∷ cs) (suc i) l m n before after =
      let e : x ≡ k = before 0 (omega arith) in
      let t = pairs-remove ks ls cs i (omega arith) (omega arith) (omega arith) (λ j p. before (suc j) (omega arith)) (λ j p q. rw (add-one j) (rw (add-one (suc j)) at (after (suc j) (omega arith) (omega arith)))) in
      rw e (ap (λ u. (k, y) ∷ u) t)

  pub pairs-take : (ks : List ℕ) (cs : List C) (n : ℕ) → pairs (take n ks) (take n cs) ≡ take n (pairs ks cs)
  pairs-take ks cs zero = refl
  pairs-take [] cs (suc n) = refl
  pairs-take (k ∷ ks) [] (suc n) = refl
  pairs-take (k ∷ ks) (c ∷ cs) (suc n) = ap (λ t. (k, c) ∷ t) (pairs-take ks cs n)

  -- children past the bytes don't count
  pairs-short : (ks : List ℕ) (cs : List C) (n : ℕ) → pairs (take n ks) cs ≡ pairs (take n ks) (take n cs)
  pairs-short ks cs zero = refl
  pairs-short [] cs (suc n) = refl
  pairs-short (k ∷ ks) [] (suc n) = refl
  pairs-short (k ∷ ks) (c ∷ cs) (suc n) = ap (λ t. (k, c) ∷ t) (pairs-short ks cs n)

  pub pairs-none : (ks : List ℕ) → pairs {C = C} ks [] ≡ []
  pairs-none [] = refl
  pairs-none (k ∷ ks) = refl

  pub pairs-drop : (ks : List ℕ) (cs : List C) (n : ℕ) → pairs (drop n ks) (drop n cs) ≡ drop n (pairs ks cs)
  pairs-drop ks cs zero = refl
  pairs-drop [] cs (suc n) = refl
  pairs-drop (k ∷ ks) [] (suc n) = pairs-none (drop n ks)
  pairs-drop (k ∷ ks) (c ∷ cs) (suc n) = pairs-drop ks cs n

  pub lookup-not_at : (a : ℕ) (ks : List ℕ) (cs : List C) (b : ℕ) → Rises a 256 (pairs ks cs) → length cs ≤ length ks → (count_below (pairs ks cs) b < length cs → get_or ks (count_below (pairs ks cs) b) 0 ≢ b) → lookup (pairs ks cs) b ≡ None
  lookup-not_at a [] cs b h l n = refl
  lookup-not_at a (k ∷ ks) [] b h l n = refl
  lookup-not_at a (k ∷ ks) (c ∷ cs) b h l n =
      elim (cases_lt k b) [
        | inl less ↦
            let s : count_below (pairs (k ∷ ks) (c ∷ cs)) b ≡ suc (count_below (pairs ks cs) b) = rw (lt-ltb k b less, add-one) in
            let n' = rw s at n in
            rw (ne_eqb k b (omega arith)) (lookup-not_at (k + 1) ks cs b h.2 (omega arith) (λ j. n' (omega arith)))
        | inr more ↦
            let s : count_below (pairs (k ∷ ks) (c ∷ cs)) b ≡ 0 = rw (le-ltb k b more) in
            let other : k ≢ b = (rw s at n) (omega arith) in
            rw (ne_eqb k b other) (lookup-below (k + 1) 256 (pairs ks cs) b h.2 (omega arith))
      ]

  -- the part between two bytes, by their places
  pub between-take : (a s e : ℕ) (es : List (ℕ × C)) → Rises a 256 es → s ≤ a → take (count_below es e) es ≡ between es s e
  between-take a s e [] h l = refl
  between-take a s e (x ∷ xs) h l =
      elim (cases_lt x.0 e) [
        | inl less ↦ rw (lt-ltb x.0 e less, le-leb s x.0 (omega arith), add-one) (ap (λ t. x ∷ t) (between-take (x.0 + 1) s e xs h.2 (omega arith)))
        | inr more ↦ rw (le-ltb x.0 e more, le-leb s x.0 (omega arith)) (sym (between-above (x.0 + 1) 256 s e xs h.2 (omega arith)))
      ]

  between-part : (a s e : ℕ) (es : List (ℕ × C)) → Rises a 256 es → s ≤ e → take (count_below es e - count_below es s) (drop (count_below es s) es) ≡ between es s e
  between-part a s e [] h l = refl
  between-part a s e (x ∷ xs) h l =
      elim (cases_lt x.0 s) [
        | inl less ↦
            let r = between-part (x.0 + 1) s e xs h.2 l in
            let m : suc (count_below xs e) - suc (count_below xs s) ≡ count_below xs e - count_below xs s = omega arith in
            rw (lt-ltb x.0 s less, lt-ltb x.0 e (omega arith), lt-leb s x.0 less, add-one, add-one, m) r
        | inr more ↦
            let z : count_below (x ∷ xs) s ≡ 0 = rw (le-ltb x.0 s more) in
            let m : count_below (x ∷ xs) e - 0 ≡ count_below (x ∷ xs) e = omega arith in
            subst (λ n. take (count_below (x ∷ xs) e - n) (drop n (x ∷ xs)) ≡ between (x ∷ xs) s e) (sym z)
            (ap (λ n. take n (x ∷ xs)) m ∙ between-take x.0 s e (x ∷ xs) (omega arith, h.1, h.2) more)
      ]

  count_below-mono : (es : List (ℕ × C)) (s e : ℕ) → e ≤ s → count_below es e ≤ count_below es s
  count_below-mono [] s e l = omega arith
  count_below-mono (x ∷ xs) s e l =
      elim (cases_lt x.0 e) [
        | inl less ↦ rw (lt-ltb x.0 e less, lt-ltb x.0 s (omega arith)) (omega (arith, count_below-mono xs s e l))
        | inr more ↦ rw (le-ltb x.0 e more) (omega arith)
      ]

  pub between-places : (s e : ℕ) (es : List (ℕ × C)) → Rises 0 256 es → take (count_below es e - count_below es s) (drop (count_below es s) es) ≡ between es s e
  between-places s e es h =
      elim (cases_lt e s) [
        | inl less ↦
            let m = count_below-mono es s e (omega arith) in
            let z : count_below es e - count_below es s ≡ 0 = omega (arith, m) in
            rw z (sym (between-crossed s e es (omega arith)))
        | inr more ↦ between-part 0 s e es h more
      ]

pair_is : {C : Type 0} (x y : ℕ) (u v : C) → x ≡ y → u ≡ v → ◌≡◌ {A = ℕ × C} (x, u) (y, v)
pair_is x y u v p q = rw (p, q) refl

module _ {C : Type 0} where
  -- a change writes the child at the byte's place
  put-at_place : (a : ℕ) (ks : List ℕ) (cs : List C) (b : ℕ) (c : C) → Rises a 256 (pairs ks cs) → length cs ≤ length ks → IsSome (lookup (pairs ks cs) b) → pairs ks (set cs (count_below (pairs ks cs) b) c) ≡ put (pairs ks cs) b c
  put-at_place a [] cs b c h l s = absurd (false≢true s)
  put-at_place a (k ∷ ks) [] b c h l s = absurd (false≢true s)
  put-at_place a (k ∷ ks) (x ∷ cs) b c h l s =
      elim (cases_order k b) [
        | inl same ↦ rw (le-ltb k b (omega arith), eq-eqb k b same) (ap (λ j. (j, c) ∷ pairs ks cs) same)
        | inr (inl less) ↦
            let s' = rw (ne_eqb k b (omega arith)) at s in
            rw (lt-ltb k b less, add-one) (ap (λ t. (k, x) ∷ t) (put-at_place (k + 1) ks cs b c h.2 (omega arith) s'))
        | inr (inr more) ↦
            let s' = rw (ne_eqb k b (omega arith), lookup-below (k + 1) 256 (pairs ks cs) b h.2 (omega arith)) at s in absurd (false≢true s')
      ]

-- a sorted node
module _ {C : Type 0} {most : ℕ} {ks : List ℕ} {cs : List C} {count : ℕ} (r : IsSorted most ks cs count) where
  pub enough_bytes : length cs ≤ length ks
  enough_bytes = omega (arith, r.long, r.within)

  pub length-sorted : length (pairs ks cs) ≡ length cs
  length-sorted = length-pairs ks cs enough_bytes

-- a node without children
pub sorted_empty : {C : Type 0} {most : ℕ} {ks : List ℕ} {count : ℕ} → length ks ≡ most → count ≡ 0 → IsSorted {C = C} most ks [] count × (pairs {C = C} ks [] ≡ [])
sorted_empty {C} {most} {ks} {count} long none =
    let is = pairs-none {C = C} ks in (
      record {
        ascending = subst (Rises 0 256) (sym is) tt;
        long = long;
        within = omega arith;
        counted = none;
      },
      is,
    )

-- a byte's place in a sorted node, whose first n bytes have children
module _ {C : Type 0} {most : ℕ} {ks : List ℕ} {cs : List C} {count : ℕ} (r : IsSorted most ks cs count)
    (b : ℕ) {i n : ℕ} (e : n ≡ length cs) (at : i ≡ below (take n ks) b) where
  pub place_is : i ≡ count_below (pairs ks cs) b
  place_is = at ∙ ap (λ m. below (take m ks) b) e ∙ below-pairs ks cs b (enough_bytes r)

  child_at : (c : C) → i < length cs → get_or ks i 0 ≡ b → c ≡ get_or cs i c → Some c ≡ lookup (pairs ks cs) b
  child_at c inside same is =
      let d : get_or ks i b ≡ b = get_or_default ks i b 0 (omega (arith, enough_bytes r)) ∙ same in
      let p : get_or (pairs ks cs) i (b, c) ≡ (b, c) = get_or-pairs ks cs i b c (enough_bytes r) inside ∙ pair_is (get_or ks i b) b (get_or cs i c) c d (sym is) in
      sym (lookup-at_index 0 256 (pairs ks cs) b i (b, c) r.ascending place_is (omega (arith, length-sorted r)) (sym p) refl)

  pub found_at : i < length cs → get_or ks i 0 ≡ b → slice_get cs i ≡ lookup (pairs ks cs) b
  found_at inside same = elim (slice_get_cases cs i).1 [ inl there ↦ there.2 ∙ child_at there.0 inside same (sym there.3) | inr past ↦ absurd (omega (arith, past.0, inside)) ]

  pub some_at : i < length cs → get_or ks i 0 ≡ b → IsSome (lookup (pairs ks cs) b)
  some_at inside same = elim (slice_get_cases cs i).1 [ inl there ↦ subst IsSome (child_at there.0 inside same (sym there.3)) refl | inr past ↦ absurd (omega (arith, past.0, inside)) ]

  pub not_at : (i < length cs → get_or ks i 0 ≢ b) → lookup (pairs ks cs) b ≡ None
  not_at other = lookup-not_at 0 ks cs b r.ascending (enough_bytes r) (subst (λ j. j < length cs → get_or ks j 0 ≢ b) place_is other)

  pub present_inside : IsSome (lookup (pairs ks cs) b) → i < length cs
  present_inside some = omega (arith, (place_present 0 256 (pairs ks cs) b r.ascending some).0, length-sorted r, place_is)

  pub value_at : (c : C) → IsSome (lookup (pairs ks cs) b) → c ≡ get_or cs i c → lookup (pairs ks cs) b ≡ Some c
  value_at c some is =
      let inside = present_inside some in
      lookup-at_present 0 256 (pairs ks cs) b i (get_or ks i b, c) r.ascending some place_is
      (sym (get_or-pairs ks cs i (get_or ks i b) c (enough_bytes r) inside ∙ pair_is _ _ _ _ (sym (get_or_default ks i b (get_or ks i b) (omega (arith, inside, enough_bytes r)))) (sym is)))

  -- an insertion of a byte that is absent
  pub inserted : {ls : List ℕ} {ds : List C} (c : C) → b < 256 → lookup (pairs ks cs) b ≡ None → length cs < most → length ls ≡ length ks → i ≤ n → ds ≡ insert cs i c
      → ((k : ℕ) → k < i → get_or ls k 0 ≡ get_or ks k 0) → get_or ls i 0 ≡ b → ((k : ℕ) → i ≤ k → k < n → get_or ls (k + 1) 0 ≡ get_or ks k 0)
      → IsSorted most ls ds (count + 1) × (pairs ls ds ≡ put (pairs ks cs) b c)
  inserted {ls} {ds} c byte none room same inside is before here after =
      let children : pairs ls ds ≡ put (pairs ks cs) b c
      = ap (λ x. pairs ls x) is ∙ pairs-insert ks ls cs i b c (omega (arith, room, r.long)) same (omega (arith, inside, e)) before here (rw e at after)
      ∙ ap (λ j. insert (pairs ks cs) j (b, c)) place_is ∙ sym (put-absent 0 256 (pairs ks cs) b c r.ascending none) in
      let longer : length ds ≡ length cs + 1 = ap length is ∙ length-insert cs i c (omega (arith, inside, e)) in (
        record {
          ascending = subst (Rises 0 256) (sym children) (Rises-put 0 256 (pairs ks cs) b c r.ascending (omega arith) byte);
          long = same ∙ r.long;
          within = omega (arith, longer, room);
          counted = omega (arith, longer, r.counted);
        },
        children,
      )

  -- a removal of a byte that is present
  pub removed : {ls : List ℕ} {ds : List C} {fewer : ℕ} → IsSome (lookup (pairs ks cs) b) → length ls ≡ length ks → ds ≡ remove cs i
      → ((k : ℕ) → k < i → get_or ls k 0 ≡ get_or ks k 0) → ((k : ℕ) → i ≤ k → k + 1 < n → get_or ls k 0 ≡ get_or ks (k + 1) 0) → fewer + 1 ≡ count
      → IsSorted most ls ds fewer × (pairs ls ds ≡ without (pairs ks cs) b)
  removed {ls} {ds} {fewer} some same is before after less =
      let inside = present_inside some in
      let children : pairs ls ds ≡ without (pairs ks cs) b
      = ap (λ x. pairs ls x) is ∙ pairs-remove ks ls cs i (enough_bytes r) same inside before (rw e at after) ∙ sym (without-at_present 0 256 (pairs ks cs) b i r.ascending some place_is) in
      let shorter : length ds + 1 ≡ length cs = ap (λ (x : List C). length x + 1) is ∙ length-remove cs i inside in (
        record {
          ascending = subst (Rises 0 256) (sym children) (Rises-without 0 256 (pairs ks cs) b r.ascending);
          long = same ∙ r.long;
          within = omega (arith, shorter, r.within);
          counted = omega (arith, shorter, r.counted, less);
        },
        children,
      )

  -- another child under a byte that is present
  pub changed : (c : C) → b < 256 → IsSome (lookup (pairs ks cs) b) → IsSorted most ks (set cs i c) count × (pairs ks (set cs i c) ≡ put (pairs ks cs) b c)
  changed c byte some =
      let children : pairs ks (set cs i c) ≡ put (pairs ks cs) b c
      = ap (λ j. pairs ks (set cs j c)) place_is ∙ put-at_place 0 ks cs b c r.ascending (enough_bytes r) some in
      let long : length (set cs i c) ≡ length cs = length-set cs i c in (
        record {
          ascending = subst (Rises 0 256) (sym children) (Rises-put 0 256 (pairs ks cs) b c r.ascending (omega arith) byte);
          long = r.long;
          within = omega (arith, long, r.within);
          counted = omega (arith, long, r.counted);
        },
        children,
      )

-- the children between two bytes, by their places
module _ {C : Type 0} {most : ℕ} {ks : List ℕ} {cs : List C} {count : ℕ} (r : IsSorted most ks cs count)
    (s e : ℕ) {i j n : ℕ} (m : n ≡ length cs) (p : i ≡ below (take n ks) s) (q : j ≡ below (take n ks) e) where
  pub part_between : pairs (take (j - i) (drop i ks)) (take (j - i) (drop i cs)) ≡ between (pairs ks cs) s e
  part_between =
      pairs-take (drop i ks) (drop i cs) (j - i) ∙ ap (take (j - i)) (pairs-drop ks cs i) ∙ rw (place_is r s m p, place_is r e m q) (between-places s e (pairs ks cs) r.ascending)

  pub bytes_between : pairs (take (j - i) (drop i ks)) (drop i cs) ≡ between (pairs ks cs) s e
  bytes_between = pairs-short (drop i ks) (drop i cs) (j - i) ∙ part_between

  pub part_none : j ≤ i → [] ≡ between (pairs ks cs) s e
  part_none o =
      let z : count_below (pairs ks cs) e - count_below (pairs ks cs) s ≡ 0 = omega (arith, place_is r s m p, place_is r e m q) in
      ap (λ k. take k (drop (count_below (pairs ks cs) s) (pairs ks cs))) (sym z) ∙ between-places s e (pairs ks cs) r.ascending
