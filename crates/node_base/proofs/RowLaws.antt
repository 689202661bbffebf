-- The map of bytes that a row of children and their places are.
use Rattle.std.proofs.Common.{◌≡◌, ◌≢◌, ◌⊎◌, ℕ, zero, suc, ◌+◌, ◌-◌, ◌<◌, ◌≤◌, List, [], ◌∷◌, ◌++◌, length, get_or, slice_get, set, Option, Some, None, IsSome, refl, ap, sym, ◌∙◌, arith, inl, inr, length-set, length-append}
use Rattle.std.proofs.lemmas.Bool.{eq-eqb, ne_eqb, cases_eq, cases_lt, false≢true}
use Rattle.std.proofs.lemmas.Option.{slice_get_cases, slice_get_past, slice_get-get_or}
use Rattle.spec_map.specs.Map.{lookup, put, without, between, Rises}
use Rattle.node_base.specs.inner.Row.{joined, under, at_place, in_row, IsRow}
use Rattle.spec_map.proofs.MapLaws.{Rises-wider, Rises-put, Rises-without, Rises-between, lookup-below, lookup-put_same, lookup-put_other, lookup-without_same, lookup-without_other, lookup-between_inside, lookup-between_outside, same_from_lookups}
use Rattle.spec_map.proofs.ByteMapLaws.{length-put_new, length-put_some, length-without_present}

module _ {C : Type 0} where
  joined-rises : (b e : ℕ) (o : Option C) (es : List (ℕ × C)) → b < e → Rises (b + 1) e es → Rises b e (joined b o es)
  joined-rises b e None es l h = Rises-wider (b + 1) e b e es (omega arith) (omega arith) h
  joined-rises b e (Some c) es l h = (omega arith, l, h)

  joined-here : (b : ℕ) (o : Option C) (es : List (ℕ × C)) → lookup es b ≡ None → lookup (joined b o es) b ≡ o
  joined-here b None es h = h
  joined-here b (Some c) es h = rw (eq-eqb b b refl) refl

  joined-other : (b k : ℕ) (o : Option C) (es : List (ℕ × C)) → b ≢ k → lookup (joined b o es) k ≡ lookup es k
  joined-other b k None es h = refl
  joined-other b k (Some c) es h = rw (ne_eqb b k h) refl

  lookup-above : (a b k : ℕ) (es : List (ℕ × C)) → Rises a b es → b ≤ k → lookup es k ≡ None
  lookup-above a b k [] h l = refl
  lookup-above a b k (e ∷ es) h l = rw (ne_eqb e.0 k (omega (arith, h.1))) (lookup-above (e.0 + 1) b k es h.2 l)

module _ {C : Type 0} (has : ℕ → Option C) where
  pub under-rises : (b n e : ℕ) → e ≡ b + n → Rises b e (under has b n)
  unfolding under
  under-rises b zero e is = tt
  under-rises b (suc n) e is = joined-rises b e (has b) (under has (b + 1) n) (omega arith) (under-rises (b + 1) n e (omega arith))

  pub lookup-under : (b n k : ℕ) → b ≤ k → k < b + n → lookup (under has b n) k ≡ has k
  unfolding under
  lookup-under b zero k l m = absurd (omega arith)
  lookup-under b (suc n) k l m =
      elim (cases_eq b k) [
        | inl same ↦
            rw (← same) (joined-here b (has b) (under has (b + 1) n) (lookup-below (b + 1) (b + 1 + n) (under has (b + 1) n) b (under-rises (b + 1) n (b + 1 + n) refl) (omega arith)))
        | inr other ↦ joined-other b k (has b) (under has (b + 1) n) other ∙ lookup-under (b + 1) n k (omega arith) (omega arith)
      ]

  pub lookup-outside : (b n k : ℕ) → (k < b) ⊎ (b + n ≤ k) → lookup (under has b n) k ≡ None
  lookup-outside b n k (inl l) = lookup-below b (b + n) (under has b n) k (under-rises b n (b + n) refl) l
  lookup-outside b n k (inr l) = lookup-above b (b + n) k (under has b n) (under-rises b n (b + n) refl) l

module _ {C : Type 0} (has had : ℕ → Option C) where
  -- two functions with the same children from one byte on
  pub under-same : (b n : ℕ) → ((d : ℕ) → b ≤ d → d < b + n → has d ≡ had d) → under has b n ≡ under had b n
  under-same b n h =
      same_from_lookups b (b + n) b (b + n) (under has b n) (under had b n) (under-rises has b n (b + n) refl) (under-rises had b n (b + n) refl)
      (λ k. elim (cases_lt k b) [
        | inl less ↦ lookup-outside has b n k (inl less) ∙ sym (lookup-outside had b n k (inl less))
        | inr from ↦ elim (cases_lt k (b + n)) [
          | inl inside ↦ lookup-under has b n k from inside ∙ h k from inside ∙ sym (lookup-under had b n k from inside)
          | inr past ↦ lookup-outside has b n k (inr past) ∙ sym (lookup-outside had b n k (inr past))
        ]
      ])

  -- one byte has another child
  pub under-put : (b : ℕ) (c : C) → b < 256 → has b ≡ Some c → ((d : ℕ) → d < 256 → d ≢ b → has d ≡ had d) → under has 0 256 ≡ put (under had 0 256) b c
  under-put b c byte here others =
      same_from_lookups 0 256 0 256 (under has 0 256) (put (under had 0 256) b c) (under-rises has 0 256 256 refl) (Rises-put 0 256 (under had 0 256) b c (under-rises had 0 256 256 refl) (omega arith) byte)
      (λ k. elim (cases_eq k b) [
        | inl same ↦ rw same (lookup-under has 0 256 b (omega arith) byte ∙ here ∙ sym (lookup-put_same (under had 0 256) b c))
        | inr other ↦ elim (cases_lt k 256) [
          | inl inside ↦ lookup-under has 0 256 k (omega arith) inside ∙ others k inside other ∙ sym (lookup-put_other (under had 0 256) b c k other ∙ lookup-under had 0 256 k (omega arith) inside)
          | inr past ↦ lookup-outside has 0 256 k (inr past) ∙ sym (lookup-put_other (under had 0 256) b c k other ∙ lookup-outside had 0 256 k (inr past))
        ]
      ])

  -- one byte has no child any more
  pub under-without : (b : ℕ) → b < 256 → has b ≡ None → ((d : ℕ) → d < 256 → d ≢ b → has d ≡ had d) → under has 0 256 ≡ without (under had 0 256) b
  under-without b byte here others =
      same_from_lookups 0 256 0 256 (under has 0 256) (without (under had 0 256) b) (under-rises has 0 256 256 refl) (Rises-without 0 256 (under had 0 256) b (under-rises had 0 256 256 refl))
      (λ k. elim (cases_eq k b) [
        | inl same ↦ rw same (lookup-under has 0 256 b (omega arith) byte ∙ here ∙ sym (lookup-without_same 0 256 (under had 0 256) b (under-rises had 0 256 256 refl)))
        | inr other ↦ elim (cases_lt k 256) [
          | inl inside ↦ lookup-under has 0 256 k (omega arith) inside ∙ others k inside other ∙ sym (lookup-without_other (under had 0 256) b k other ∙ lookup-under had 0 256 k (omega arith) inside)
          | inr past ↦ lookup-outside has 0 256 k (inr past) ∙ sym (lookup-without_other (under had 0 256) b k other ∙ lookup-outside had 0 256 k (inr past))
        ]
      ])

module _ {C : Type 0} (has : ℕ → Option C) where
  -- a scan returns the children between two bytes
  pub under-between : (s e : ℕ) → e ≤ 256 → under has s (e - s) ≡ between (under has 0 256) s e
  under-between s e last =
      same_from_lookups s (s + (e - s)) 0 256 (under has s (e - s)) (between (under has 0 256) s e) (under-rises has s (e - s) (s + (e - s)) refl) (Rises-between 0 256 s e (under has 0 256) (under-rises has 0 256 256 refl))
      (λ k. elim (cases_lt k s) [
        | inl less ↦ lookup-outside has s (e - s) k (inl less) ∙ sym (lookup-between_outside (under has 0 256) s e k (inl less))
        | inr from ↦ elim (cases_lt k e) [
          | inl inside ↦ lookup-under has s (e - s) k from (omega arith) ∙ sym (lookup-between_inside (under has 0 256) s e k from inside ∙ lookup-under has 0 256 k (omega arith) (omega arith))
          | inr past ↦ lookup-outside has s (e - s) k (inr (omega arith)) ∙ sym (lookup-between_outside (under has 0 256) s e k (inr past))
        ]
      ])

  -- one step of a scan up to the byte e
  step-some : (b n : ℕ) (c : C) → has b ≡ Some c → under has b (suc n) ≡ (b, c) ∷ under has (b + 1) n
  unfolding under
  step-some b n c is = rw is refl

  step-none : (b n : ℕ) → has b ≡ None → under has b (suc n) ≡ under has (b + 1) n
  unfolding under
  step-none b n is = rw is refl

  pub scan-found : (b e : ℕ) (c : C) → b < e → has b ≡ Some c → under has b (e - b) ≡ (b, c) ∷ under has (b + 1) (e - (b + 1))
  scan-found b e c l is = let m : e - b ≡ suc (e - (b + 1)) = omega arith in ap (under has b) m ∙ step-some b (e - (b + 1)) c is

  pub scan-none : (b e : ℕ) → b < e → has b ≡ None → under has b (e - b) ≡ under has (b + 1) (e - (b + 1))
  scan-none b e l is = let m : e - b ≡ suc (e - (b + 1)) = omega arith in ap (under has b) m ∙ step-none b (e - (b + 1)) is

  pub scan-end : (b e : ℕ) → e ≤ b → under has b (e - b) ≡ []
  unfolding under
  scan-end b e l = let m : e - b ≡ 0 = omega arith in ap (under has b) m

  nothing-before : (b n k : ℕ) → ((d : ℕ) → b ≤ d → d < b + k → has d ≡ None) → k ≤ n → under has b n ≡ under has (b + k) (n - k)
  nothing-before b n zero h l = (let p : b + 0 ≡ b = omega arith in let q : n - 0 ≡ n = omega arith in rw (p, q) refl)
  nothing-before b zero (suc k) h l = absurd (omega arith)
  nothing-before b (suc n) (suc k) h l =
      let p : b + 1 + k ≡ b + suc k = omega arith in
      let q : suc n - suc k ≡ n - k = omega arith in
      step-none b n (h b (omega arith) (omega arith)) ∙ nothing-before (b + 1) n k (λ d m o. h d (omega arith) (omega arith)) (omega arith) ∙ ap (λ x. under has x (n - k)) p ∙ ap (under has (b + suc k)) (sym q)

  -- a scan passes bytes that have no child
  pub scan-skip : (b d e : ℕ) → b ≤ d → d ≤ e → ((i : ℕ) → b ≤ i → i < d → has i ≡ None) → under has b (e - b) ≡ under has d (e - d)
  scan-skip b d e l m h =
      let p : b + (d - b) ≡ d = omega arith in
      let q : e - b - (d - b) ≡ e - d = omega arith in
      nothing-before b (e - b) (d - b) (λ i n o. h i n (omega arith)) (omega arith) ∙ ap (λ x. under has x (e - b - (d - b))) p ∙ ap (under has d) q

  pub scan-nothing : (b e : ℕ) → ((i : ℕ) → b ≤ i → i < e → has i ≡ None) → under has b (e - b) ≡ []
  scan-nothing b e h = elim (cases_lt b e) [ inl less ↦ scan-skip b e e (omega arith) (omega arith) h ∙ scan-end e e (omega arith) | inr past ↦ scan-end b e past ]

  -- no byte has a child
  pub under-nothing : (b n : ℕ) → ((d : ℕ) → d < 256 → has d ≡ None) → b + n ≤ 256 → under has b n ≡ []
  unfolding under
  under-nothing b zero h l = refl
  under-nothing b (suc n) h l = rw (h b (omega arith)) (under-nothing (b + 1) n h (omega arith))

module _ {C : Type 0} where
  get-last : (row : List C) (c : C) → slice_get (row ++ c ∷ []) (length row) ≡ Some c
  get-last [] c = refl
  get-last (x ∷ row) c = get-last row c

  get-before : (row more : List C) (i : ℕ) → i < length row → slice_get (row ++ more) i ≡ slice_get row i
  get-before [] more i l = absurd (omega arith)
  get-before (x ∷ row) more zero l = refl
  get-before (x ∷ row) more (suc i) l = get-before row more i (omega arith)

  get-written : (row : List C) (i : ℕ) (c : C) → i < length row → slice_get (set row i c) i ≡ Some c
  get-written [] i c l = absurd (omega arith)
  get-written (x ∷ row) zero c l = refl
  get-written (x ∷ row) (suc i) c l = get-written row i c (omega arith)

  get-kept : (row : List C) (i j : ℕ) (c : C) → j ≢ i → slice_get (set row i c) j ≡ slice_get row j
  get-kept [] i j c l = refl
  get-kept (x ∷ row) zero zero c l = absurd (l refl)
  get-kept (x ∷ row) zero (suc j) c l = refl
  get-kept (x ∷ row) (suc i) zero c l = refl
  get-kept (x ∷ row) (suc i) (suc j) c l = get-kept row i j c (omega arith)

  -- the same child at two places
  pub get-same : (xs ys : List C) (i j : ℕ) → i < length xs → j < length ys → ((d : C) → get_or xs i d ≡ get_or ys j d) → slice_get xs i ≡ slice_get ys j
  get-same xs ys i j l m h =
      elim (slice_get_cases xs i).1 [
        | inl there ↦ there.2 ∙ ap Some (sym there.3 ∙ h there.0) ∙ sym (slice_get-get_or ys j there.0 m)
        | inr past ↦ absurd (omega (arith, past.0, l))
      ]

module _ {C : Type 0} (most : ℕ) (place : ℕ → ℕ) (row : List C) (count : ℕ) (h : IsRow most place row count) (b : ℕ) (byte : b < 256) where
  pub row-lookup : lookup (in_row place row) b ≡ slice_get row (place b)
  row-lookup = lookup-under (at_place place row) 0 256 b (omega arith) byte

  -- a byte without the mark has a place in the row
  pub marked-inside : place b ≢ most → place b < length row
  marked-inside unmarked =
      elim (cases_lt (place b) (length row)) [
        | inl less ↦ less
        | inr past ↦ absurd (unmarked (h.vacant b byte past))
      ]

  -- a byte with a child has a place in the row
  pub row-inside : IsSome (lookup (in_row place row) b) → place b < length row
  row-inside some =
      elim (slice_get_cases row (place b)).1 [
        | inl there ↦ there.1
        | inr past ↦ absurd (let none = row-lookup ∙ past.1 in false≢true (rw none at some))
      ]

  -- and one with a place in the row has a child
  pub row-present : place b < length row → IsSome (lookup (in_row place row) b)
  row-present inside =
      elim (slice_get_cases row (place b)).1 [ inl there ↦ rw (row-lookup, there.2) refl | inr past ↦ absurd (omega (arith, past.0, inside)) ]

  -- a new child goes to the end
  pub row-added : (place' : ℕ → ℕ) (c : C) (more : ℕ) → lookup (in_row place row) b ≡ None → length row < most → more ≡ count + 1
      → place' b ≡ length row → ((d : ℕ) → d < 256 → d ≢ b → place' d ≡ place d)
      → IsRow most place' (row ++ c ∷ []) more × (in_row place' (row ++ c ∷ []) ≡ put (in_row place row) b c)
  row-added place' c more none room one here others =
      let long : length (row ++ c ∷ []) ≡ length row + 1 = length-append row (c ∷ []) in
      let kept : (d : ℕ) → d < 256 → d ≢ b → at_place place' (row ++ c ∷ []) d ≡ at_place place row d =
      λ d l n. ap (slice_get (row ++ c ∷ [])) (others d l n) ∙ elim (cases_lt (place d) (length row)) [
        | inl inside ↦ get-before row (c ∷ []) (place d) inside
        | inr past ↦ slice_get_past (row ++ c ∷ []) (place d) (omega (arith, h.vacant d l past, long, room)) ∙ sym (slice_get_past row (place d) past)
      ]
      in
      let is = under-put (at_place place' (row ++ c ∷ [])) (at_place place row) b c byte (ap (slice_get (row ++ c ∷ [])) here ∙ get-last row c) kept in
      let grew = length-put_new 0 256 (in_row place row) b c (under-rises (at_place place row) 0 256 256 refl) none in (
        record {
          within = omega (arith, long, room);
          vacant = λ d l past. elim (cases_eq d b) [
            | inl same ↦ absurd (let p : place' d ≡ length row = ap place' same ∙ here in omega (arith, p, past, long))
            | inr other ↦ others d l other ∙ h.vacant d l (omega (arith, others d l other, past, long))
          ];
          apart = λ d e l m inside same. elim (cases_eq d b) [
            | inl first ↦ elim (cases_eq e b) [
              | inl second ↦ first ∙ sym second
              | inr other ↦ absurd (let p : place' d ≡ length row = ap place' first ∙ here in let q = h.vacant e m (omega (arith, p, same, others e m other)) in omega (arith, p, q, same, others e m other, room))
            ]
            | inr other ↦ elim (cases_eq e b) [
              | inl second ↦ absurd (let p : place' e ≡ length row = ap place' second ∙ here in let q = h.vacant d l (omega (arith, p, same, others d l other)) in omega (arith, p, q, same, others d l other, room))
              | inr too ↦ h.apart d e l m
                  (elim (cases_lt (place d) (length row)) [ inl less ↦ less | inr past ↦ absurd (let q = h.vacant d l past in omega (arith, q, inside, long, others d l other, room)) ])
                  (sym (others d l other) ∙ same ∙ others e m too)
            ]
          ];
          each = ap length is ∙ grew ∙ ap (λ n. n + 1) h.each ∙ sym long;
          counted = omega (arith, one, h.counted, long);
        },
        is,
      )

  -- another child at a byte's place
  pub row-changed : (c : C) → place b < length row → IsRow most place (set row (place b) c) count × (in_row place (set row (place b) c) ≡ put (in_row place row) b c)
  row-changed c inside =
      let long = length-set row (place b) c in
      let is = under-put (at_place place (set row (place b) c)) (at_place place row) b c byte (get-written row (place b) c inside)
      (λ d l n. get-kept row (place b) (place d) c (λ same. n (sym (h.apart b d byte l inside (sym same))))) in
      let same = length-put_some 0 256 (in_row place row) b c (under-rises (at_place place row) 0 256 256 refl) (row-present inside) in (
        record {
          within = omega (arith, long, h.within);
          vacant = λ d l past. h.vacant d l (omega (arith, past, long));
          apart = λ d e l m less. h.apart d e l m (omega (arith, less, long));
          each = ap length is ∙ same ∙ h.each ∙ sym long;
          counted = h.counted ∙ sym long;
        },
        is,
      )

  -- a child goes, and the last one takes its place
  pub row-removed : (place' : ℕ → ℕ) (row' : List C) (fewer : ℕ) → IsSome (lookup (in_row place row) b) → fewer + 1 ≡ count → length row' + 1 ≡ length row
      → place' b ≡ most → ((d : ℕ) → d < 256 → d ≢ b → place d + 1 ≡ length row → place' d ≡ place b) → ((d : ℕ) → d < 256 → d ≢ b → place d + 1 ≢ length row → place' d ≡ place d)
      → ((c : C) → place b + 1 < length row → get_or row' (place b) c ≡ get_or row (length row - 1) c)
      → ((i : ℕ) (c : C) → i ≢ place b → i + 1 < length row → get_or row' i c ≡ get_or row i c)
      → IsRow most place' row' fewer × (in_row place' row' ≡ without (in_row place row) b)
  row-removed place' row' fewer some one shorter here moved others last kept =
      let inside = row-inside some in
      let apart : (d : ℕ) → d < 256 → d ≢ b → place d ≢ place b = λ d l n e. n (sym (h.apart b d byte l inside (sym e))) in
      let same : (d : ℕ) → d < 256 → d ≢ b → at_place place' row' d ≡ at_place place row d =
      λ d l n. elim (cases_eq (place d + 1) (length row)) [
        | inl end ↦ ap (slice_get row') (moved d l n end)
            ∙ get-same row' row (place b) (place d) (omega (arith, apart d l n, end, inside, shorter)) (omega (arith, end))
            (λ c. last c (omega (arith, apart d l n, end, inside)) ∙ ap (λ i. get_or row i c) (omega (arith, end)))
        | inr other ↦ ap (slice_get row') (others d l n other) ∙ elim (cases_lt (place d) (length row)) [
          | inl less ↦ get-same row' row (place d) (place d) (omega (arith, less, other, shorter)) less (λ c. kept (place d) c (apart d l n) (omega (arith, less, other)))
          | inr past ↦ slice_get_past row' (place d) (omega (arith, past, shorter)) ∙ sym (slice_get_past row (place d) past)
        ]
      ]
      in
      let is = under-without (at_place place' row') (at_place place row) b byte (slice_get_past row' (place' b) (omega (arith, here, h.within, shorter))) same in
      let shrank = length-without_present 0 256 (in_row place row) b (under-rises (at_place place row) 0 256 256 refl) some in
      let stays : (d : ℕ) → d < 256 → d ≢ b → place' d < length row' → (place d < length row) × ((place d + 1 ≡ length row) × (place' d ≡ place b) ⊎ (place d + 1 ≢ length row) × (place' d ≡ place d)) =
      λ d l n less. elim (cases_eq (place d + 1) (length row)) [
        | inl end ↦ (omega (arith, end), inl (end, moved d l n end))
        | inr other ↦ (omega (arith, others d l n other, less, shorter), inr (other, others d l n other))
      ]
      in (
        record {
          within = omega (arith, h.within, shorter);
          vacant = λ d l past. elim (cases_eq d b) [
            | inl first ↦ ap place' first ∙ here
            | inr n ↦ elim (cases_eq (place d + 1) (length row)) [
              | inl end ↦ absurd (omega (arith, moved d l n end, apart d l n, end, past, inside, shorter))
              | inr other ↦ others d l n other ∙ h.vacant d l (omega (arith, others d l n other, other, past, shorter))
            ]
          ];
          apart = λ d e l m less both. elim (cases_eq d b) [
            | inl first ↦ absurd (let p : place' d ≡ most = ap place' first ∙ here in omega (arith, p, less, shorter, h.within))
            | inr n ↦ elim (cases_eq e b) [
              | inl second ↦ absurd (let p : place' e ≡ most = ap place' second ∙ here in omega (arith, p, both, less, shorter, h.within))
              | inr k ↦ (let x = stays d l n less in let y = stays e m k (omega (arith, both, less)) in
                  h.apart d e l m x.0 (elim x.1 [
                    | inl p ↦ elim y.1 [ inl q ↦ omega (arith, p.0, q.0) | inr q ↦ absurd (apart e m k (omega (arith, p.1, q.1, both))) ]
                    | inr p ↦ elim y.1 [ inl q ↦ absurd (apart d l n (omega (arith, p.1, q.1, both))) | inr q ↦ omega (arith, p.1, q.1, both) ]
                  ]))
            ]
          ];
          each = omega (arith, ap length is, shrank, h.each, shorter);
          counted = omega (arith, one, h.counted, shorter);
        },
        is,
      )

-- an empty row
pub row-empty : {C : Type 0} (most : ℕ) (place : ℕ → ℕ) (count : ℕ) → ((b : ℕ) → b < 256 → place b ≡ most) → count ≡ 0 → (IsRow {C = C} most place [] count) × (in_row {C = C} place [] ≡ [])
row-empty {C} most place count all none =
    let is = under-nothing {C = C} (at_place place []) 0 256 (λ d l. refl) (omega arith) in (
      record {
        within = omega arith;
        vacant = λ b l past. all b l;
        apart = λ b d l m less. absurd (omega (arith, less));
        each = ap length is;
        counted = none;
      },
      is,
    )
