-- From one layout to the other.
use Rattle.std.proofs.Common.{◌≡◌, ◌≢◌, ℕ, zero, suc, ◌+◌, ◌<◌, ◌≤◌, ◌⊎◌, List, [], ◌∷◌, length, Some, None, refl, ap, sym, ◌∙◌, subst, arith, rules, inl, inr}
use Rattle.std.proofs.lemmas.Bool.{cases_eq, cases_lt, cases_order, ne_eqb}
use Rattle.std.proofs.lemmas.List.Sums.{length-filter, count_by-le-length}
use Rattle.std.specs.Prelude.{◌&&◌, nat_le, nat_lt}
use Rattle.spec_map.specs.Map.{lookup, put, between, Rises}
use Rattle.spec_map.proofs.MapLaws as maps
use Rattle.spec_map.proofs.ByteMapLaws.{length-put_new}
use Rattle.live_layout.specs.ListCells.{count, key, child, first, HasList}
use Rattle.live_layout.proofs.ListLaws.{two, key-small}

-- the first children of a list
abbrev pub entered : ℕ → List ℕ → ℕ → List (ℕ × ℕ)
entered room c zero = []
entered room c (suc i) = put (entered room c i) (key c i) (child room c i)

-- a byte is among the first, or it isn't
among : (c : List ℕ) (b n : ℕ) → ((j : ℕ) × (j < n) × (key c j ≡ b)) ⊎ ((j : ℕ) → j < n → key c j ≢ b)
among c b zero = inr (λ j l. absurd (omega arith))
among c b (suc n) =
    elim (cases_eq (key c n) b) [
      | inl e ↦ inl (n, (omega arith), e)
      | inr other ↦
          elim (among c b n) [
            | inl f ↦ inl (f.0, (omega (arith, f.1)), f.2)
            | inr none ↦
                inr (λ j l. elim (cases_eq j n) [
                  | inl e ↦ subst (λ x. key c x ≢ b) (sym e) other
                  | inr ne ↦ none j (omega arith)
                ])
          ]
    ]

pub above : (a b : ℕ) (xs : List (ℕ × ℕ)) (k : ℕ) → Rises a b xs → b ≤ k → lookup xs k ≡ None
above a b [] k r l = refl
above a b (x ∷ xs) k r l = rw (ne_eqb x.0 k (omega (arith, r.1))) (above (x.0 + 1) b xs k r.2 l)

module _ {room : ℕ} {c : List ℕ} {es : List (ℕ × ℕ)} (h : HasList room c es) where
  pub entered-free : (i : ℕ) → i ≤ count c → (b : ℕ) → ((j : ℕ) → j < i → key c j ≢ b) → lookup (entered room c i) b ≡ None
  entered-free zero l b away = refl
  entered-free (suc i) l b away =
      maps.lookup-put_other (entered room c i) (key c i) (child room c i) b (λ same. away i (omega arith) (sym same)) ∙ entered-free i (omega arith) b (λ j m. away j (omega arith))

  entered-there : (i : ℕ) → i ≤ count c → (j : ℕ) → j < i → lookup (entered room c i) (key c j) ≡ Some (child room c j)
  entered-there zero l j m = absurd (omega arith)
  entered-there (suc i) l j m =
      elim (cases_eq j i) [
        | inl e ↦ subst (λ x. lookup (entered room c (suc i)) (key c x) ≡ Some (child room c x)) (sym e) (maps.lookup-put_same (entered room c i) (key c i) (child room c i))
        | inr other ↦ maps.lookup-put_other (entered room c i) (key c i) (child room c i) (key c j) (two h j i (omega arith) (omega arith) other) ∙ entered-there i (omega arith) j (omega arith)
      ]

  entered-rises : (i : ℕ) → i ≤ count c → Rises 0 256 (entered room c i)
  entered-rises zero l = search rules
  entered-rises (suc i) l = maps.Rises-put 0 256 (entered room c i) (key c i) (child room c i) (entered-rises i (omega arith)) (omega arith) (key-small h i (omega arith))

  pub entered-all : entered room c (count c) ≡ es
  entered-all =
      maps.same_from_lookups 0 256 0 256 (entered room c (count c)) es (entered-rises (count c) (omega arith)) h.ordered (λ k. elim (among c k (count c)) [
        | inl f ↦
            subst (λ x. lookup (entered room c (count c)) x ≡ lookup es x) f.2 (entered-there (count c) (omega arith) f.0 f.1 ∙ sym (h.each f.0 f.1))
        | inr none ↦ entered-free (count c) (omega arith) k none ∙ sym (h.free k none)
      ])

  -- the next one is new
  pub entered-new : (i : ℕ) → i < count c → lookup (entered room c i) (key c i) ≡ None
  entered-new i l = entered-free i (omega arith) (key c i) (λ j m. two h j i (omega arith) l (omega arith))

module _ (es : List (ℕ × ℕ)) (r : Rises 0 256 es) where
  pub between-none : between es 0 0 ≡ []
  between-none = maps.same_from_lookups 0 256 0 256 (between es 0 0) [] (maps.Rises-between 0 256 0 0 es r) (search rules) (λ k. maps.lookup-between_outside es 0 0 k (inr (omega arith)))

  pub between-all : between es 0 256 ≡ es
  between-all =
      maps.same_from_lookups 0 256 0 256 (between es 0 256) es (maps.Rises-between 0 256 0 256 es r) r (λ k. elim (cases_lt k 256) [
        | inl l ↦ maps.lookup-between_inside es 0 256 k (omega arith) l
        | inr m ↦ maps.lookup-between_outside es 0 256 k (inr m) ∙ sym (above 0 256 es k r m)
      ])

  pub between-same : (b : ℕ) → lookup es b ≡ None → between es 0 b ≡ between es 0 (b + 1)
  between-same b none =
      maps.same_from_lookups 0 256 0 256 (between es 0 b) (between es 0 (b + 1)) (maps.Rises-between 0 256 0 b es r) (maps.Rises-between 0 256 0 (b + 1) es r) (λ k. elim (cases_order k b) [
        | inl e ↦ maps.lookup-between_outside es 0 b k (inr (omega arith)) ∙ sym (maps.lookup-between_inside es 0 (b + 1) k (omega arith) (omega arith) ∙ ap (lookup es) e ∙ none)
        | inr (inl less) ↦ maps.lookup-between_inside es 0 b k (omega arith) less ∙ sym (maps.lookup-between_inside es 0 (b + 1) k (omega arith) (omega arith))
        | inr (inr more) ↦ maps.lookup-between_outside es 0 b k (inr (omega arith)) ∙ sym (maps.lookup-between_outside es 0 (b + 1) k (inr (omega arith)))
      ])

  pub between-absent : (b : ℕ) → lookup (between es 0 b) b ≡ None
  between-absent b = maps.lookup-between_outside es 0 b b (inr (omega arith))

  pub between-next : (b w : ℕ) → b < 256 → lookup es b ≡ Some w → put (between es 0 b) b w ≡ between es 0 (b + 1)
  between-next b w small some =
      maps.same_from_lookups 0 256 0 256 (put (between es 0 b) b w) (between es 0 (b + 1)) (maps.Rises-put 0 256 (between es 0 b) b w (maps.Rises-between 0 256 0 b es r) (omega arith) small) (maps.Rises-between 0 256 0 (b + 1) es r) (λ k. elim (cases_order k b) [
        | inl e ↦ ap (lookup (put (between es 0 b) b w)) e ∙ maps.lookup-put_same (between es 0 b) b w ∙ sym (maps.lookup-between_inside es 0 (b + 1) k (omega arith) (omega arith) ∙ ap (lookup es) e ∙ some)
        | inr (inl less) ↦ maps.lookup-put_other (between es 0 b) b w k (omega arith) ∙ maps.lookup-between_inside es 0 b k (omega arith) less ∙ sym (maps.lookup-between_inside es 0 (b + 1) k (omega arith) (omega arith))
        | inr (inr more) ↦ maps.lookup-put_other (between es 0 b) b w k (omega arith) ∙ maps.lookup-between_outside es 0 b k (inr (omega arith)) ∙ sym (maps.lookup-between_outside es 0 (b + 1) k (inr (omega arith)))
      ])

  pub between-fewer : (b w : ℕ) → b < 256 → lookup es b ≡ Some w → length (between es 0 b) < length es
  between-fewer b w small some =
      let n = length-put_new 0 256 (between es 0 b) b w (maps.Rises-between 0 256 0 b es r) (between-absent b) in
      let e = ap length (between-next b w small some) in
      let m : length (between es 0 (b + 1)) ≤ length es = omega (arith, length-filter (λ (e : ℕ × ℕ). nat_le 0 e.0 && nat_lt e.0 (b + 1)) es, count_by-le-length (λ (e : ℕ × ℕ). nat_le 0 e.0 && nat_lt e.0 (b + 1)) es) in
      omega (arith, n, e, m)

pub empty-list : (room : ℕ) (c : List ℕ) → length c ≡ first room + room → count c ≡ 0 → HasList room c []
empty-list room c long none = record {
  long = long;
  few = omega arith;
  apart = λ i j l m. absurd (omega arith);
  each = λ i l. absurd (omega arith);
  free = λ b away. refl;
  counted = sym none;
  ordered = search rules;
}
