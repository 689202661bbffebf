-- The pairs of a range that are left, by the pair with the least key from the range's start on.
use Rattle.std.proofs.Common.{◌≡◌, ℕ, ◌+◌, ◌^◌, ◌<◌, ◌≤◌, [], ◌∷◌, Some, None, refl, ap, sym, ◌∙◌, arith, inl, inr}
use Rattle.std.proofs.lemmas.Bool.{lt-ltb, le-ltb, le-leb, lt-leb, cases_lt}
use Rattle.spec_map.specs.Map.{Pairs, IsMap, Rises, between}
use Rattle.spec_map.specs.Near.{first_of, ceiling_of}
use Rattle.spec_map.proofs.NearLaws.{absent_between, least_between, no_first, none-between, none_from}
use Rattle.spec_map.proofs.RangeLaws.{between-all, between-crossed}

module _ {P : Type 0} where
  -- a range begins at the first key, wherever its start is below
  from_first : (a b s t e : ℕ) (m : Pairs P) → Rises a b m → s ≤ a → t ≤ a → between m s e ≡ between m t e
  from_first a b s t e [] h l k = refl
  from_first a b s t e (x ∷ xs) h l k =
      let rest = from_first (x.0 + 1) b s t e xs h.2 (omega (arith, h.0)) (omega (arith, h.0)) in
      rw (le-leb s x.0 (omega (arith, h.0)), le-leb t x.0 (omega (arith, h.0)))
      (elim (cases_lt x.0 e) [
        | inl to ↦ rw (lt-ltb x.0 e to) (ap (λ l. x ∷ l) rest)
        | inr past ↦ rw (le-ltb x.0 e past) rest
      ])

  -- the first pair from a key on is the first of a range that begins there and reaches it
  first_in : (a s e k : ℕ) (p : P) (m : Pairs P) → Rises a (2 ^ 64) m → s ≤ k → first_of (between m s (2 ^ 64)) ≡ Some (k, p) → k < e → between m s e ≡ (k, p) ∷ between m (k + 1) e
  first_in a s e k p [] h low is to = absurd (cc)
  first_in a s e k p (x ∷ xs) h low is to =
      elim (cases_lt x.0 s) [
        | inl less ↦
            let is' = rw (lt-leb s x.0 less) at is in
            rw (lt-leb s x.0 less, lt-leb (k + 1) x.0 (omega (arith, low))) (first_in (x.0 + 1) s e k p xs h.2 low is' to)
        | inr from ↦
            let is' : Some x ≡ Some (k, p) = rw (le-leb s x.0 from, lt-ltb x.0 (2 ^ 64) h.1) at is in
            let same : x ≡ (k, p) = cc in let key : x.0 ≡ k = ap (λ (q : ℕ × P). q.0) same in
            let rest = from_first (x.0 + 1) (2 ^ 64) s (k + 1) e xs h.2 (omega (arith, from)) (omega (arith, key)) in
            rw (le-leb s x.0 from, lt-ltb x.0 e (omega (arith, key, to)), lt-leb (k + 1) x.0 (omega (arith, key))) (cc)
      ]

  -- by the pair with the least key from the start on: there is none, or one behind the last key, or one that is left
  pub none_left : (m : Pairs P) (s l : ℕ) → IsMap m → None ≡ ceiling_of m s → between m s (l + 1) ≡ []
  none_left m s l h is =
      let none : between m s (2 ^ 64) ≡ [] = no_first (between m s (2 ^ 64)) (sym is) in none-between m s (l + 1) (λ j low high. none_from s m j h none low)

  pub past_left : (m : Pairs P) (s l k : ℕ) (p : P) → IsMap m → Some (k, p) ≡ ceiling_of m s → l < k → between m s (l + 1) ≡ []
  past_left m s l k p h is past =
      let at = least_between s (2 ^ 64) m (k, p) h (sym is) in let to : k < 2 ^ 64 = at.to in
      none-between m s (l + 1) (λ j low high. absent_between s (2 ^ 64) m j low (omega (arith, high, past, to)) (at.nothing j (omega (arith, high, past))))

  pub first_left : (m : Pairs P) (s l k : ℕ) (p : P) → IsMap m → Some (k, p) ≡ ceiling_of m s → k ≤ l → between m s (l + 1) ≡ (k, p) ∷ between m (k + 1) (l + 1)
  first_left m s l k p h is to =
      let at = least_between s (2 ^ 64) m (k, p) h (sym is) in first_in 0 s (l + 1) k p m h at.from (sym is) (omega (arith, to))

  pub last_left : (m : Pairs P) (s l k : ℕ) (p : P) → IsMap m → Some (k, p) ≡ ceiling_of m s → l ≡ k → between m s (l + 1) ≡ (k, p) ∷ []
  last_left m s l k p h is same =
      first_left m s l k p h is (omega (arith, same)) ∙ ap (λ (es : Pairs P). (k, p) ∷ es) (between-crossed (k + 1) (l + 1) m (omega (arith, same)))

  -- all pairs, and those of a range that ends at 0
  pub all_left : (m : Pairs P) → IsMap m → between m 0 (2 ^ 64) ≡ m
  all_left m h = between-all 0 (2 ^ 64) 0 (2 ^ 64) m h (omega arith) (omega arith)

  pub none_at_zero : (m : Pairs P) (s : ℕ) → between m s 0 ≡ []
  none_at_zero m s = between-crossed s 0 m (omega arith)
