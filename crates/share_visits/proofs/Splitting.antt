-- The pairs of a range, from those of two ranges beside one another, and how they are written.
use Rattle.std.proofs.Common.{◌≡◌, ℕ, ◌+◌, ◌<◌, ◌≤◌, ◌^◌, Bool, true, false, cond, [], ◌∷◌, ◌++◌, refl, sym, ap, ◌∙◌, inl, inr, arith}
use Rattle.std.proofs.lemmas.Bool.{cases_lt, and_left, and_right, le-leb, lt-leb, le-ltb, lt-ltb}
use Rattle.std.specs.Prelude.{Option, Some, None, ◌&&◌, nat_le, nat_lt}
use Rattle.share_parts.specs.Parts.{Ascends}
use Rattle.spec_map.proofs.MapLaws.{Rises-between, lookup-between_inside, lookup-between_outside}
use Rattle.spec_map.proofs.NearLaws.{first_at, last_at, no_first, no_last, none-between, none_between}
use Rattle.spec_map.specs.Map.{Pairs, Rises, between, lookup}
use Rattle.spec_map.specs.Near.{first_of, last_of}

-- two ranges beside one another
later : (lo hi a b : ℕ) (m : Pairs ℕ) → Rises lo hi m → b ≤ lo → between m a b ≡ []
later lo hi a b [] h le = refl
later lo hi a b (e ∷ es) h le =
    let from = h.0 in
    let rest : between es a b ≡ [] = later (e.0 + 1) hi a b es h.2 (omega (arith, le, from)) in
    ap (λ (t : Bool). cond t (e ∷ between es a b) (between es a b)) (and_right (nat_le a e.0) (nat_lt e.0 b) (le-ltb e.0 b (omega (arith, le, from)))) ∙ rest

step : (e : ℕ × ℕ) (es : Pairs ℕ) (a b : ℕ) (t : Bool) → (nat_le a e.0 && nat_lt e.0 b) ≡ t → between (e ∷ es) a b ≡ cond t (e ∷ between es a b) (between es a b)
step e es a b t is = ap (λ (t : Bool). cond t (e ∷ between es a b) (between es a b)) is

inside : (a b k : ℕ) → a ≤ k → k < b → (nat_le a k && nat_lt k b) ≡ true
inside a b k from to = rw (le-leb a k from, lt-ltb k b to) refl

split : (lo hi a b c : ℕ) (m : Pairs ℕ) → Rises lo hi m → a ≤ b → b ≤ c → between m a c ≡ between m a b ++ between m b c
split lo hi a b c [] h ab bc = refl
split lo hi a b c (e ∷ es) h ab bc =
    let rest : between es a c ≡ between es a b ++ between es b c = split (e.0 + 1) hi a b c es h.2 ab bc in
    elim (cases_lt e.0 a) [
      | inl less ↦
          step e es a c false (and_left (nat_le a e.0) (nat_lt e.0 c) (lt-leb a e.0 less))
          ∙ (rest ∙ sym (λ i. step e es a b false (and_left (nat_le a e.0) (nat_lt e.0 b) (lt-leb a e.0 less)) i ++ step e es b c false (and_left (nat_le b e.0) (nat_lt e.0 c) (lt-leb b e.0 (omega (arith, less, ab)))) i))
      | inr from ↦ elim (cases_lt e.0 b) [
        | inl less ↦
            step e es a c true (inside a c e.0 from (omega (arith, less, bc)))
            ∙ (ap (λ (l : Pairs ℕ). e ∷ l) rest
            ∙ sym (λ i. step e es a b true (inside a b e.0 from less) i ++ step e es b c false (and_left (nat_le b e.0) (nat_lt e.0 c) (lt-leb b e.0 less)) i))
        | inr past ↦
            let none : between (e ∷ es) a b ≡ [] = later e.0 hi a b (e ∷ es) (omega arith, h.1, h.2) past in
            let none_later : between es a b ≡ [] = later (e.0 + 1) hi a b es h.2 (omega (arith, past)) in
            let rest_is : between es a c ≡ between es b c = rest ∙ ap (λ (l : Pairs ℕ). l ++ between es b c) none_later in
            let same : (nat_le a e.0 && nat_lt e.0 c) ≡ (nat_le b e.0 && nat_lt e.0 c) = ap (λ (t : Bool). t && nat_lt e.0 c) (le-leb a e.0 from ∙ sym (le-leb b e.0 past)) in
            step e es a c (nat_le b e.0 && nat_lt e.0 c) same
            ∙ (ap (λ (l : Pairs ℕ). cond (nat_le b e.0 && nat_lt e.0 c) (e ∷ l) l) rest_is ∙ sym (ap (λ (l : Pairs ℕ). l ++ between (e ∷ es) b c) none))
      ]
    ]

-- a range that ends at or before its start
pub between_none : (m : Pairs ℕ) (a b : ℕ) → b ≤ a → between m a b ≡ []
between_none m a b le = none-between m a b (λ j from to. absurd (omega (arith, from, to, le)))

module _ (m : Pairs ℕ) (up : Ascends m) where
  pub between-split : (a b c : ℕ) → a ≤ b → b ≤ c → between m a c ≡ between m a b ++ between m b c
  between-split a b c ab bc = split 0 up.0 a b c m up.1 ab bc

  -- a key that was found in a range is in it
  pub in_range : (a b : ℕ) (p : ℕ × ℕ) → lookup (between m a b) p.0 ≡ Some p.1 → (a ≤ p.0) × (p.0 < b)
  in_range a b p is =
      elim (cases_lt p.0 a) [
        | inl less ↦ absurd (let clash : ◌≡◌ {A = Option ℕ} None (Some p.1) = sym (lookup-between_outside m a b p.0 (inl less)) ∙ is in cc)
        | inr from ↦ elim (cases_lt p.0 b) [
          | inl to ↦ (from, to)
          | inr past ↦ absurd (let clash : ◌≡◌ {A = Option ℕ} None (Some p.1) = sym (lookup-between_outside m a b p.0 (inr past)) ∙ is in cc)
        ]
      ]

  -- THE NEXT KEY above one
  pub after_key : (key : ℕ) (p : ℕ × ℕ) → first_of (between m (key + 1) (2 ^ 64)) ≡ Some p → (key < p.0) × (p.0 < 2 ^ 64) × (between m (key + 1) p.0 ≡ [])
  after_key key p is =
      let at = first_at 0 up.0 (between m (key + 1) (2 ^ 64)) p (Rises-between 0 up.0 (key + 1) (2 ^ 64) m up.1) is in
      let r = in_range (key + 1) (2 ^ 64) p at.stored in
      let low = r.0 in let high = r.1 in (
        omega (arith, low),
        r.1,
        none-between m (key + 1) p.0 (λ j from to. sym (lookup-between_inside m (key + 1) (2 ^ 64) j from (omega (arith, to, high))) ∙ at.nothing j to),
      )

  pub none_after : (key last : ℕ) → last < 2 ^ 64 → ◌≡◌ {A = Option (ℕ × ℕ)} (first_of (between m (key + 1) (2 ^ 64))) None → between m (key + 1) (last + 1) ≡ []
  none_after key last small is =
      let none = no_first (between m (key + 1) (2 ^ 64)) is in
      none-between m (key + 1) (last + 1) (λ j from to. none_between (key + 1) (2 ^ 64) m j from (omega (arith, to, small)) none)

  pub past_last : (key last next : ℕ) → last < next → between m (key + 1) next ≡ [] → between m (key + 1) (last + 1) ≡ []
  past_last key last next less none = none-between m (key + 1) (last + 1) (λ j from to. none_between (key + 1) next m j from (omega (arith, to, less)) none)

  -- THE NEXT KEY below one
  pub before_key : (key : ℕ) (p : ℕ × ℕ) → last_of (between m 0 key) ≡ Some p → (p.0 < key) × (between m (p.0 + 1) key ≡ [])
  before_key key p is =
      let at = last_at 0 up.0 (between m 0 key) p (Rises-between 0 up.0 0 key m up.1) is in
      let r = in_range 0 key p at.stored in
      (r.1, none-between m (p.0 + 1) key (λ j from to. sym (lookup-between_inside m 0 key j (omega arith) to) ∙ at.nothing j (omega (arith, from))))

  pub none_before : (key start : ℕ) → ◌≡◌ {A = Option (ℕ × ℕ)} (last_of (between m 0 key)) None → between m start key ≡ []
  none_before key start is =
      let none = no_last (between m 0 key) is in
      none-between m start key (λ j from to. none_between 0 key m j (omega arith) to none)

  pub below_start : (key start next : ℕ) → next < start → between m (next + 1) key ≡ [] → between m start key ≡ []
  below_start key start next less none = none-between m start key (λ j from to. none_between (next + 1) key m j (omega (arith, from, less)) to none)
