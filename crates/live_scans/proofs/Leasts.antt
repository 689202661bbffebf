-- The least of some places, step by step.
use Rattle.std.proofs.Common.{◌≡◌, ◌⊎◌, ℕ, ◌<◌, ◌≤◌, min, Option, Some, None, sym, ap, ◌∙◌, inl, inr, arith}
use Rattle.std.specs.Int.{bit_at}
use Rattle.std.specs.Int.RustNames.{bit_and}
use Rattle.std.proofs.lemmas.Nat.Bits.{bit_at_and, bit_at-lt, bit_at-zero}
use Rattle.std.proofs.lemmas.Bool.{cases_lt}
use Rattle.live_scans.specs.inner.Afters.{IsLeast}

-- the best so far is one of them
abbrev pub IsGood : (ℕ → ℕ) → ℕ → ℕ → ℕ → Option (ℕ × ℕ) → Type 0
IsGood f from to least None = Unit {0}
IsGood f from to least (Some e) = (from ≤ e.1) × (e.1 < to) × (f e.1 ≡ e.0) × (least ≤ e.0)

-- it is better than that, or not
abbrev pub IsBeaten : Option (ℕ × ℕ) → ℕ → Type 0
IsBeaten None x = ⊥
IsBeaten (Some e) x = e.0 ≤ x

abbrev pub IsUnbeaten : Option (ℕ × ℕ) → ℕ → Type 0
IsUnbeaten None x = Unit {0}
IsUnbeaten (Some e) x = x < e.0

abbrev pub limit_of : Option (ℕ × ℕ) → ℕ
limit_of None = 256
limit_of (Some e) = e.0

-- The places that are left are those in the mask.
pub record IsLeft (f : ℕ → ℕ) (from to least mask : ℕ) (best : Option (ℕ × ℕ)) : Type 0 where
  pub good : IsGood f from to least best
  pub set : (k : ℕ) → bit_at mask k ≡ 1 → (from ≤ k) × (k < to) × (least ≤ f k) × IsUnbeaten best (f k)
  pub left : (k : ℕ) → from ≤ k → k < to → least ≤ f k → (bit_at mask k ≡ 1) ⊎ IsBeaten best (f k)

both_one : (a b : ℕ) → a < 2 → b < 2 → min a b ≡ 1 → (a ≡ 1) × (b ≡ 1)
both_one a b l m e = (omega arith, omega arith)

one_one : (a b : ℕ) → a ≡ 1 → b ≡ 1 → min a b ≡ 1
one_one a b l m = omega arith

pub zero_one : (a : ℕ) → a ≡ 0 → a ≡ 1 → ⊥
zero_one a z o = omega arith

module _ (f : ℕ → ℕ) (from to least mask : ℕ) (best : Option (ℕ × ℕ)) (h : IsLeft f from to least mask best) (short : to ≤ 8) where
  -- one more is the best
  module _ (place byte less : ℕ) (here : bit_at mask place ≡ 1) (is : byte ≡ f place) (low : (k : ℕ) → k < 8 → f k < byte → bit_at less k ≡ 1) (high : (k : ℕ) → k < 8 → byte ≤ f k → bit_at less k ≡ 0) where
    below_limit : (o : Option (ℕ × ℕ)) → IsUnbeaten o (f place) → byte < 256 → byte < limit_of o
    below_limit None u l = l
    below_limit (Some e) u l = omega (arith, u, is)

    pub smaller : byte < 256 → byte < limit_of best
    smaller l = below_limit best (h.set place here).3 l

    still_beaten : (o : Option (ℕ × ℕ)) (x : ℕ) → IsUnbeaten o (f place) → IsBeaten o x → byte ≤ x
    still_beaten None x u b = absurd b
    still_beaten (Some e) x u b = omega (arith, u, b, is)

    pub one_more : IsLeft f from to least (bit_and mask less) (Some (byte, place))
    one_more = let s = h.set place here in record {
      good = (s.0, s.1, sym is, (let l = s.2 in omega (arith, l, is)));
      set = λ k e.
          let b = both_one (bit_at mask k) (bit_at less k) (bit_at-lt mask k) (bit_at-lt less k) (sym (bit_at_and mask less k) ∙ e) in
          let t = h.set k b.0 in
          let under = t.1 in
          (t.0, t.1, t.2, elim (cases_lt (f k) byte) [ inl l ↦ l | inr ge ↦ absurd (zero_one (bit_at less k) (high k (omega (arith, under, short)) ge) b.1) ]);
      left = λ k a b c.
          elim (cases_lt (f k) byte) [
            | inl l ↦ elim (h.left k a b c) [
              | inl set ↦ inl (bit_at_and mask less k ∙ one_one (bit_at mask k) (bit_at less k) set (low k (omega (arith, b, short)) l))
              | inr beaten ↦ absurd (let x = still_beaten best (f k) s.3 beaten in omega (arith, x, l))
            ]
            | inr ge ↦ inr ge
          ];
    }

  -- none is left
  module _ (none : mask ≡ 0) where
    no_bit : (k : ℕ) → bit_at mask k ≡ 1 → ⊥
    no_bit k e = zero_one (bit_at mask k) (ap (λ x. bit_at x k) none ∙ bit_at-zero k) e

    beaten : (k : ℕ) → from ≤ k → k < to → least ≤ f k → IsBeaten best (f k)
    beaten k a b c = elim (h.left k a b c) [ inl set ↦ absurd (no_bit k set) | inr x ↦ x ]

    all : (o : Option (ℕ × ℕ)) → IsGood f from to least o → ((k : ℕ) → from ≤ k → k < to → least ≤ f k → IsBeaten o (f k)) → IsLeast f from to least o
    all None g b = λ k l m. elim (cases_lt (f k) least) [ inl less ↦ less | inr ge ↦ absurd (b k l m ge) ]
    all (Some e) g b = (g.0, g.1, g.2, g.3, b)

    pub none_left : IsLeast f from to least best
    none_left = all best h.good beaten
