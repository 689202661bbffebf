-- Masks of lanes.
use Rattle.std.proofs.Common.{◌≡◌, ◌≢◌, ℕ, ◌-◌, ◌*◌, ◌^◌, ◌%◌, ◌<◌, ◌≤◌, Bool, false, cond, List, length, get_or, eqb, map, refl, ap, sym, ◌∙◌, arith, inl, inr, min}
use Rattle.std.specs.Int.{bit_at}
use Rattle.std.specs.Int.RustNames.{bit_and}
use Rattle.std.specs.Simd.Lanes.{mask_l}
use Rattle.std.proofs.lemmas.Simd.{bit_mask_l}
use Rattle.std.proofs.lemmas.List.{get_or-map}
use Rattle.std.proofs.lemmas.Nat.Bits.{bit_at_and, bit_at_mask_inside, bit_at_mask_below, bit_at_mask_above, bit_at-lt}
use Rattle.std.proofs.lemmas.Bool.{cases_lt, eq-eqb, ne_eqb}
use Rattle.std.proofs.Math.Nat.{mod-eq_of_lt, pow-le-pow_right}

-- the bit of a byte in the mask of those that are equal to one
lane_bit : (bytes : List ℕ) (byte k : ℕ) → k < length bytes → bit_at (mask_l (map (λ x. eqb x byte) bytes)) k ≡ cond (eqb (get_or bytes k 0) byte) 1 0
lane_bit bytes byte k l = bit_mask_l (map (λ x. eqb x byte) bytes) k ∙ ap (λ (b : Bool). cond b 1 0) (get_or-map (λ x. eqb x byte) bytes k 0 false l)

pub lane_equal : (bytes : List ℕ) (byte k : ℕ) → k < length bytes → get_or bytes k 0 ≡ byte → bit_at (mask_l (map (λ x. eqb x byte) bytes)) k ≡ 1
lane_equal bytes byte k l e = lane_bit bytes byte k l ∙ ap (λ (b : Bool). cond b 1 0) (eq-eqb (get_or bytes k 0) byte e)

pub lane_other : (bytes : List ℕ) (byte k : ℕ) → k < length bytes → get_or bytes k 0 ≢ byte → bit_at (mask_l (map (λ x. eqb x byte) bytes)) k ≡ 0
lane_other bytes byte k l e = lane_bit bytes byte k l ∙ ap (λ (b : Bool). cond b 1 0) (ne_eqb (get_or bytes k 0) byte e)

power : (k : ℕ) → k ≤ 8 → 1 * 2 ^ k % 18446744073709551616 ≡ 2 ^ k
power k l = let b : 2 ^ k ≤ 2 ^ 8 = pow-le-pow_right {n = 2} (omega arith) l in mod-eq_of_lt (omega (arith, b)) ∙ omega arith

pub powers_rise : (from to : ℕ) → from ≤ to → to ≤ 8 → 1 * 2 ^ from % 18446744073709551616 ≤ 1 * 2 ^ to % 18446744073709551616
powers_rise from to l h = let f = power from (omega arith) in let t = power to h in let b : 2 ^ from ≤ 2 ^ to = pow-le-pow_right {n = 2} (omega arith) l in rw (f, t) b

-- the mask of the lanes from one on and below another
pub mask_is : (from to : ℕ) → from ≤ to → to ≤ 8 → (1 * 2 ^ to % 18446744073709551616) - (1 * 2 ^ from % 18446744073709551616) ≡ 2 ^ to - 2 ^ from
mask_is from to l h = let f = power from (omega arith) in let t = power to h in rw (f, t) refl

least_with_one : (a b : ℕ) → a < 2 → b ≡ 1 → min a b ≡ a
least_with_one a b l e = omega arith

both_one : (a b : ℕ) → a < 2 → b < 2 → min a b ≡ 1 → (a ≡ 1) × (b ≡ 1)
both_one a b l m e = (omega arith, omega arith)

zero_one : (a : ℕ) → a ≡ 0 → a ≡ 1 → ⊥
zero_one a z o = omega arith

pub bit_inside : (m from to k : ℕ) → from ≤ k → k < to → bit_at (bit_and m (2 ^ to - 2 ^ from)) k ≡ bit_at m k
bit_inside m from to k l h = bit_at_and m (2 ^ to - 2 ^ from) k ∙ least_with_one (bit_at m k) (bit_at (2 ^ to - 2 ^ from) k) (bit_at-lt m k) (bit_at_mask_inside from to k l h)

pub set_inside : (m from to k : ℕ) → bit_at (bit_and m (2 ^ to - 2 ^ from)) k ≡ 1 → (from ≤ k) × (k < to) × (bit_at m k ≡ 1)
set_inside m from to k one =
    let w = bit_at (2 ^ to - 2 ^ from) k in
    let b = both_one (bit_at m k) w (bit_at-lt m k) (bit_at-lt (2 ^ to - 2 ^ from) k) (sym (bit_at_and m (2 ^ to - 2 ^ from) k) ∙ one) in (
      elim (cases_lt k from) [ inl below ↦ absurd (zero_one w (bit_at_mask_below from to k below) b.1) | inr l ↦ l ],
      elim (cases_lt k to) [ inl l ↦ l | inr above ↦ absurd (zero_one w (bit_at_mask_above from to k above) b.1) ],
      b.0,
    )
