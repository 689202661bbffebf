-- The bytes of a key, and which of them another word has.
use Rattle.std.proofs.Common.{◌≡◌, ◌≢◌, ℕ, zero, suc, ◌+◌, ◌-◌, ◌*◌, ◌/◌, ◌%◌, ◌^◌, ◌<◌, ◌≤◌, Bool, false, not, cond, nat_eq, IsTrue, List, length, get_or, eqb, map, w8, w64, refl, sym, ap, ◌∙◌, subst, arith, inl, inr}
use Rattle.std.specs.Int.{bit_at, to_be_bytes, to_le_bytes, swap_bytes}
use Rattle.std.specs.Int.RustNames.{bit_and}
use Rattle.std.specs.Int.Count.{count_trailing_zeros}
use Rattle.std.specs.Simd.Lanes.{mask_l, zip2, top}
use Rattle.std.proofs.Math.Nat.{div-one, div-div-eq-div-mul, mul-suc}
use Rattle.std.proofs.lemmas.Nat.{pow-add, and_le_l}
use Rattle.std.proofs.lemmas.List.{get_or-take}
use Rattle.node_base.proofs.WordLaws.{shifts_alike}
use Rattle.std.proofs.lemmas.Nat.Bits.{bit_at-zero, bit_at-trailing_zeros}
use Rattle.std.proofs.lemmas.Simd.{tops_compared, mask_l-mod, bit_mask_l, get_or-zip2}
use Rattle.std.proofs.lemmas.Bool.{eq-eqb, ne_eqb, cases_eq}
use Rattle.live_layout.specs.Words.{lane}
use Rattle.live_layout.proofs.LaneLaws.{mask_is, bit_inside, set_inside}
use Rattle.live_nodes.specs.Levels.{up, digit}

up_is : (h k : ℕ) → up h k ≡ k / 2 ^ (8 * h)
up_is zero k = sym (div-one k)
up_is (suc h) k = ap (λ n. n / 256) (up_is h k) ∙ (div-div-eq-div-mul k (2 ^ (8 * h)) 256 ∙ ap (λ n. k / n) (sym (pow-add 2 (8 * h) 8) ∙ ap (λ n. 2 ^ n) (sym (mul-suc 8 h))))

pub digit_is : (h k : ℕ) → 1 ≤ h → k / 2 ^ (8 * (h - 1)) % 256 ≡ digit h k
digit_is zero k l = absurd (omega (arith, l))
digit_is (suc h) k l = let e : suc h - 1 ≡ h = omega arith in ap (λ n. k / 2 ^ (8 * n) % 256) e ∙ ap (λ n. n % 256) (sym (up_is h k))

-- a byte of a key that was shifted by one
moved : (k h : ℕ) → k / 256 / 2 ^ (8 * h) % 256 ≡ digit (suc (suc h)) k
moved k h = ap (λ n. n % 256) (div-div-eq-div-mul k 256 (2 ^ (8 * h)) ∙ ap (λ n. k / n) (sym (pow-add 2 8 (8 * h)) ∙ ap (λ n. 2 ^ n) (let e : 8 + 8 * h ≡ 8 * suc h = omega arith in e))) ∙ ap (λ n. n % 256) (sym (up_is (suc h) k))

-- the key's bytes but the lowest, behind one that is 0
pub seven : (key i : ℕ) → 1 ≤ i → i < 8 → get_or (to_be_bytes w64 (key / 256)) i 0 ≡ digit (9 - i) key
seven key zero l h = absurd (omega (arith, l))
seven key (suc zero) l h = moved key 6
seven key (suc (suc zero)) l h = moved key 5
seven key (suc (suc (suc zero))) l h = moved key 4
seven key (suc (suc (suc (suc zero)))) l h = moved key 3
seven key (suc (suc (suc (suc (suc zero))))) l h = moved key 2
seven key (suc (suc (suc (suc (suc (suc zero)))))) l h = moved key 1
seven key (suc (suc (suc (suc (suc (suc (suc zero))))))) l h = refl
seven key (suc (suc (suc (suc (suc (suc (suc (suc i)))))))) l h = absurd (omega (arith, h))

le_small : (n i : ℕ) → get_or (to_le_bytes w64 n) i 0 < 256
le_small n zero = omega arith
le_small n (suc zero) = omega arith
le_small n (suc (suc zero)) = omega arith
le_small n (suc (suc (suc zero))) = omega arith
le_small n (suc (suc (suc (suc zero)))) = omega arith
le_small n (suc (suc (suc (suc (suc zero))))) = omega arith
le_small n (suc (suc (suc (suc (suc (suc zero)))))) = omega arith
le_small n (suc (suc (suc (suc (suc (suc (suc zero))))))) = omega arith
le_small n (suc (suc (suc (suc (suc (suc (suc (suc i)))))))) = omega arith

-- the bytes of a head behind its lowest one
behind : (head p : ℕ) → head / (256 * p) % 256 ≡ head / 256 / p % 256
behind head p = ap (λ n. n % 256) (sym (div-div-eq-div-mul head 256 p))

lane_is : (head i : ℕ) → i < 7 → lane head (i + 1) ≡ get_or (to_le_bytes w64 (head / 256)) i 0
unfolding lane
lane_is head zero l = refl
lane_is head (suc zero) l = behind head 256
lane_is head (suc (suc zero)) l = behind head 65536
lane_is head (suc (suc (suc zero))) l = behind head 16777216
lane_is head (suc (suc (suc (suc zero)))) l = behind head 4294967296
lane_is head (suc (suc (suc (suc (suc zero))))) l = behind head 1099511627776
lane_is head (suc (suc (suc (suc (suc (suc zero)))))) l = behind head 281474976710656
lane_is head (suc (suc (suc (suc (suc (suc (suc i))))))) l = absurd (omega (arith, l))

-- the bytes of a key, the highest first
byte_is : (key i : ℕ) → i < 8 → get_or (to_be_bytes w64 key) i 0 ≡ digit (8 - i) key
byte_is key zero l = digit_is 8 key (omega arith)
byte_is key (suc zero) l = digit_is 7 key (omega arith)
byte_is key (suc (suc zero)) l = digit_is 6 key (omega arith)
byte_is key (suc (suc (suc zero))) l = digit_is 5 key (omega arith)
byte_is key (suc (suc (suc (suc zero)))) l = digit_is 4 key (omega arith)
byte_is key (suc (suc (suc (suc (suc zero))))) l = digit_is 3 key (omega arith)
byte_is key (suc (suc (suc (suc (suc (suc zero)))))) l = digit_is 2 key (omega arith)
byte_is key (suc (suc (suc (suc (suc (suc (suc zero))))))) l = refl
byte_is key (suc (suc (suc (suc (suc (suc (suc (suc i)))))))) l = absurd (omega (arith, l))

-- a key that has the highest bytes of a head's prefix
pub begins_by : (head key deep word : ℕ) → key < 2 ^ 64 → deep ≤ 7 → word ≡ swap_bytes w64 (head / 256)
    → IsTrue (nat_eq (word / 256 / 2 ^ (56 - 8 * deep)) (key / 256 / 2 ^ (56 - 8 * deep))) → (i : ℕ) → i < deep → lane head (i + 1) ≡ digit (8 - i) key
begins_by head key deep word fits short is alike i l =
    let bs = to_le_bytes w64 (head / 256) in
    let ks = to_be_bytes w64 key in
    let same = (shifts_alike deep key word bs refl (le_small (head / 256)) short fits is).0 alike in
    lane_is head i (omega (arith, l, short)) ∙ (sym (get_or-take deep bs i 0 (omega (arith, l))) ∙ (ap (λ xs. get_or xs i 0) same ∙ (get_or-take deep ks i 0 (omega (arith, l)) ∙ byte_is key i (omega (arith, l, short)))))

abbrev pub differs : ℕ → ℕ → Bool
differs a b = not (eqb a b)

-- the bit of a byte in the mask of those that differ
module _ (xs ys : List ℕ) (long : length (zip2 differs xs ys) ≤ 64) (k : ℕ) (inside : k < length xs) (inside' : k < length ys) where
  abbrev mask : ℕ
  mask = mask_l (map (top 7) (zip2 (λ (a b : ℕ). cond (differs a b) 255 0) xs ys)) % 18446744073709551616

  lane_bit : bit_at mask k ≡ cond (differs (get_or xs k 0) (get_or ys k 0)) 1 0
  lane_bit = ap (λ n. bit_at n k) (ap (λ ms. mask_l ms % 18446744073709551616) (tops_compared w8 differs xs ys) ∙ mask_l-mod (zip2 differs xs ys) 64 long)
      ∙ (bit_mask_l (zip2 differs xs ys) k ∙ ap (λ (b : Bool). cond b 1 0) (get_or-zip2 differs xs ys k 0 0 false inside inside'))

  pub lane_same : get_or xs k 0 ≡ get_or ys k 0 → bit_at mask k ≡ 0
  lane_same e = lane_bit ∙ ap (λ (b : Bool). cond (not b) 1 0) (eq-eqb (get_or xs k 0) (get_or ys k 0) e)

  pub lane_differs : get_or xs k 0 ≢ get_or ys k 0 → bit_at mask k ≡ 1
  lane_differs ne = lane_bit ∙ ap (λ (b : Bool). cond (not b) 1 0) (ne_eqb (get_or xs k 0) (get_or ys k 0) ne)

not_zero : (z : ℕ) → z ≡ 0 → z ≡ 1 → ⊥
not_zero z a b = omega (arith, a, b)

-- where a key parts from a head: at the lowest bit of those that its prefix has
module _ (head key deep m : ℕ) (fits : m < 18446744073709551616) (few : deep ≤ 7)
    (same : (k : ℕ) → 1 ≤ k → k < 8 → lane head k ≡ digit (9 - k) key → bit_at m k ≡ 0)
    (other : (k : ℕ) → 1 ≤ k → k < 8 → lane head k ≢ digit (9 - k) key → bit_at m k ≡ 1) where
  abbrev found : ℕ
  found = bit_and m ((1 * 2 ^ (deep + 1) % 18446744073709551616) - 2)

  its_mask : (1 * 2 ^ (deep + 1) % 18446744073709551616) - 2 ≡ 2 ^ (deep + 1) - 2 ^ 1
  its_mask = mask_is 1 (deep + 1) (omega arith) (omega (arith, few))

  bit_found : (k : ℕ) → 1 ≤ k → k ≤ deep → bit_at m k ≡ bit_at found k
  bit_found k l h = sym (bit_inside m 1 (deep + 1) k l (omega (arith, h))) ∙ ap (λ x. bit_at (bit_and m x) k) (sym its_mask)

  agrees : (i : ℕ) → i < deep → bit_at found (i + 1) ≡ 0 → lane head (i + 1) ≡ digit (8 - i) key
  agrees i h none =
      let back : 9 - (i + 1) ≡ 8 - i = omega arith in
      subst (λ (z : ℕ). lane head (i + 1) ≡ digit z key) back
      (elim (cases_eq (lane head (i + 1)) (digit (9 - (i + 1)) key)) [
        | inl e ↦ e
        | inr ne ↦ absurd (not_zero (bit_at m (i + 1)) (bit_found (i + 1) (omega arith) (omega (arith, h)) ∙ none) (other (i + 1) (omega arith) (omega (arith, h, few)) ne))
      ])

  pub all_alike : found ≡ 0 → (i : ℕ) → i < deep → lane head (i + 1) ≡ digit (8 - i) key
  all_alike none i h = agrees i h (ap (λ x. bit_at x (i + 1)) none ∙ bit_at-zero (i + 1))

  module _ (some : found ≢ 0) where
    abbrev first : ℕ
    first = count_trailing_zeros 64 found

    lowest : (first < 64) × (bit_at found first ≡ 1) × ((i : ℕ) → i < first → bit_at found i ≡ 0)
    lowest = bit_at-trailing_zeros w64 found (omega (arith, some)) (omega (arith, fits, and_le_l m ((1 * 2 ^ (deep + 1) % 18446744073709551616) - 2)))

    pub parts : (1 ≤ first) × (first < deep + 1) × (bit_at m first ≡ 1)
    parts = set_inside m 1 (deep + 1) first (ap (λ x. bit_at (bit_and m x) first) (sym its_mask) ∙ lowest.1)

    pub parts_there : lane head first ≢ digit (9 - first) key
    parts_there e = let h = parts.1 in not_zero (bit_at m first) (same first parts.0 (omega (arith, h, few)) e) parts.2

    pub alike_before : (i : ℕ) → i + 1 < first → lane head (i + 1) ≡ digit (8 - i) key
    alike_before i h = let l = parts.1 in agrees i (omega (arith, h, l)) (lowest.2 (i + 1) h)
