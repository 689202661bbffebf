-- One bit a byte, and the places of the bytes whose bit is set.
use Rattle.std.proofs.Common.{◌≡◌, ◌≢◌, ℕ, zero, suc, ◌+◌, ◌-◌, ◌*◌, ◌/◌, ◌%◌, ◌^◌, ◌<◌, ◌≤◌, bit_and, List, length, get_or, set, replicate, refl, ap, sym, subst, ◌∙◌, arith, inl, inr, w64, pow-suc}
use Rattle.std.specs.Int.{bit_at}
use Rattle.std.specs.Int.Count.{count_trailing_zeros}
use Rattle.std.proofs.lemmas.Nat.{pow_pos}
use Rattle.std.proofs.lemmas.Bool.{cases_eq, cases_lt}
use Rattle.std.proofs.lemmas.List.{get_or-set_same, get_or-set_other, get_or_past}
use Rattle.std.proofs.lemmas.Nat.Bits.{bit_at-zero, bit_at-lt, bit_at_and, bit_at_ones, bit_at_ones_above, ones_shr, bit_at_above, bit_at_cat_high, bit_at-trailing_zeros}
use Rattle.std.proofs.Math.Nat.{div-add-mod, div-le_self, mod-lt, mul_comm}
use Rattle.node_base.specs.inner.Marked.{mark_at}

-- a word that is written at the place of a bit
pub marked-here : (ws : List ℕ) (b w n : ℕ) → b / 64 < length ws → bit_at w (b % 64) ≡ n → mark_at (set ws (b / 64) w) b ≡ n
marked-here ws b w n l e = ap (λ x. bit_at x (b % 64)) (get_or-set_same ws (b / 64) w 0 l) ∙ e

pub marked-other : (ws : List ℕ) (b i w : ℕ) → b / 64 < length ws → ((j : ℕ) → j < 64 → j ≢ b % 64 → bit_at w j ≡ bit_at (get_or ws (b / 64) 0) j) → i ≢ b → mark_at (set ws (b / 64) w) i ≡ mark_at ws i
marked-other ws b i w l kept other =
    elim (cases_eq (i / 64) (b / 64)) [
      | inl same ↦
          ap (λ q. bit_at (get_or (set ws (b / 64) w) q 0) (i % 64)) same
          ∙ ap (λ x. bit_at x (i % 64)) (get_or-set_same ws (b / 64) w 0 l)
          ∙ kept (i % 64) (omega arith) (omega (arith, same, other))
          ∙ ap (λ q. bit_at (get_or ws q 0) (i % 64)) (sym same)
      | inr differ ↦ ap (λ x. bit_at x (i % 64)) (get_or-set_other ws (b / 64) (i / 64) w 0 differ)
    ]

-- a shift leaves the bits from its place on
bit_at-shr : (n k i : ℕ) → 0 < 2 ^ k → bit_at (n / 2 ^ k) i ≡ bit_at n (k + i)
bit_at-shr n k i some =
    let parts : n / 2 ^ k * 2 ^ k + n % 2 ^ k ≡ n = ap (λ x. x + n % 2 ^ k) (mul_comm (n / 2 ^ k) (2 ^ k)) ∙ div-add-mod n (2 ^ k) in
    let high = bit_at_cat_high (n / 2 ^ k) k (n % 2 ^ k) (k + i) (mod-lt n some) (omega arith) in
    let back : k + i - k ≡ i = omega arith in
    sym (ap (bit_at (n / 2 ^ k)) back) ∙ sym high ∙ ap (λ x. bit_at x (k + i)) parts

module _ (ws : List ℕ) (at word : ℕ) (is : word ≡ get_or ws (at / 64) 0 / 2 ^ (at % 64)) where
  -- the bits of a shifted word, up to the word's end
  mark-shifted : (i : ℕ) → at % 64 + i < 64 → mark_at ws (at + i) ≡ bit_at word i
  mark-shifted i l =
      let q : (at + i) / 64 ≡ at / 64 = omega (arith, l) in
      let r : (at + i) % 64 ≡ at % 64 + i = omega (arith, l) in
      ap (λ x. bit_at (get_or ws x 0) ((at + i) % 64)) q
      ∙ ap (bit_at (get_or ws (at / 64) 0)) r
      ∙ sym (bit_at-shr (get_or ws (at / 64) 0) (at % 64) i (pow_pos (at % 64)))
      ∙ ap (λ x. bit_at x i) (sym is)

  -- no bit is set in what is left of an empty word
  pub none_marked : word ≡ 0 → (i : ℕ) → at ≤ i → i < (at / 64 + 1) * 64 → mark_at ws i ≡ 0
  none_marked zero' i l m =
      let e : i ≡ at + (i - at) = omega arith in
      ap (mark_at ws) e ∙ mark-shifted (i - at) (omega arith) ∙ ap (λ x. bit_at x (i - at)) zero' ∙ bit_at-zero (i - at)

  -- the lowest bit that is set
  pub first_marked : word ≢ 0 → get_or ws (at / 64) 0 < 2 ^ 64 → (at % 64 + count_trailing_zeros 64 word < 64) × (mark_at ws (at + count_trailing_zeros 64 word) ≡ 1) × ((i : ℕ) → at ≤ i → i < at + count_trailing_zeros 64 word → mark_at ws i ≡ 0)
  first_marked some fits =
      let less : word ≤ get_or ws (at / 64) 0 = subst (λ x. x ≤ get_or ws (at / 64) 0) (sym is) (div-le_self (get_or ws (at / 64) 0) (2 ^ (at % 64))) in
      let h = bit_at-trailing_zeros w64 word (omega (arith, some)) (omega (arith, less, fits)) in
      let t = count_trailing_zeros 64 word in
      let inside : at % 64 + count_trailing_zeros 64 word < 64 =
      elim (cases_lt (at % 64 + count_trailing_zeros 64 word) 64) [
        | inl below ↦ below
        | inr above ↦
            absurd (let z : bit_at word (count_trailing_zeros 64 word) ≡ 0 = ap (λ x. bit_at x (count_trailing_zeros 64 word)) is
            ∙ bit_at-shr (get_or ws (at / 64) 0) (at % 64) (count_trailing_zeros 64 word) (pow_pos (at % 64))
            ∙ bit_at_above (get_or ws (at / 64) 0) 64 (at % 64 + count_trailing_zeros 64 word) fits above in
            let o = h.1 in omega (arith, z, o))
      ]
      in (
        inside,
        mark-shifted (count_trailing_zeros 64 word) inside ∙ h.1,
        λ i l m. (let e : i ≡ at + (i - at) = omega arith in
            ap (mark_at ws) e ∙ mark-shifted (i - at) (omega (arith, inside)) ∙ h.2 (i - at) (omega arith)),
      )

-- the highest bit of a number
pub highest_bit : (n k : ℕ) → 2 ^ k ≤ n → n < 2 * 2 ^ k → (bit_at n k ≡ 1) × ((i : ℕ) → k < i → bit_at n i ≡ 0)
highest_bit n k from to =
    let one : n / 2 ^ k ≡ 1 = let parts = div-add-mod n (2 ^ k) in let rest = mod-lt n {m = 2 ^ k} (pow_pos k) in quotient (2 ^ k) (n / 2 ^ k) (n % 2 ^ k) n (omega (arith, parts)) rest from to in
    (ap (λ q. q % 2) one, λ i more. bit_at_above n (suc k) i (omega (arith, pow-suc 2 k, to)) (omega arith))
  where
    quotient : (p q r n : ℕ) → p * q + r ≡ n → r < p → p ≤ n → n < 2 * p → q ≡ 1
    quotient p zero r n is less from to = absurd (omega (arith, is, less, from))
    quotient p (suc zero) r n is less from to = refl
    quotient p (suc (suc q)) r n is less from to = absurd (omega (arith, is, less, from, to))

-- the bits of a word below those of a number
module _ (ws : List ℕ) (at first word : ℕ) (begins : first ≡ (at - 1) / 64 * 64) (some : 0 < at) (is : word ≡ bit_and (get_or ws (first / 64) 0) ((2 ^ 64 - 1) / 2 ^ (first + 64 - at))) where
  mark-masked : (i : ℕ) → first ≤ i → i < at → mark_at ws i ≡ bit_at word (i - first)
  mark-masked i from to =
      let q : i / 64 ≡ first / 64 = omega (arith, begins) in
      let r : i % 64 ≡ i - first = omega (arith, begins) in
      let ones : bit_at ((2 ^ 64 - 1) / 2 ^ (first + 64 - at)) (i - first) ≡ 1 =
      ap (λ x. bit_at x (i - first)) (ones_shr 64 (first + 64 - at) (omega (arith, begins))) ∙ bit_at_ones (64 - (first + 64 - at)) (i - first) (omega (arith, begins)) in
      let small = bit_at-lt (get_or ws (first / 64) 0) (i - first) in
      let both = bit_at_and (get_or ws (first / 64) 0) ((2 ^ 64 - 1) / 2 ^ (first + 64 - at)) (i - first) in
      ap (λ x. bit_at (get_or ws x 0) (i % 64)) q
      ∙ ap (bit_at (get_or ws (first / 64) 0)) r
      ∙ omega (arith, small, ones, both)
      ∙ ap (λ x. bit_at x (i - first)) (sym is)

  -- no bit is set in what is left of an empty word
  pub none_marked_below : word ≡ 0 → (i : ℕ) → first ≤ i → i < at → mark_at ws i ≡ 0
  none_marked_below zero' i from to = mark-masked i from to ∙ ap (λ x. bit_at x (i - first)) zero' ∙ bit_at-zero (i - first)

  -- the highest bit that is set
  pub last_marked_is : (top : ℕ) → 2 ^ top ≤ word → word < 2 * 2 ^ top → (first + top < at) × (mark_at ws (first + top) ≡ 1) × ((i : ℕ) → first + top < i → i < at → mark_at ws i ≡ 0)
  last_marked_is top from to =
      let h = highest_bit word top from to in
      let inside : first + top < at =
      elim (cases_lt (first + top) at) [
        | inl below ↦ below
        | inr above ↦
            absurd (let none : bit_at ((2 ^ 64 - 1) / 2 ^ (first + 64 - at)) top ≡ 0 =
            ap (λ x. bit_at x top) (ones_shr 64 (first + 64 - at) (omega (arith, begins))) ∙ bit_at_ones_above (64 - (first + 64 - at)) top (omega (arith, begins, above)) in
            let both = bit_at_and (get_or ws (first / 64) 0) ((2 ^ 64 - 1) / 2 ^ (first + 64 - at)) top in
            let zero' : bit_at word top ≡ 0 = ap (λ x. bit_at x top) is ∙ omega (arith, both, none) in
            omega (arith, h.0, zero'))
      ]
      in
      let back : first + top - first ≡ top = omega arith in (
        inside,
        mark-masked (first + top) (omega arith) inside ∙ ap (bit_at word) back ∙ h.0,
        λ i more less. mark-masked i (omega arith) less ∙ h.1 (i - first) (omega arith),
      )

-- the bits past the last word aren't set
pub mark-beyond : (ws : List ℕ) → length ws ≡ 4 → (i : ℕ) → 256 ≤ i → mark_at ws i ≡ 0
mark-beyond ws four i l = ap (λ x. bit_at x (i % 64)) (get_or_past ws (i / 64) 0 (omega (arith, four, l))) ∙ bit_at-zero (i % 64)

-- no bit is set where all words are 0
pub none-set : (n b : ℕ) → mark_at (replicate n 0) b ≡ 0
none-set n b = ap (λ x. bit_at x (b % 64)) (get_or-zeros n (b / 64)) ∙ bit_at-zero (b % 64)
  where
    get_or-zeros : (n i : ℕ) → get_or {A = ℕ} (replicate n 0) i 0 ≡ 0
    get_or-zeros zero i = refl
    get_or-zeros (suc n) zero = refl
    get_or-zeros (suc n) (suc i) = get_or-zeros n i
