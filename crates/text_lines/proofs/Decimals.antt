-- Which words are a number's: those of numbers without a bound are told apart from those of 64 bits.
use Rattle.std.proofs.Common.{◌≡◌, ℕ, zero, suc, ◌+◌, ◌/◌, ◌%◌, ◌<◌, ◌≤◌, ◌^◌, Bool, true, false, cond, List, [], ◌∷◌, length, get_or, decimal, sym, ap, ◌∙◌, inl, inr, arith, ◌==◌}
use Rattle.std.specs.Fmt.{digits, digits_onto, digit_glyph}
use Rattle.std.specs.Str.Parse.{digits_value}
use Rattle.std.proofs.lemmas.Bool.{cases_lt, lt-ltb, ne_eqb}
use Rattle.std.proofs.lemmas.Fmt.{decimal_is_IsNumeral, decimal_is_IsNumeral_wide, length-decimal-le}

-- the first byte is a digit
abbrev StartsWithDigit : List ℕ → Type 0
StartsWithDigit word = (48 ≤ get_or word 0 0) × (get_or word 0 0 ≤ 57)

either_digit : (b : Bool) (xs ys : List ℕ) → StartsWithDigit xs → StartsWithDigit ys → StartsWithDigit (cond b xs ys)
either_digit true xs ys p q = p
either_digit false xs ys p q = q

last_glyph : (n : ℕ) → digit_glyph false (n % 10) ≡ 48 + n % 10
last_glyph n = ap (λ (b : Bool). cond b (48 + n % 10) (87 + n % 10)) (lt-ltb (n % 10) 10 (omega arith))

digits_start : (k n x : ℕ) (acc : List ℕ) → 48 ≤ x → x ≤ 57 → StartsWithDigit (digits_onto k 10 false n (x ∷ acc))
digits_start zero n x acc low high = (low, high)
digits_start (suc k) n x acc low high =
    let d = digit_glyph false (n % 10) in
    let is = last_glyph n in
    either_digit (n / 10 == 0) (d ∷ x ∷ acc) _ (omega (arith, is), omega (arith, is)) (digits_start k (n / 10) d (x ∷ acc) (omega (arith, is)) (omega (arith, is)))

decimal_start : (n : ℕ) → StartsWithDigit (decimal n)
unfolding digits
decimal_start n =
    let d = digit_glyph false (n % 10) in
    let is = last_glyph n in
    either_digit (n / 10 == 0) (d ∷ []) _ (omega (arith, is), omega (arith, is)) (digits_start 63 (n / 10) d [] (omega (arith, is)) (omega (arith, is)))

-- a word that starts with a letter is no number's
pub no_number : (word : List ℕ) → 57 < get_or word 0 0 → (n : ℕ) → word ≡ decimal n → n < 2 ^ 64
no_number word letter n e = absurd (omega (arith, letter, (decimal_start n).1, ap (λ (w : List ℕ). get_or w 0 0) e))

-- a number of too many digits has 64 of them
some_power : (k : ℕ) → 0 < 10 ^ k
some_power zero = omega arith
some_power (suc k) = omega (arith, some_power k)

digits_long : (k n : ℕ) (acc : List ℕ) → 10 ^ k ≤ n → length (digits_onto k 10 false n acc) ≡ k + length acc
digits_long zero n acc large = omega arith
digits_long (suc k) n acc large =
    let d = digit_glyph false (n % 10) in
    let goes_on : (n / 10 == 0) ≡ false = ne_eqb (n / 10) 0 (λ e. omega (arith, some_power k, e, large)) in
    ap (λ (b : Bool). length (cond b (d ∷ acc) (digits_onto k 10 false (n / 10) (d ∷ acc)))) goes_on
    ∙ (omega (arith, digits_long k (n / 10) (d ∷ acc) (omega (arith, large))))

decimal_long : (n : ℕ) → 10 ^ 64 ≤ n → length (decimal n) ≡ 64
unfolding digits
decimal_long n large = omega (arith, digits_long 64 n [] large)

-- the number of a word is one
pub one_decimal : (k : ℕ) → k < 2 ^ 64 → (n : ℕ) → decimal k ≡ decimal n → n < 2 ^ 64
one_decimal k h n e = elim (cases_lt n (10 ^ 64)) [
  | inl below ↦
      let same : n ≡ k = sym (decimal_is_IsNumeral_wide n below).1 ∙ ap (digits_value 10) (sym e) ∙ (decimal_is_IsNumeral k h).1 in
      omega (arith, same, h)
  | inr above ↦ absurd (omega (arith, decimal_long n above, ap length e, length-decimal-le 20 k (omega arith) (omega arith) h))
]
