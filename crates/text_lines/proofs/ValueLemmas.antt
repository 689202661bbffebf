-- Words that are a number, or a value.
use Rattle.std.proofs.Common.{◌≡◌, ℕ, ◌<◌, ◌^◌, Bool, true, false, List, ◌∷◌, length, get_or, codes, decimal, Option, Some, None, if◌then◌else◌, bytes_eq, refl, sym, ap, ◌∙◌, rules, arith}
use Rattle.std.specs.Str.Parse.{digits_value}
use Rattle.std.proofs.lemmas.Fmt.{digits_value-decimal}
use Rattle.std.proofs.lemmas.Slice.Eq.{bytes_eq-Decides}
use Rattle.spec_text.specs.Value.{value_text}
use Rattle.text_lines.specs.inner.Reading.{FitsU64}
use Rattle.text_lines.proofs.Decimals.{no_number, one_decimal}
use Rattle.text_lines.proofs.Numbers.{own, number_digit}
use Rattle.text_lines.proofs.WordLemmas.{IsWord, number_word}

-- a word is the text of one number
pub one_number : (n k : ℕ) (words more : List (List ℕ)) → n < 2 ^ 64 → k < 2 ^ 64 → decimal n ∷ words ≡ decimal k ∷ more → n ≡ k
one_number n k words more hn hk same =
    let texts : decimal n ≡ decimal k = cc in
    sym (digits_value-decimal own n hn) ∙ ap (digits_value 10) texts ∙ digits_value-decimal own k hk

-- the number, or the value, that a word is the text of
abbrev pub number_from : List ℕ → ℕ
number_from word = digits_value 10 word

abbrev pub value_from : List ℕ → Option ℕ
value_from word = if bytes_eq word (codes "none") then None else Some (number_from word)

pub number_read : (n : ℕ) → n < 2 ^ 64 → number_from (decimal n) ≡ n
number_read n h = digits_value-decimal own n h

-- no number is written `none`
none_is_no_number : (value : ℕ) → value < 2 ^ 64 → decimal value ≡ codes "none" → ⊥
none_is_no_number value h same =
    let four : length (decimal value) ≡ 4 = ap length same in
    let first : get_or (decimal value) 0 0 ≡ 110 = ap (λ (w : List ℕ). get_or w 0 0) same in
    omega (arith, number_digit (decimal value) 0 (omega arith) value h refl)

false_from : (b : Bool) → (b ≡ true → ⊥) → b ≡ false
false_from true never = absurd (never refl)
false_from false never = refl

pub value_read : (value : Option ℕ) → FitsU64 value → value_from (value_text value) ≡ value
value_read None fits = refl
value_read (Some value) fits =
    let other = false_from (bytes_eq (decimal value) (codes "none")) (λ same. none_is_no_number value fits ((bytes_eq-Decides (decimal value) (codes "none")).0 same)) in
    rw (other, number_read value fits) refl

pub value_word : (value : Option ℕ) → FitsU64 value → IsWord (value_text value)
value_word None fits = record { lacks = search rules; short = omega arith }
value_word (Some value) fits = number_word value fits

-- a value fits where its word, as a number, has 64 bits
pub value_fits : (value : Option ℕ) → ((n : ℕ) → value_text value ≡ decimal n → n < 2 ^ 64) → FitsU64 value
value_fits None number = tt
value_fits (Some value) number = number value refl

pub value_number : (value : Option ℕ) → FitsU64 value → (n : ℕ) → value_text value ≡ decimal n → n < 2 ^ 64
value_number None fits = no_number (codes "none") (omega arith)
value_number (Some value) fits = one_decimal value fits
