-- What a hole with a width writes for a number.
use Rattle.std.proofs.Common.{◌≡◌, ℕ, zero, suc, ◌+◌, ◌-◌, ◌/◌, ◌%◌, ◌<◌, ◌≤◌, ◌^◌, false, List, [], ◌∷◌, ◌++◌, length, replicate, refl, ap, append_assoc, arith, length-append, append-nil}
use Rattle.std.specs.Fmt.{decimal, styled_decimal, padded_integral, format_spec, char_count}
use Rattle.std.specs.List.{repeat}
use mathlib.Core.Logic.{⊎_elim}
use Rattle.std.proofs.lemmas.Bool.{cases_lt}
use Rattle.std.proofs.lemmas.Fmt.{decimal_digit, decimal_step}
use Rattle.node_stats.specs.Fractions.{two_digits, with_two_decimals, right_aligned}

-- n spaces
repeat-space : (n : ℕ) → repeat {A = ℕ} n (32 ∷ []) ≡ replicate n 32
repeat-space zero = refl
repeat-space (suc n) = ap (λ t. 32 ∷ t) (repeat-space n)

-- two digits of a number below a hundred
decimal_two_digits : (n : ℕ) → 10 ≤ n → n < 100 → decimal n ≡ two_digits n
decimal_two_digits n low high =
    let small : n < 2 ^ 64 = omega arith in
    let first : n / 10 < 10 = omega arith in
    rw (decimal_step n low small, decimal_digit (n / 10) first)

-- what `{:02}` writes of a number below a hundred
zeros_two : (n : ℕ) → n < 100
    → styled_decimal (format_spec 32 0 4 2 18446744073709551615) n ≡ two_digits n
unfolding padded_integral char_count
zeros_two n small = ⊎_elim
    (λ one. let high : n / 10 ≡ 0 = omega arith in let low : n % 10 ≡ n = omega arith in rw (decimal_digit n one, high, low))
    (λ two. rw (decimal_two_digits n two small))
    (cases_lt n 10)

-- what `{:w}` writes
spaces : (w n : ℕ) → padded_integral (format_spec 32 0 0 w 18446744073709551615) false [] (decimal n) ≡ right_aligned w (decimal n)
unfolding padded_integral char_count lib.Utf8.encode
spaces w n =
    let d : List ℕ = decimal n in
    let pad : ℕ = w - length d in
    let gap : pad - 0 - 0 ≡ pad = omega arith in
    let none : pad - pad ≡ 0 = omega arith in
    let shape : padded_integral (format_spec 32 0 0 w 18446744073709551615) false [] d
    ≡ ((repeat {A = ℕ} (pad - 0 - 0) (32 ∷ []) ++ []) ++ [] ++ []) ++ (d ++ repeat {A = ℕ} (pad - 0 - 0 - (pad - 0 - 0)) (32 ∷ [])) = refl in
    rw shape (rw gap (rw none (simp (append-nil, repeat-space))))

spaces_five : (n : ℕ) → styled_decimal (format_spec 32 0 0 5 18446744073709551615) n ≡ right_aligned 5 (decimal n)
spaces_five n = spaces 5 n

pub spaces_eight : (n : ℕ) → styled_decimal (format_spec 32 0 0 8 18446744073709551615) n ≡ right_aligned 8 (decimal n)
spaces_eight n = spaces 8 n

pub decimals_text : (h : ℕ)
    → decimal (h / 100) ++ 46 ∷ styled_decimal (format_spec 32 0 4 2 18446744073709551615) (h % 100) ≡ with_two_decimals h
decimals_text h = let small : h % 100 < 100 = omega arith in rw (zeros_two (h % 100) small)

pub aligned_text : (h : ℕ)
    → styled_decimal (format_spec 32 0 0 5 18446744073709551615) (h / 100) ++ 46 ∷ styled_decimal (format_spec 32 0 4 2 18446744073709551615) (h % 100)
    ≡ right_aligned 8 (with_two_decimals h)
aligned_text h =
    let small : h % 100 < 100 = omega arith in
    let d : List ℕ = decimal (h / 100) in
    let two : List ℕ = two_digits (h % 100) in
    let len : length (d ++ 46 ∷ two) ≡ length d + 3 = length-append d (46 ∷ two) in
    let short : 8 - length (d ++ 46 ∷ two) ≡ 5 - length d = omega arith in
    rw (spaces_five (h / 100), zeros_two (h % 100) small, short, append_assoc)
