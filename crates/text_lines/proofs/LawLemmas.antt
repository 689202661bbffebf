-- Laws of the definitions.
use Rattle.std.proofs.Common.{◌≡◌, ℕ, ◌<◌, ◌≤◌, ◌^◌, List, [], ◌∷◌, ◌++◌, length, Some, decimal, eqb, refl, sym, ap, ◌∙◌, inl, inr, arith, append_assoc}
use Rattle.std.proofs.lemmas.List.{append_cancel_right}
use Rattle.std.specs.List.{slice_split, flat_map, AllByRecursion}
use Rattle.std.specs.Str.Parse.{digits_value, AllDigits}
use Rattle.std.proofs.lemmas.Bool.{ne_eqb, cases_order}
use Rattle.std.proofs.lemmas.Fmt.{digits_decimal, digits_value-decimal, decimal_nonempty, decimal-digits_value}
use Rattle.std.proofs.lemmas.Str.Parse.{tells_digits}
use Rattle.spec_text.specs.Lines.{Lacks, Reads, ended}
use Rattle.text_lines.specs.inner.Cut.{Cuts}
use Rattle.spec_text.specs.Number.{IsNumber}
use Rattle.text_lines.proofs.Cutting.{cut_read}
use Rattle.text_lines.proofs.Numbers.{own, no_leading_zero}

-- the parts between line feeds
split_none : (line : List ℕ) → Lacks 10 line → slice_split (λ b. eqb b 10) line ≡ line ∷ []
split_none [] none = refl
split_none (b ∷ bs) none = rw (ne_eqb b 10 none.0, split_none bs none.1) refl

split_first : (line rest : List ℕ) → Lacks 10 line → slice_split (λ b. eqb b 10) (line ++ 10 ∷ rest) ≡ line ∷ slice_split (λ b. eqb b 10) rest
split_first [] rest none = refl
split_first (b ∷ bs) rest none = rw (ne_eqb b 10 none.0, split_first bs rest none.1) refl

split_cut : (whole : List (List ℕ)) (rest : List ℕ) → AllByRecursion (Lacks 10) whole → Lacks 10 rest → slice_split (λ b. eqb b 10) (flat_map ended whole ++ rest) ≡ whole ++ rest ∷ []
split_cut [] rest each last = split_none rest last
split_cut (line ∷ whole) rest each last =
    ap (slice_split (λ b. eqb b 10)) (append_assoc (ended line) (flat_map ended whole) rest ∙ append_assoc line (10 ∷ []) (flat_map ended whole ++ rest))
    ∙ split_first line (flat_map ended whole ++ rest) each.0 ∙ ap (λ ws. line ∷ ws) (split_cut whole rest each.1 last)

-- two lists with one more at their ends
same_push : {X : Type 0} (xs ys : List X) (x y : X) → xs ++ x ∷ [] ≡ ys ++ y ∷ [] → (xs ≡ ys) × (x ≡ y)
same_push [] [] x y e = (refl, cc)
same_push [] (b ∷ []) x y e = cc
same_push [] (b ∷ c ∷ ys) x y e = cc
same_push (a ∷ []) [] x y e = cc
same_push (a ∷ c ∷ xs) [] x y e = cc
same_push (a ∷ xs) (b ∷ ys) x y e =
    let tails : xs ++ x ∷ [] ≡ ys ++ y ∷ [] = cc in
    let again = same_push xs ys x y tails in
    let heads : a ≡ b = cc in
    (let same : xs ≡ ys = again.0 in cc, again.1)

pub cut_once : (bytes rest rest' : List ℕ) (whole whole' : List (List ℕ)) → Cuts bytes whole rest → Cuts bytes whole' rest' → (whole ≡ whole') × (rest ≡ rest')
cut_once bytes rest rest' whole whole' one other =
    same_push whole whole' rest rest' (sym (split_cut whole rest one.each one.last) ∙ ap (slice_split (λ b. eqb b 10)) (sym one.spelled ∙ other.spelled) ∙ split_cut whole' rest' other.each other.last)

pub read_once : (before after : List ℕ) (one other : Reads (Some before) (Some after)) → (one.whole ≡ other.whole) × (one.rest ≡ other.rest)
read_once before after one other =
    let same = append_cancel_right _ _ after (sym one.consumes ∙ other.consumes) in
    cut_once _ one.rest other.rest one.whole other.whole (cut_read one)
    (record { spelled = same; each = other.each; last = other.last })

-- digits one by one
digits_each : (word : List ℕ) → AllDigits 10 word → AllByRecursion (λ byte. (48 ≤ byte) × (byte ≤ 57)) word
digits_each [] all = tt
digits_each (b ∷ bs) all = let parts = tells_digits.parts b bs all in (parts.0, digits_each bs parts.1)

digits_all : (word : List ℕ) → AllByRecursion (λ byte. (48 ≤ byte) × (byte ≤ 57)) word → AllDigits 10 word
digits_all [] all = tt
digits_all (b ∷ bs) all = tells_digits.more b bs all.0 (digits_all bs all.1)

pub number_is : (word : List ℕ) (n : ℕ) → n < 2 ^ 64 → word ≡ decimal n → IsNumber word n
number_is word n h e = record {
  some = rw e (decimal_nonempty n h);
  digits = rw e (digits_each (decimal n) (digits_decimal own n h));
  no_leading_zero = λ zero. elim (cases_order (length word) 1) [
    | inl one ↦ one
    | inr (inl less) ↦ omega (arith, decimal_nonempty n h, ap length e)
    | inr (inr more) ↦ absurd (no_leading_zero word zero more n h e)
  ];
  value = rw e (digits_value-decimal own n h);
}

pub is_number : (word : List ℕ) (n : ℕ) → n < 2 ^ 64 → IsNumber word n → word ≡ decimal n
is_number word n h is =
    let value : digits_value 10 word ≡ n = is.value in
    rw (← value) (sym (decimal-digits_value own word (digits_all word is.digits) is.some is.no_leading_zero (rw value h)))
