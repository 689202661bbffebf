-- The words of a line, and the line of some words.
use Rattle.std.proofs.Common.{◌≡◌, ◌≢◌, ℕ, zero, suc, ◌+◌, ◌*◌, ◌<◌, ◌≤◌, ◌^◌, List, [], ◌∷◌, ◌++◌, length, get_or, take, drop, decimal, eqb, refl, ap, ◌∙◌, arith, add-one, length-append}
use Rattle.std.specs.List.{join_with_byte, AllByRecursion}
use Rattle.std.proofs.lemmas.Fmt.{length-decimal-le}
use Rattle.std.proofs.lemmas.Bool.{ne_eqb, eq-eqb}
use Rattle.std.proofs.lemmas.List.Splits.{length-slice_split, join_with_byte-slice_split}
use Rattle.spec_text.specs.Lines.{Lacks}
use Rattle.text_lines.specs.inner.Words.{words_of}
use Rattle.text_lines.proofs.Numbers.{number_digit}

-- a line without a space is one word
pub words_none : (line : List ℕ) → Lacks 32 line → words_of line ≡ line ∷ []
words_none [] none = refl
words_none (b ∷ bs) none = rw (ne_eqb b 32 none.0, words_none bs none.1) refl

-- up to the first space there is a word
pub words_first : (word rest : List ℕ) → Lacks 32 word → words_of (word ++ 32 ∷ rest) ≡ word ∷ words_of rest
words_first [] rest none = refl
words_first (b ∷ bs) rest none = rw (ne_eqb b 32 none.0, words_first bs rest none.1) refl

pub lacks_from_reads : (byte : ℕ) (bytes : List ℕ) → ((k : ℕ) → k < length bytes → get_or bytes k 0 ≢ byte) → Lacks byte bytes
lacks_from_reads byte [] f = tt
lacks_from_reads byte (b ∷ bs) f = (f 0 (omega arith), lacks_from_reads byte bs (λ k lt. f (suc k) (omega arith)))

-- a word as commands have them: without a space, and of at most 20 bytes
pub record IsWord (word : List ℕ) : Type 0 where
  pub lacks : Lacks 32 word
  pub short : length word ≤ 20

-- the words of a joined list of words are that list
pub words_joined : (word : List ℕ) (words : List (List ℕ)) → AllByRecursion IsWord (word ∷ words) → words_of (join_with_byte 32 (word ∷ words)) ≡ word ∷ words
words_joined word [] each = words_none word each.0.lacks
words_joined word (next ∷ words) each = words_first word _ each.0.lacks ∙ ap (λ ws. word ∷ ws) (words_joined next words each.1)

pub length_joined : (words : List (List ℕ)) → AllByRecursion IsWord words → length (join_with_byte 32 words) ≤ 21 * length words
length_joined [] each = omega arith
length_joined (word ∷ []) each = omega (arith, each.0.short)
length_joined (word ∷ next ∷ words) each =
    omega (arith, each.0.short, length-append word (32 ∷ join_with_byte 32 (next ∷ words)), length_joined (next ∷ words) each.1)

pub joined_words : (line : List ℕ) → join_with_byte 32 (words_of line) ≡ line
joined_words line = join_with_byte-slice_split 32 line

-- a number is a word
pub number_word : (n : ℕ) → n < 2 ^ 64 → IsWord (decimal n)
number_word n h = record {
  lacks = lacks_from_reads 32 (decimal n) (λ k lt e. omega (arith, number_digit (decimal n) k lt n h refl));
  short = length-decimal-le 20 n (omega arith) (omega arith) h;
}

-- the first space cuts off a word
pub words_cut : (line : List ℕ) (at : ℕ) → at < length line → ((k : ℕ) → k < at → get_or line k 0 ≢ 32) → get_or line at 0 ≡ 32 → words_of line ≡ take at line ∷ words_of (drop (at + 1) line)
words_cut [] at lt before here = absurd (omega arith)
words_cut (b ∷ bs) zero lt before here = rw (eq-eqb b 32 here) refl
words_cut (b ∷ bs) (suc at) lt before here =
    rw (add-one, ne_eqb b 32 (before 0 (omega arith)), words_cut bs at (omega arith) (λ k l. before (suc k) (omega arith)) here) (rw add-one refl)

-- a line has a word
pub words_some : (line : List ℕ) → words_of line ≡ [] → ⊥
words_some line none = omega (arith, ap length none, length-slice_split (λ b. eqb b 32) line)
