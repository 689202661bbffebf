-- From the words of a line to the value that it parses as, for any grammar by words.
use Rattle.std.proofs.Common.{◌≡◌, ℕ, ◌<◌, ◌≤◌, ◌^◌, ◌↔◌, List, [], ◌∷◌, length, decimal, Option, Some, None, IfSome, IfNone, sym, ap, ◌∙◌, arith}
use Rattle.std.specs.List.{join_with_byte, AllByRecursion}
use Rattle.text_lines.specs.inner.Words.{words_of}
use Rattle.spec_text.specs.Grammar.{Spells}
use Rattle.text_lines.specs.inner.Reading.{ReadsWords}
use Rattle.text_lines.proofs.WordLemmas.{IsWord, words_joined, joined_words, length_joined}

-- the words that are numbers have 64 bits
abbrev pub NumbersFit : List (List ℕ) → Type 0
NumbersFit words = AllByRecursion (λ word. (n : ℕ) → word ≡ decimal n → n < 2 ^ 64) words

-- Each value has words, at most twelve, and can be read back from them. It fits where its numbers do and it is within
-- its limits.
pub record IsGrammar {C : Type 0} (words : C → List (List ℕ)) (Fits Limits : C → Type 0) : Type 0 where
  pub some : (value : C) → Fits value → 0 < length (words value)
  pub few : (value : C) → Fits value → length (words value) ≤ 12
  pub each : (value : C) → Fits value → AllByRecursion IsWord (words value)
  pub read : List (List ℕ) → Option C
  pub reads : (value : C) → Fits value → read (words value) ≡ Some value
  pub fits : (value : C) → NumbersFit (words value) → Limits value → Fits value
  pub numbers : (value : C) → Fits value → NumbersFit (words value)
  pub limits : (value : C) → Fits value → Limits value

words_joined_some : (words : List (List ℕ)) → 0 < length words → AllByRecursion IsWord words → words_of (join_with_byte 32 words) ≡ words
words_joined_some [] some each = absurd (omega arith)
words_joined_some (word ∷ words) some each = words_joined word words each

one_value : {C : Type 0} (one other : C) → Some one ≡ Some other → one ≡ other
one_value one other e = cc

module _ {C : Type 0} (words : C → List (List ℕ)) (Fits Limits : C → Type 0) (grammar : IsGrammar words Fits Limits) where
  value_fits : (line : List ℕ) (value : C) → Spells words Limits line value → Fits value
  value_fits line value parses = grammar.fits value parses.numbers parses.fits

  spell : (line : List ℕ) (value : C) → line ≡ join_with_byte 32 (words value) → Fits value → Spells words Limits line value
  spell line value spelled fits = record { spelled = spelled; numbers = grammar.numbers value fits; fits = grammar.limits value fits }

  pub spelled_alike : (line : List ℕ) (value : C) → Spells words Limits line value ↔ ((line ≡ join_with_byte 32 (words value)) × Fits value)
  spelled_alike line value = (λ parses. (parses.spelled, value_fits line value parses), λ fits. spell line value fits.0 fits.1)

  spells_words : (line : List ℕ) (value : C) → Spells words Limits line value → words_of line ≡ words value
  spells_words line value parses =
      let fits = value_fits line value parses in
      ap words_of parses.spelled ∙ words_joined_some (words value) (grammar.some value fits) (grammar.each value fits)

  words_spell : (line : List ℕ) (value : C) → Fits value → words_of line ≡ words value → Spells words Limits line value
  words_spell line value fits e = spell line value (sym (joined_words line) ∙ ap (join_with_byte 32) e) fits

  pub spelled_from_reads : (line : List ℕ) (given : List (List ℕ)) → words_of line ≡ given → (result : Option C) → ReadsWords words Fits given result → IfSome result (Spells words Limits line)
  spelled_from_reads line given e None reads = tt
  spelled_from_reads line given e (Some value) reads = words_spell line value reads.0 (e ∙ sym reads.1)

  pub none_from_reads : (line : List ℕ) (given : List (List ℕ)) → words_of line ≡ given → (result : Option C) → ReadsWords words Fits given result
      → IfNone result ((value : C) → Spells words Limits line value → ⊥)
  none_from_reads line given e None reads = λ value parses. reads value (value_fits line value parses) (sym (spells_words line value parses) ∙ e)
  none_from_reads line given e (Some value) reads = tt

  -- a line parses as one value at most, and a line that is too long as none
  pub spelled_once : (line : List ℕ) (one other : C) → Spells words Limits line one → Spells words Limits line other → one ≡ other
  spelled_once line one other a b =
      one_value one other (
      sym (grammar.reads one (value_fits line one a)) ∙ ap grammar.read (sym (spells_words line one a) ∙ spells_words line other b)
      ∙ grammar.reads other (value_fits line other b)
      )

  pub none_long : (line : List ℕ) → 256 < length line → (value : C) → Spells words Limits line value → ⊥
  none_long line long value parses =
      let fits = value_fits line value parses in
      omega (arith, ap length parses.spelled, length_joined (words value) (grammar.each value fits), grammar.few value fits)
