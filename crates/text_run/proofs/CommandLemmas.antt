-- The grammar of commands.
use Rattle.std.proofs.Common.{◌≡◌, ℕ, ◌<◌, ◌≤◌, ◌^◌, List, [], ◌∷◌, length, get_or, codes, decimal, Option, Some, None, if◌then◌else◌, bytes_eq, refl, ap, rules, arith}
use Rattle.std.specs.List.{AllByRecursion}
use Rattle.spec_text.specs.declared.command.Command.{Command}
use Rattle.spec_text.specs.declared.command.Command.TheVariants.{Get, Insert, Remove, Exchange, Add, Put, Range, Keys, Empty, First, Last, Floor, Ceiling, Count}
use Rattle.spec_text.specs.Command.{words_of_command, CommandFits}
use Rattle.text_run.specs.inner.CommandReading.{CommandIsWithin}
use Rattle.text_lines.proofs.GrammarLemmas.{NumbersFit, IsGrammar}
use Rattle.text_lines.proofs.Decimals.{no_number, one_decimal}
use Rattle.text_lines.proofs.ValueLemmas.{number_from, number_read, value_from, value_read, value_word, value_fits, value_number}
use Rattle.text_lines.proofs.WordLemmas.{IsWord, number_word}

abbrev get_from : List (List ℕ) → Option Command
get_from (key ∷ []) = Some (Get (number_from key))
get_from words = None

abbrev insert_from : List (List ℕ) → Option Command
insert_from (key ∷ value ∷ []) = Some (Insert (number_from key) (number_from value))
insert_from words = None

abbrev remove_from : List (List ℕ) → Option Command
remove_from (key ∷ []) = Some (Remove (number_from key))
remove_from words = None

abbrev exchange_from : List (List ℕ) → Option Command
exchange_from (key ∷ old ∷ new ∷ []) = Some (Exchange (number_from key) (number_from old) (value_from new))
exchange_from words = None

abbrev add_from : List (List ℕ) → Option Command
add_from (key ∷ more ∷ []) = Some (Add (number_from key) (number_from more))
add_from words = None

abbrev put_from : List (List ℕ) → Option Command
put_from (key ∷ more ∷ []) = Some (Put (number_from key) (number_from more))
put_from words = None

abbrev range_from : List (List ℕ) → Option Command
range_from (start ∷ end ∷ limit ∷ []) = Some (Range (number_from start) (number_from end) (number_from limit))
range_from words = None

abbrev keys_from : List (List ℕ) → Option Command
keys_from [] = Some Keys
keys_from words = None

abbrev empty_from : List (List ℕ) → Option Command
empty_from [] = Some Empty
empty_from words = None

abbrev first_from : List (List ℕ) → Option Command
first_from [] = Some First
first_from words = None

abbrev last_from : List (List ℕ) → Option Command
last_from [] = Some Last
last_from words = None

abbrev floor_from : List (List ℕ) → Option Command
floor_from (key ∷ []) = Some (Floor (number_from key))
floor_from words = None

abbrev ceiling_from : List (List ℕ) → Option Command
ceiling_from (key ∷ []) = Some (Ceiling (number_from key))
ceiling_from words = None

abbrev count_from : List (List ℕ) → Option Command
count_from [] = Some Count
count_from words = None

abbrev command_from : List (List ℕ) → Option Command
command_from [] = None
command_from (name ∷ words) =
    if bytes_eq name (codes "get") then get_from words else
    (if bytes_eq name (codes "insert") then insert_from words else
    (if bytes_eq name (codes "remove") then remove_from words else
    (if bytes_eq name (codes "cas") then exchange_from words else
    (if bytes_eq name (codes "add") then add_from words else
    (if bytes_eq name (codes "put") then put_from words else
    (if bytes_eq name (codes "range") then range_from words else
    (if bytes_eq name (codes "keys") then keys_from words else
    (if bytes_eq name (codes "empty") then empty_from words else
    (if bytes_eq name (codes "first") then first_from words else
    (if bytes_eq name (codes "last") then last_from words else
    (if bytes_eq name (codes "floor") then floor_from words else
    (if bytes_eq name (codes "ceiling") then ceiling_from words else
    (if bytes_eq name (codes "count") then count_from words else None)))))))))))))

-- what is at most 4096 has 64 bits
limit_wide : (limit : ℕ) → limit ≤ 4096 → limit < 2 ^ 64
limit_wide limit h = omega arith

command_read : (command : Command) → CommandIsWithin command → command_from (words_of_command command) ≡ Some command
command_read (Get key) fits = ap (λ k. Some (Get k)) (number_read key fits)
command_read (Insert key value) fits = rw (number_read key fits.0, number_read value fits.1) refl
command_read (Remove key) fits = ap (λ k. Some (Remove k)) (number_read key fits)
command_read (Exchange key old new) fits =
    rw (number_read key fits.0, number_read old fits.1, value_read new fits.2) refl
command_read (Add key more) fits = rw (number_read key fits.0, number_read more fits.1) refl
command_read (Put key more) fits = rw (number_read key fits.0, number_read more fits.1) refl
command_read (Range start end limit) fits =
    rw (number_read start fits.0, number_read end fits.1, number_read limit (limit_wide limit fits.2)) refl
command_read Keys fits = refl
command_read Empty fits = refl
command_read First fits = refl
command_read Last fits = refl
command_read (Floor key) fits = ap (λ k. Some (Floor k)) (number_read key fits)
command_read (Ceiling key) fits = ap (λ k. Some (Ceiling k)) (number_read key fits)
command_read Count fits = refl

are_words : (command : Command) → CommandIsWithin command → AllByRecursion IsWord (words_of_command command)
are_words (Get key) fits = (record { lacks = search rules; short = omega arith }, (number_word key fits, tt))
are_words (Insert key value) fits =
    (record { lacks = search rules; short = omega arith }, (number_word key fits.0, (number_word value fits.1, tt)))
are_words (Remove key) fits = (record { lacks = search rules; short = omega arith }, (number_word key fits, tt))
are_words (Exchange key old new) fits =
    (record { lacks = search rules; short = omega arith }, (number_word key fits.0, (number_word old fits.1, (value_word new fits.2, tt))))
are_words (Add key more) fits =
    (record { lacks = search rules; short = omega arith }, (number_word key fits.0, (number_word more fits.1, tt)))
are_words (Put key more) fits =
    (record { lacks = search rules; short = omega arith }, (number_word key fits.0, (number_word more fits.1, tt)))
are_words (Range start end limit) fits =
    (record { lacks = search rules; short = omega arith }, (number_word start fits.0, (number_word end fits.1, (number_word limit (limit_wide limit fits.2), tt))))
are_words Keys fits = (record { lacks = search rules; short = omega arith }, tt)
are_words Empty fits = (record { lacks = search rules; short = omega arith }, tt)
are_words First fits = (record { lacks = search rules; short = omega arith }, tt)
are_words Last fits = (record { lacks = search rules; short = omega arith }, tt)
are_words (Floor key) fits = (record { lacks = search rules; short = omega arith }, (number_word key fits, tt))
are_words (Ceiling key) fits = (record { lacks = search rules; short = omega arith }, (number_word key fits, tt))
are_words Count fits = (record { lacks = search rules; short = omega arith }, tt)

few_words : (command : Command) → CommandIsWithin command → length (words_of_command command) ≤ 12
few_words (Get key) fits = omega arith
few_words (Insert key value) fits = omega arith
few_words (Remove key) fits = omega arith
few_words (Exchange key old new) fits = omega arith
few_words (Add key more) fits = omega arith
few_words (Put key more) fits = omega arith
few_words (Range start end limit) fits = omega arith
few_words Keys fits = omega arith
few_words Empty fits = omega arith
few_words First fits = omega arith
few_words Last fits = omega arith
few_words (Floor key) fits = omega arith
few_words (Ceiling key) fits = omega arith
few_words Count fits = omega arith

some_words : (command : Command) → CommandIsWithin command → 0 < length (words_of_command command)
some_words (Get key) fits = omega arith
some_words (Insert key value) fits = omega arith
some_words (Remove key) fits = omega arith
some_words (Exchange key old new) fits = omega arith
some_words (Add key more) fits = omega arith
some_words (Put key more) fits = omega arith
some_words (Range start end limit) fits = omega arith
some_words Keys fits = omega arith
some_words Empty fits = omega arith
some_words First fits = omega arith
some_words Last fits = omega arith
some_words (Floor key) fits = omega arith
some_words (Ceiling key) fits = omega arith
some_words Count fits = omega arith

-- a command is within its bounds where its numbers have 64 bits and its limit is kept
within : (command : Command) → NumbersFit (words_of_command command) → CommandFits command → CommandIsWithin command
within (Get key) n limit = n.1.0 key refl
within (Insert key value) n limit = (n.1.0 key refl, n.1.1.0 value refl)
within (Remove key) n limit = n.1.0 key refl
within (Exchange key old new) n limit = (n.1.0 key refl, n.1.1.0 old refl, value_fits new n.1.1.1.0)
within (Add key more) n limit = (n.1.0 key refl, n.1.1.0 more refl)
within (Put key more) n limit = (n.1.0 key refl, n.1.1.0 more refl)
within (Range start end count) n limit = (n.1.0 start refl, n.1.1.0 end refl, limit)
within Keys n limit = tt
within Empty n limit = tt
within First n limit = tt
within Last n limit = tt
within (Floor key) n limit = n.1.0 key refl
within (Ceiling key) n limit = n.1.0 key refl
within Count n limit = tt

numbers_fit : (command : Command) → CommandIsWithin command → NumbersFit (words_of_command command)
numbers_fit (Get key) fits = (no_number _ (omega arith), (one_decimal key fits, tt))
numbers_fit (Insert key value) fits = (no_number _ (omega arith), (one_decimal key fits.0, (one_decimal value fits.1, tt)))
numbers_fit (Remove key) fits = (no_number _ (omega arith), (one_decimal key fits, tt))
numbers_fit (Exchange key old new) fits =
    (no_number _ (omega arith), (one_decimal key fits.0, (one_decimal old fits.1, (value_number new fits.2, tt))))
numbers_fit (Add key more) fits = (no_number _ (omega arith), (one_decimal key fits.0, (one_decimal more fits.1, tt)))
numbers_fit (Put key more) fits = (no_number _ (omega arith), (one_decimal key fits.0, (one_decimal more fits.1, tt)))
numbers_fit (Range start end limit) fits =
    (no_number _ (omega arith), (one_decimal start fits.0, (one_decimal end fits.1, (one_decimal limit (limit_wide limit fits.2), tt))))
numbers_fit Keys fits = (no_number _ (omega arith), tt)
numbers_fit Empty fits = (no_number _ (omega arith), tt)
numbers_fit First fits = (no_number _ (omega arith), tt)
numbers_fit Last fits = (no_number _ (omega arith), tt)
numbers_fit (Floor key) fits = (no_number _ (omega arith), (one_decimal key fits, tt))
numbers_fit (Ceiling key) fits = (no_number _ (omega arith), (one_decimal key fits, tt))
numbers_fit Count fits = (no_number _ (omega arith), tt)

limits_kept : (command : Command) → CommandIsWithin command → CommandFits command
limits_kept (Get key) fits = tt
limits_kept (Insert key value) fits = tt
limits_kept (Remove key) fits = tt
limits_kept (Exchange key old new) fits = tt
limits_kept (Add key more) fits = tt
limits_kept (Put key more) fits = tt
limits_kept (Range start end limit) fits = fits.2
limits_kept Keys fits = tt
limits_kept Empty fits = tt
limits_kept First fits = tt
limits_kept Last fits = tt
limits_kept (Floor key) fits = tt
limits_kept (Ceiling key) fits = tt
limits_kept Count fits = tt

pub commands : IsGrammar words_of_command CommandIsWithin CommandFits
commands = record {
  fits = within;
  numbers = numbers_fit;
  limits = limits_kept;
  some = some_words;
  few = few_words;
  each = are_words;
  read = command_from;
  reads = command_read;
}

-- the third byte of the first word, by which `range` differs from all other names
abbrev third_byte : List (List ℕ) → ℕ
third_byte [] = 0
third_byte (word ∷ words) = get_or word 2 0

-- words behind `range` are none where they aren't two numbers and a third that may be asked for
pub no_range : (left : List (List ℕ)) → ((start end limit : ℕ) → start < 2 ^ 64 → end < 2 ^ 64 → limit ≤ 4096 → left ≡ decimal start ∷ decimal end ∷ decimal limit ∷ [] → ⊥)
    → (command : Command) → CommandIsWithin command → words_of_command command ≡ codes "range" ∷ left → ⊥
no_range left none (Get key) fits words = omega (arith, ap third_byte words)
no_range left none (Insert key value) fits words = omega (arith, ap third_byte words)
no_range left none (Remove key) fits words = omega (arith, ap third_byte words)
no_range left none (Exchange key old new) fits words = omega (arith, ap third_byte words)
no_range left none (Add key more) fits words = omega (arith, ap third_byte words)
no_range left none (Put key more) fits words = omega (arith, ap third_byte words)
no_range left none (Range start end limit) fits words =
    let same : left ≡ decimal start ∷ decimal end ∷ decimal limit ∷ [] = cc in none start end limit fits.0 fits.1 fits.2 same
no_range left none Keys fits words = omega (arith, ap third_byte words)
no_range left none Empty fits words = omega (arith, ap third_byte words)
no_range left none First fits words = omega (arith, ap third_byte words)
no_range left none Last fits words = omega (arith, ap third_byte words)
no_range left none (Floor key) fits words = omega (arith, ap third_byte words)
no_range left none (Ceiling key) fits words = omega (arith, ap third_byte words)
no_range left none Count fits words = omega (arith, ap third_byte words)
