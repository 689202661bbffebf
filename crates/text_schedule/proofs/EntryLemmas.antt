-- The grammar of entries.
use Rattle.std.proofs.Common.{◌≡◌, ℕ, ◌<◌, ◌≤◌, ◌^◌, List, [], ◌∷◌, length, get_or, codes, decimal, Option, Some, None, option_map, if◌then◌else◌, bytes_eq, refl, ap, rules, arith}
use Rattle.std.specs.List.{AllByRecursion}
use Rattle.text_lines.proofs.GrammarLemmas.{NumbersFit, IsGrammar}
use Rattle.text_lines.proofs.Decimals.{no_number, one_decimal}
use Rattle.text_lines.proofs.ValueLemmas.{number_from, number_read, value_from, value_read, value_word, value_fits, value_number}
use Rattle.text_lines.proofs.WordLemmas.{IsWord, number_word}
use Rattle.spec_node.specs.TableNode.{Child}
use Rattle.spec_node.specs.declared.child.Child.TheVariants.{Payload, Node}
use Rattle.spec_olc.specs.declared.types.Op.{Op}
use Rattle.spec_olc.specs.declared.types.Op.TheVariants.{Get, Insert, Remove, ComputeIfPresent, ComputeOrInsert, CompareExchange, Range}
use Rattle.spec_text.specs.Entry.{words_of_op, words_of_child, words_of_entry, EntryFits}
use Rattle.text_schedule.specs.inner.EntryReading.{OpFits, ChildFits, EntryIsWithin}
use Rattle.spec_text.specs.declared.entry.Entry.{Entry}
use Rattle.spec_text.specs.declared.entry.Entry.TheVariants.{Start, Step, Steps, Torn, Fail, Answer, Reclaim}

-- a call of its name and its other words
abbrev one_from : (ℕ → Op ℕ) → List (List ℕ) → Option (Op ℕ)
one_from f (key ∷ words) = Some (f (number_from key))
one_from f words = None

abbrev two_from : (ℕ → ℕ → Op ℕ) → List (List ℕ) → Option (Op ℕ)
two_from f (key ∷ value ∷ words) = Some (f (number_from key) (number_from value))
two_from f words = None

abbrev exchange_from : List (List ℕ) → Option (Op ℕ)
exchange_from (key ∷ old ∷ new ∷ words) = Some (CompareExchange (number_from key) (number_from old) (value_from new))
exchange_from words = None

abbrev range_from : List (List ℕ) → Option (Op ℕ)
range_from (start ∷ end ∷ limit ∷ words) = Some (Range (number_from start) (number_from end) (number_from limit))
range_from words = None

abbrev op_from : List (List ℕ) → Option (Op ℕ)
op_from [] = None
op_from (name ∷ words) =
    if bytes_eq name (codes "get") then one_from Get words else
    (if bytes_eq name (codes "insert") then two_from Insert words else
    (if bytes_eq name (codes "remove") then one_from Remove words else
    (if bytes_eq name (codes "present") then one_from ComputeIfPresent words else
    (if bytes_eq name (codes "orinsert") then two_from ComputeOrInsert words else
    (if bytes_eq name (codes "cas") then exchange_from words else range_from words)))))

op_read : (op : Op ℕ) → OpFits op → op_from (words_of_op op) ≡ Some op
op_read (Get key) fits = rw (number_read key fits) refl
op_read (Insert key value) fits = rw (number_read key fits.0, number_read value fits.1) refl
op_read (Remove key) fits = rw (number_read key fits) refl
op_read (ComputeIfPresent key) fits = rw (number_read key fits) refl
op_read (ComputeOrInsert key otherwise) fits = rw (number_read key fits.0, number_read otherwise fits.1) refl
op_read (CompareExchange key old new) fits = rw (number_read key fits.0, number_read old fits.1, value_read new fits.2) refl
op_read (Range start end limit) fits = rw (number_read start fits.0, number_read end fits.1, number_read limit fits.2) refl

-- what a torn read reports
abbrev payload_from : List (List ℕ) → Option (Option (Child ℕ))
payload_from (value ∷ words) = Some (Some (Payload (number_from value)))
payload_from words = None

abbrev node_from : List (List ℕ) → Option (Option (Child ℕ))
node_from (slot ∷ words) = Some (Some (Node (number_from slot)))
node_from words = None

abbrev child_from : List (List ℕ) → Option (Option (Child ℕ))
child_from [] = None
child_from (name ∷ words) =
    if bytes_eq name (codes "none") then Some None else
    (if bytes_eq name (codes "value") then payload_from words else node_from words)

child_read : (child : Option (Child ℕ)) → ChildFits child → child_from (words_of_child child) ≡ Some child
child_read None fits = refl
child_read (Some (Payload value)) fits = rw (number_read value fits) refl
child_read (Some (Node slot)) fits = rw (number_read slot fits) refl

-- an entry
abbrev steps_from : ℕ → List (List ℕ) → Option Entry
steps_from id [] = Some (Step id)
steps_from id (count ∷ words) = Some (Steps id (number_from count))

abbrev answer_from : ℕ → List (List ℕ) → Option Entry
answer_from id [] = None
answer_from id (answer ∷ words) = Some (Answer id (value_from answer))

abbrev entry_from : List (List ℕ) → Option Entry
entry_from (name ∷ first ∷ words) =
    if bytes_eq name (codes "start") then option_map (Start (number_from first)) (op_from words) else
    (if bytes_eq name (codes "step") then steps_from (number_from first) words else
    (if bytes_eq name (codes "torn") then option_map (Torn (number_from first)) (child_from words) else
    (if bytes_eq name (codes "fail") then Some (Fail (number_from first)) else
    (if bytes_eq name (codes "answer") then answer_from (number_from first) words else Some (Reclaim (number_from first))))))
entry_from words = None

count_wide : (count : ℕ) → count ≤ 10000 → count < 2 ^ 64
count_wide count h = omega arith

entry_read : (entry : Entry) → EntryIsWithin entry → entry_from (words_of_entry entry) ≡ Some entry
entry_read (Start id op) fits = rw (number_read id fits.0, op_read op fits.1) refl
entry_read (Step id) fits = rw (number_read id fits) refl
entry_read (Steps id count) fits = rw (number_read id fits.0, number_read count (count_wide count fits.2)) refl
entry_read (Torn id child) fits = rw (number_read id fits.0, child_read child fits.1) refl
entry_read (Fail id) fits = rw (number_read id fits) refl
entry_read (Answer id answer) fits = rw (number_read id fits.0, value_read answer fits.1) refl
entry_read (Reclaim slot) fits = rw (number_read slot fits) refl

-- the words of each
op_words : (op : Op ℕ) → OpFits op → AllByRecursion IsWord (words_of_op op)
op_words (Get key) fits = (record { lacks = search rules; short = omega arith }, (number_word key fits, tt))
op_words (Insert key value) fits =
    (record { lacks = search rules; short = omega arith }, (number_word key fits.0, (number_word value fits.1, tt)))
op_words (Remove key) fits = (record { lacks = search rules; short = omega arith }, (number_word key fits, tt))
op_words (ComputeIfPresent key) fits = (record { lacks = search rules; short = omega arith }, (number_word key fits, tt))
op_words (ComputeOrInsert key otherwise) fits =
    (record { lacks = search rules; short = omega arith }, (number_word key fits.0, (number_word otherwise fits.1, tt)))
op_words (CompareExchange key old new) fits =
    (record { lacks = search rules; short = omega arith }, (number_word key fits.0, (number_word old fits.1, (value_word new fits.2, tt))))
op_words (Range start end limit) fits =
    (record { lacks = search rules; short = omega arith }, (number_word start fits.0, (number_word end fits.1, (number_word limit fits.2, tt))))

child_words : (child : Option (Child ℕ)) → ChildFits child → AllByRecursion IsWord (words_of_child child)
child_words None fits = (record { lacks = search rules; short = omega arith }, tt)
child_words (Some (Payload value)) fits = (record { lacks = search rules; short = omega arith }, (number_word value fits, tt))
child_words (Some (Node slot)) fits = (record { lacks = search rules; short = omega arith }, (number_word slot fits, tt))

entry_words : (entry : Entry) → EntryIsWithin entry → AllByRecursion IsWord (words_of_entry entry)
entry_words (Start id op) fits =
    (record { lacks = search rules; short = omega arith }, (number_word id fits.0, op_words op fits.1))
entry_words (Step id) fits = (record { lacks = search rules; short = omega arith }, (number_word id fits, tt))
entry_words (Steps id count) fits =
    (record { lacks = search rules; short = omega arith }, (number_word id fits.0, (number_word count (count_wide count fits.2), tt)))
entry_words (Torn id child) fits =
    (record { lacks = search rules; short = omega arith }, (number_word id fits.0, child_words child fits.1))
entry_words (Fail id) fits = (record { lacks = search rules; short = omega arith }, (number_word id fits, tt))
entry_words (Answer id answer) fits =
    (record { lacks = search rules; short = omega arith }, (number_word id fits.0, (value_word answer fits.1, tt)))
entry_words (Reclaim slot) fits = (record { lacks = search rules; short = omega arith }, (number_word slot fits, tt))

op_few : (op : Op ℕ) → length (words_of_op op) ≤ 4
op_few (Get key) = omega arith
op_few (Insert key value) = omega arith
op_few (Remove key) = omega arith
op_few (ComputeIfPresent key) = omega arith
op_few (ComputeOrInsert key otherwise) = omega arith
op_few (CompareExchange key old new) = omega arith
op_few (Range start end limit) = omega arith

child_few : (child : Option (Child ℕ)) → length (words_of_child child) ≤ 2
child_few None = omega arith
child_few (Some (Payload value)) = omega arith
child_few (Some (Node slot)) = omega arith

entry_few : (entry : Entry) → EntryIsWithin entry → length (words_of_entry entry) ≤ 12
entry_few (Start id op) fits = omega (arith, op_few op)
entry_few (Step id) fits = omega arith
entry_few (Steps id count) fits = omega arith
entry_few (Torn id child) fits = omega (arith, child_few child)
entry_few (Fail id) fits = omega arith
entry_few (Answer id answer) fits = omega arith
entry_few (Reclaim slot) fits = omega arith

entry_some : (entry : Entry) → EntryIsWithin entry → 0 < length (words_of_entry entry)
entry_some (Start id op) fits = omega arith
entry_some (Step id) fits = omega arith
entry_some (Steps id count) fits = omega arith
entry_some (Torn id child) fits = omega arith
entry_some (Fail id) fits = omega arith
entry_some (Answer id answer) fits = omega arith
entry_some (Reclaim slot) fits = omega arith

-- an entry is within its bounds where its numbers have 64 bits and its count is kept
op_within : (op : Op ℕ) → NumbersFit (words_of_op op) → OpFits op
op_within (Get key) n = n.1.0 key refl
op_within (Insert key value) n = (n.1.0 key refl, n.1.1.0 value refl)
op_within (Remove key) n = n.1.0 key refl
op_within (ComputeIfPresent key) n = n.1.0 key refl
op_within (ComputeOrInsert key otherwise) n = (n.1.0 key refl, n.1.1.0 otherwise refl)
op_within (CompareExchange key old new) n = (n.1.0 key refl, n.1.1.0 old refl, value_fits new n.1.1.1.0)
op_within (Range start end limit) n = (n.1.0 start refl, n.1.1.0 end refl, n.1.1.1.0 limit refl)

child_within : (child : Option (Child ℕ)) → NumbersFit (words_of_child child) → ChildFits child
child_within None n = tt
child_within (Some (Payload value)) n = n.1.0 value refl
child_within (Some (Node slot)) n = n.1.0 slot refl

within : (entry : Entry) → NumbersFit (words_of_entry entry) → EntryFits entry → EntryIsWithin entry
within (Start id op) n limit = (n.1.0 id refl, op_within op n.1.1)
within (Step id) n limit = n.1.0 id refl
within (Steps id count) n limit = (n.1.0 id refl, limit.0, limit.1)
within (Torn id child) n limit = (n.1.0 id refl, child_within child n.1.1)
within (Fail id) n limit = n.1.0 id refl
within (Answer id answer) n limit = (n.1.0 id refl, value_fits answer n.1.1.0)
within (Reclaim slot) n limit = n.1.0 slot refl

op_numbers : (op : Op ℕ) → OpFits op → NumbersFit (words_of_op op)
op_numbers (Get key) fits = (no_number _ (omega arith), (one_decimal key fits, tt))
op_numbers (Insert key value) fits = (no_number _ (omega arith), (one_decimal key fits.0, (one_decimal value fits.1, tt)))
op_numbers (Remove key) fits = (no_number _ (omega arith), (one_decimal key fits, tt))
op_numbers (ComputeIfPresent key) fits = (no_number _ (omega arith), (one_decimal key fits, tt))
op_numbers (ComputeOrInsert key otherwise) fits =
    (no_number _ (omega arith), (one_decimal key fits.0, (one_decimal otherwise fits.1, tt)))
op_numbers (CompareExchange key old new) fits =
    (no_number _ (omega arith), (one_decimal key fits.0, (one_decimal old fits.1, (value_number new fits.2, tt))))
op_numbers (Range start end limit) fits =
    (no_number _ (omega arith), (one_decimal start fits.0, (one_decimal end fits.1, (one_decimal limit fits.2, tt))))

child_numbers : (child : Option (Child ℕ)) → ChildFits child → NumbersFit (words_of_child child)
child_numbers None fits = (no_number _ (omega arith), tt)
child_numbers (Some (Payload value)) fits = (no_number _ (omega arith), (one_decimal value fits, tt))
child_numbers (Some (Node slot)) fits = (no_number _ (omega arith), (one_decimal slot fits, tt))

numbers_fit : (entry : Entry) → EntryIsWithin entry → NumbersFit (words_of_entry entry)
numbers_fit (Start id op) fits = (no_number _ (omega arith), (one_decimal id fits.0, op_numbers op fits.1))
numbers_fit (Step id) fits = (no_number _ (omega arith), (one_decimal id fits, tt))
numbers_fit (Steps id count) fits =
    (no_number _ (omega arith), (one_decimal id fits.0, (one_decimal count (count_wide count fits.2), tt)))
numbers_fit (Torn id child) fits = (no_number _ (omega arith), (one_decimal id fits.0, child_numbers child fits.1))
numbers_fit (Fail id) fits = (no_number _ (omega arith), (one_decimal id fits, tt))
numbers_fit (Answer id answer) fits = (no_number _ (omega arith), (one_decimal id fits.0, (value_number answer fits.1, tt)))
numbers_fit (Reclaim slot) fits = (no_number _ (omega arith), (one_decimal slot fits, tt))

limits_kept : (entry : Entry) → EntryIsWithin entry → EntryFits entry
limits_kept (Start id op) fits = tt
limits_kept (Step id) fits = tt
limits_kept (Steps id count) fits = (fits.1, fits.2)
limits_kept (Torn id child) fits = tt
limits_kept (Fail id) fits = tt
limits_kept (Answer id answer) fits = tt
limits_kept (Reclaim slot) fits = tt

pub entries : IsGrammar words_of_entry EntryIsWithin EntryFits
entries = record {
  fits = within;
  numbers = numbers_fit;
  limits = limits_kept;
  some = entry_some;
  few = entry_few;
  each = entry_words;
  read = entry_from;
  reads = entry_read;
}

-- the third byte of the first word, by which `range` differs from all other names
abbrev third_byte : List (List ℕ) → ℕ
third_byte [] = 0
third_byte (word ∷ words) = get_or word 2 0

-- words behind `range` are none where they aren't three numbers
pub no_range : (left : List (List ℕ)) → ((start end limit : ℕ) → start < 2 ^ 64 → end < 2 ^ 64 → limit < 2 ^ 64 → left ≡ decimal start ∷ decimal end ∷ decimal limit ∷ [] → ⊥)
    → (op : Op ℕ) → OpFits op → words_of_op op ≡ codes "range" ∷ left → ⊥
no_range left none (Get key) fits words = omega (arith, ap third_byte words)
no_range left none (Insert key value) fits words = omega (arith, ap third_byte words)
no_range left none (Remove key) fits words = omega (arith, ap third_byte words)
no_range left none (ComputeIfPresent key) fits words = omega (arith, ap third_byte words)
no_range left none (ComputeOrInsert key otherwise) fits words = omega (arith, ap third_byte words)
no_range left none (CompareExchange key old new) fits words = omega (arith, ap third_byte words)
no_range left none (Range start end limit) fits words =
    let same : left ≡ decimal start ∷ decimal end ∷ decimal limit ∷ [] = cc in none start end limit fits.0 fits.1 fits.2 same
