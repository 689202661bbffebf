-- The lines of a schedule.
use Rattle.std.specs.Prelude.{ℕ, ◌<◌, ◌≤◌, List, [], ◌∷◌, codes, decimal, Option, Some, None}
use Rattle.spec_text.specs.Grammar.{Spells}
use Rattle.spec_text.specs.Value.{value_text}
use Rattle.spec_node.specs.TableNode.{Child}
use Rattle.spec_node.specs.declared.child.Child.TheVariants.{Payload, Node}
use Rattle.spec_olc.specs.declared.types.Op.{Op}
use Rattle.spec_olc.specs.declared.types.Op.TheVariants.{Get, Insert, Remove, ComputeIfPresent, ComputeOrInsert, CompareExchange, Range}
use Rattle.spec_text.specs.declared.entry.Entry.{Entry}
use Rattle.spec_text.specs.declared.entry.Entry.TheVariants.{Start, Step, Steps, Torn, Fail, Answer, Reclaim}

-- the words of a call as it starts: its name, and its numbers in decimal, without a leading zero
abbrev pub words_of_op : Op ℕ → List (List ℕ)
words_of_op (Get key) = codes "get" ∷ decimal key ∷ []
words_of_op (Insert key value) = codes "insert" ∷ decimal key ∷ decimal value ∷ []
words_of_op (Remove key) = codes "remove" ∷ decimal key ∷ []
words_of_op (ComputeIfPresent key) = codes "present" ∷ decimal key ∷ []
words_of_op (ComputeOrInsert key otherwise) =
    codes "orinsert" ∷ decimal key ∷ decimal otherwise ∷ []
words_of_op (CompareExchange key old new) =
    codes "cas" ∷ decimal key ∷ decimal old ∷ value_text new ∷ []
words_of_op (Range start end limit) =
    codes "range" ∷ decimal start ∷ decimal end ∷ decimal limit ∷ []

-- the words of what a torn read reports
abbrev pub words_of_child : Option (Child ℕ) → List (List ℕ)
words_of_child None = codes "none" ∷ []
words_of_child (Some (Payload value)) = codes "value" ∷ decimal value ∷ []
words_of_child (Some (Node slot)) = codes "node" ∷ decimal slot ∷ []

-- the words of an entry; `step` without a second number is one step
abbrev pub words_of_entry : Entry → List (List ℕ)
words_of_entry (Start id op) = codes "start" ∷ decimal id ∷ words_of_op op
words_of_entry (Step id) = codes "step" ∷ decimal id ∷ []
words_of_entry (Steps id count) = codes "step" ∷ decimal id ∷ decimal count ∷ []
words_of_entry (Torn id child) = codes "torn" ∷ decimal id ∷ words_of_child child
words_of_entry (Fail id) = codes "fail" ∷ decimal id ∷ []
words_of_entry (Answer id answer) = codes "answer" ∷ decimal id ∷ value_text answer ∷ []
words_of_entry (Reclaim slot) = codes "reclaim" ∷ decimal slot ∷ []

-- from 1 to 10000 steps are asked for
abbrev pub EntryFits : Entry → Type 0
EntryFits (Steps id count) = (0 < count) × (count ≤ 10000)
EntryFits entry = Unit {0}

-- the line is this entry
abbrev pub SpellsEntry : List ℕ → Entry → Type 0
SpellsEntry line entry = Spells words_of_entry EntryFits line entry

-- the line is no entry
abbrev pub IsNoEntry : List ℕ → Type 0
IsNoEntry line = (entry : Entry) → SpellsEntry line entry → ⊥
