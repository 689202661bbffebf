-- Words that are read as an entry, or as a part of one.
use Rattle.std.specs.Prelude.{ℕ, ◌<◌, ◌≤◌, ◌^◌, List, ◌∷◌, Option, Some, None}
use Rattle.text_lines.specs.inner.Reading.{FitsU64, ReadsWords}
use Rattle.text_lines.specs.inner.Words.{words_left}
use Rattle.text_lines.specs.declared.words.Words.{Words}
use Rattle.spec_node.specs.TableNode.{Child}
use Rattle.spec_node.specs.declared.child.Child.TheVariants.{Payload, Node}
use Rattle.spec_olc.specs.declared.types.Op.{Op}
use Rattle.spec_olc.specs.declared.types.Op.TheVariants.{Get, Insert, Remove, ComputeIfPresent, ComputeOrInsert, CompareExchange, Range}
use Rattle.spec_text.specs.Entry.{words_of_entry, words_of_op, words_of_child}
use Rattle.spec_text.specs.declared.entry.Entry.{Entry}
use Rattle.spec_text.specs.declared.entry.Entry.TheVariants.{Start, Step, Steps, Torn, Fail, Answer, Reclaim}

-- its numbers have 64 bits
abbrev pub OpFits : Op ℕ → Type 0
OpFits (Get key) = key < 2 ^ 64
OpFits (Insert key value) = (key < 2 ^ 64) × (value < 2 ^ 64)
OpFits (Remove key) = key < 2 ^ 64
OpFits (ComputeIfPresent key) = key < 2 ^ 64
OpFits (ComputeOrInsert key otherwise) = (key < 2 ^ 64) × (otherwise < 2 ^ 64)
OpFits (CompareExchange key old new) = (key < 2 ^ 64) × (old < 2 ^ 64) × FitsU64 new
OpFits (Range start end limit) = (start < 2 ^ 64) × (end < 2 ^ 64) × (limit < 2 ^ 64)

abbrev pub ChildFits : Option (Child ℕ) → Type 0
ChildFits None = Unit {0}
ChildFits (Some (Payload value)) = value < 2 ^ 64
ChildFits (Some (Node slot)) = slot < 2 ^ 64

-- its numbers have 64 bits, and from 1 to 10000 steps are asked for
abbrev pub EntryIsWithin : Entry → Type 0
EntryIsWithin (Start id op) = (id < 2 ^ 64) × OpFits op
EntryIsWithin (Step id) = id < 2 ^ 64
EntryIsWithin (Steps id count) = (id < 2 ^ 64) × (0 < count) × (count ≤ 10000)
EntryIsWithin (Torn id child) = (id < 2 ^ 64) × ChildFits child
EntryIsWithin (Fail id) = id < 2 ^ 64
EntryIsWithin (Answer id answer) = (id < 2 ^ 64) × FitsU64 answer
EntryIsWithin (Reclaim slot) = slot < 2 ^ 64

-- the first word and those behind it are read as this entry, or as none
abbrev pub ReadsEntry : List ℕ → Words → Option Entry → Type 0
ReadsEntry name rest result =
    ReadsWords words_of_entry EntryIsWithin (name ∷ words_left rest) result

-- the same of a call, and of what a torn read reports
abbrev pub ReadsOp : List ℕ → Words → Option (Op ℕ) → Type 0
ReadsOp name rest result = ReadsWords words_of_op OpFits (name ∷ words_left rest) result

abbrev pub ReadsChild : List ℕ → Words → Option (Option (Child ℕ)) → Type 0
ReadsChild name rest result =
    ReadsWords words_of_child ChildFits (name ∷ words_left rest) result
