-- What a closure was asked with is stored while its key's count of changes is the same.
use Rattle.std.specs.Prelude.{◌≡◌, ℕ, ◌≤◌, ◌<◌, ◌%◌, List, Some, slice_index}
use Rattle.slab.specs.Slab.{Slab, get}
use Rattle.spec_map.specs.Map.{lookup}
use Rattle.node_table.specs.inner.Kinds.{mapped}
use Rattle.spec_olc.specs.Meaning.{in_some}
use Rattle.share_tree.specs.declared.seat.Question.{Question}
use Rattle.share_tree.specs.declared.seat.CallSeat.{CallSeat}
use Rattle.share_tree.specs.declared.seat.CallSeat.TheVariants.{Present, Always}
use Rattle.share_tree.specs.inner.Contents.{Contents}

-- a key's count of changes
abbrev pub change_count : List ℕ → ℕ → ℕ
change_count counts key = slice_index counts (key % 64)

module _ {P M : Type 0} (meaning : P → M) where
  -- no count falls; while a count is the same, and hasn't saturated, so is what is stored at its keys
  pub record CountsRise (old new : Contents P) : Type 0 where
    pub rises : (k : ℕ) → change_count old.counts k ≤ change_count new.counts k
    pub stays : (k : ℕ) → change_count old.counts k ≡ change_count new.counts k → change_count new.counts k < 18446744073709551615
        → lookup (mapped meaning new.pairs) k ≡ lookup (mapped meaning old.pairs) k

  -- what the closure was asked with is stored, if the key's count is the same, and hasn't saturated
  pub record AnswerHolds (c : Contents P) (q : Question P) : Type 0 where
    pub past : q.at ≤ change_count c.counts q.key
    pub stored : q.at ≡ change_count c.counts q.key → change_count c.counts q.key < 18446744073709551615
        → lookup (mapped meaning c.pairs) q.key ≡ in_some meaning q.old

  -- this holds of a seat whose call asked its closure
  abbrev pub IsCurrent : Contents P → CallSeat P → Type 0
  IsCurrent c (Present q answer) = AnswerHolds c q
  IsCurrent c (Always other q answer) = AnswerHolds c q
  IsCurrent c seat = Unit {0}

  abbrev pub AreCurrent : Contents P → Slab (CallSeat P) → Type 0
  AreCurrent c seats = (id : ℕ) (seat : CallSeat P) → get seats id ≡ Some seat → IsCurrent c seat
