-- The ordered map's call, reply and closure call for those of the machine.
use Rattle.std.specs.Prelude.{ℕ, List, Option, Some, None}
use Rattle.std.specs.Int.{to_be_bytes, w64}
use Rattle.spec_map.specs.Call.{Call, ClosureCall, get, insert, remove, compare_exchange, compute_if_present, compute_or_insert, range}
use Rattle.spec_map.specs.Call as map
use Rattle.spec_olc.specs.declared.types.Asking.{Asking}
use Rattle.spec_olc.specs.declared.types.Asking.TheVariants.{Given}
use Rattle.spec_olc.specs.declared.types.Op.{Op}
use Rattle.spec_olc.specs.declared.types.Op.TheVariants.{Get, Insert, Remove, ComputeIfPresent, ComputeOrInsert, CompareExchange, Range}
use Rattle.spec_olc.specs.declared.types.Reply.{Reply}
use Rattle.spec_olc.specs.declared.types.Reply.TheVariants.{Old, Computed, Exchanged}

-- the eight bytes of a key, most significant first
abbrev pub bytes_of : ℕ → List ℕ
bytes_of key = to_be_bytes w64 key

-- a call without its payloads
abbrev pub Outline : Type 0
Outline = Op (Unit {0})

module _ {M : Type 0} where
  -- the key of a point call, or the start of a range
  abbrev pub key_of : Op M → ℕ
  key_of (Get k) = k
  key_of (Insert k v) = k
  key_of (Remove k) = k
  key_of (ComputeIfPresent k) = k
  key_of (ComputeOrInsert k v) = k
  key_of (CompareExchange k old new) = k
  key_of (Range a b n) = a

  -- every call but a range
  abbrev pub IsPoint : Op M → Type 0
  IsPoint (Range a b n) = ⊥
  IsPoint _ = Unit {0}

  -- the kind and key of a point call; the start, end and limit of a range
  abbrev pub outline_of : Op M → Outline
  outline_of (Get k) = Get k
  outline_of (Insert k v) = Insert k tt
  outline_of (Remove k) = Remove k
  outline_of (ComputeIfPresent k) = ComputeIfPresent k
  outline_of (ComputeOrInsert k v) = ComputeOrInsert k tt
  outline_of (CompareExchange k old new) = CompareExchange k tt None
  outline_of (Range a b n) = Range a b n

  abbrev pub map_call : Op M → Call ℕ M
  map_call (Get k) = get k
  map_call (Insert k v) = insert k v
  map_call (Remove k) = remove k
  map_call (ComputeIfPresent k) = compute_if_present k
  map_call (ComputeOrInsert k v) = compute_or_insert k
  map_call (CompareExchange k old new) = compare_exchange k old new
  map_call (Range a b n) = range a b n

  abbrev pub map_reply : Reply M → map.Reply ℕ M M
  map_reply (Old before) = map.old_value before
  map_reply (Computed both) = map.computed both
  map_reply (Exchanged r) = map.exchanged r

  -- what the closure was called with and its answer, once it has answered
  abbrev pub asked_of : Asking M → Option (Option M × Option M)
  asked_of (Given old answer) = Some (old, answer)
  asked_of _ = None

  -- the closure's answer, or `v` if it is None
  abbrev pub or_else : Option M → M → Option M
  or_else None v = Some v
  or_else (Some answer) v = Some answer

  -- the closure call in the map's terms: with ComputeOrInsert, an answer of None counts as `v`
  abbrev pub map_asked : Op M → Option (Option M × Option M) → ClosureCall M
  map_asked (ComputeOrInsert k v) (Some (old, answer)) = Some (old, or_else answer v)
  map_asked _ asked = asked

  -- what a call that changes the map stores at its key; None if it removes the key
  abbrev pub answer_in : ClosureCall M → Option M
  answer_in None = None
  answer_in (Some (old, answer)) = answer

  abbrev pub stored : Option (Op M) → Asking M → Option M
  stored None asking = None
  stored (Some (Insert k v)) asking = Some v
  stored (Some (CompareExchange k old new)) asking = new
  stored (Some op) asking = answer_in (map_asked op (asked_of asking))
