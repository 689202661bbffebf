-- WHAT A CALL DOES with the current value of its key, as it follows from its payloads and its closure's answer alone.
use Rattle.std.specs.Prelude.{◌≡◌, Bool, false, IsTrue, Option, Some, None, Ok, Err}
use Rattle.spec_olc.specs.Calls.{Outline, or_else}
use Rattle.spec_olc.specs.declared.types.Asking.{Asking}
use Rattle.spec_olc.specs.declared.types.Asking.TheVariants.{Fresh, Given}
use Rattle.spec_olc.specs.declared.types.Op.{Op}
use Rattle.spec_olc.specs.declared.types.Op.TheVariants.{Get, Insert, Remove, ComputeIfPresent, ComputeOrInsert, CompareExchange}
use Rattle.spec_olc.specs.declared.types.Reply.{Reply}
use Rattle.spec_olc.specs.declared.types.Reply.TheVariants.{Old, Computed, Exchanged}

-- a call of this kind has a closure
abbrev pub HasClosure : Outline → Type 0
HasClosure (ComputeIfPresent k) = Unit {0}
HasClosure (ComputeOrInsert k v) = Unit {0}
HasClosure _ = ⊥

abbrev pub IsOrInsert : Outline → Type 0
IsOrInsert (ComputeOrInsert k v) = Unit {0}
IsOrInsert _ = ⊥

module _ {M : Type 0} where
  -- the previous value, and the closure's answer
  abbrev pub both_in : Option M → Option M → Option (M × Option M)
  both_in None new = None
  both_in (Some old) new = Some (old, new)

  -- THE REPLY to a call that changes the value of its key, by the previous value and the stored one that is returned
  abbrev pub reply_with : Outline → Option M → Option M → Reply M
  reply_with (ComputeIfPresent k) before returns = Computed (both_in before returns)
  reply_with (CompareExchange k old new) before returns = Exchanged (Ok returns)
  reply_with _ before returns = Old before

  -- the share that is kept of what is stored, if the reply returns it
  abbrev pub IsReturned : Op M → Asking M → Option M → Type 0
  IsReturned (ComputeIfPresent k) (Given old answer) returns = returns ≡ answer
  IsReturned (CompareExchange k old new) asking returns = returns ≡ new
  IsReturned op asking returns = Unit {0}

  -- that share as the call starts
  abbrev pub returned_at : Op M → Option M
  returned_at (CompareExchange k old new) = new
  returned_at op = None

-- `same` compares two payloads.
module _ {M : Type 0} (same : M → M → Bool) where
  -- A CHANGE: for this current value of the key, the call stores this value, or removes the key if that is none
  abbrev pub IsChange : Op M → Asking M → Option M → Option M → Type 0
  IsChange (Insert k v) asking at_key value = (asking ≡ Fresh) × (value ≡ Some v)
  IsChange (Remove k) asking (Some old) value = (asking ≡ Fresh) × (value ≡ None)
  IsChange (ComputeIfPresent k) asking (Some old) value = asking ≡ Given (Some old) value
  IsChange (ComputeOrInsert k v) asking at_key value =
      (answer : Option M) × (asking ≡ Given at_key answer) × (value ≡ or_else answer v)
  IsChange (CompareExchange k old new) asking (Some current) value =
      (asking ≡ Fresh) × IsTrue (same current old) × (value ≡ new)
  IsChange op asking at_key value = ⊥

  -- a call without a closure's answer that changes nothing has this reply
  abbrev pub IsLeft : Op M → Option M → Reply M → Type 0
  IsLeft (Get k) at_key reply = reply ≡ Old at_key
  IsLeft (Remove k) None reply = reply ≡ Old None
  IsLeft (ComputeIfPresent k) None reply = reply ≡ Computed None
  IsLeft (CompareExchange k old new) None reply = reply ≡ Exchanged (Err None)
  IsLeft (CompareExchange k old new) (Some current) reply =
      (same current old ≡ false) × (reply ≡ Exchanged (Err (Some current)))
  IsLeft op at_key reply = ⊥
