-- How a decided call changes the number of pairs.
use Rattle.std.specs.Prelude.{◌≡◌, ℕ, ◌+◌, ◌≤◌, ◌^◌, Option, Some, None, Result, Ok, Err}
use Rattle.spec_olc.specs.declared.types.Op.{Op}
use Rattle.spec_olc.specs.declared.types.Op.TheVariants.{Insert, Remove, ComputeIfPresent, ComputeOrInsert, CompareExchange}
use Rattle.spec_olc.specs.declared.types.Outcome.{Outcome}
use Rattle.spec_olc.specs.declared.types.Outcome.TheVariants.{Decided}
use Rattle.spec_olc.specs.declared.types.Reply.{Reply}
use Rattle.spec_olc.specs.declared.types.Reply.TheVariants.{Old, Computed, Exchanged}
use Rattle.share_backend.specs.declared.change.Change.{Change}
use Rattle.share_backend.specs.declared.change.Change.TheVariants.{Same, Added, Taken}
use Rattle.share_backend.specs.declared.event.EventResult.{EventResult}

-- by how many pairs the map grows, and by how many it shrinks
abbrev pub added : Change → ℕ
added Added = 1
added _ = 0

abbrev pub taken : Change → ℕ
taken Taken = 1
taken _ = 0

module _ {P : Type 0} where
  abbrev pub if_absent : Option P → Change
  if_absent None = Added
  if_absent (Some before) = Same

  abbrev pub if_present : Option P → Change
  if_present None = Same
  if_present (Some before) = Taken

  abbrev pub if_emptied : Result (Option P) (Option P) → Change
  if_emptied (Ok None) = Taken
  if_emptied (Ok (Some new)) = Same
  if_emptied (Err current) = Same

  -- the closure was called, and returned `None`
  abbrev pub if_dropped : Option (P × Option P) → Change
  if_dropped None = Same
  if_dropped (Some (old, None)) = Taken
  if_dropped (Some (old, Some new)) = Same

  -- HOW A CALL with this reply changes the number of pairs
  abbrev pub change_of : {Q : Type 0} → Op Q → Reply P → Change
  change_of (Insert k v) (Old before) = if_absent before
  change_of (ComputeOrInsert k v) (Old before) = if_absent before
  change_of (Remove k) (Old before) = if_present before
  change_of (ComputeIfPresent k) (Computed both) = if_dropped both
  change_of (CompareExchange k old new) (Exchanged r) = if_emptied r
  change_of op reply = Same

  -- the reply is of the call's kind
  abbrev pub IsOld : Reply P → Type 0
  IsOld (Old before) = Unit {0}
  IsOld _ = ⊥

  abbrev pub IsComputed : Reply P → Type 0
  IsComputed (Computed both) = Unit {0}
  IsComputed _ = ⊥

  abbrev pub IsExchangeReply : Reply P → Type 0
  IsExchangeReply (Exchanged r) = Unit {0}
  IsExchangeReply _ = ⊥

  abbrev pub IsReplyTo : {Q : Type 0} → Op Q → Reply P → Type 0
  IsReplyTo (ComputeIfPresent k) reply = IsComputed reply
  IsReplyTo (CompareExchange k old new) reply = IsExchangeReply reply
  IsReplyTo _ reply = IsOld reply

  -- the reply that an event fixes, if it fixes one
  abbrev pub reply_in : Outcome P → Option (Reply P)
  reply_in (Decided reply) = Some reply
  reply_in _ = None

  abbrev pub reply_opened : {E : Type 0} → Result (EventResult P) E → Option (Reply P)
  reply_opened (Ok event) = reply_in event.outcome
  reply_opened (Err e) = None

  abbrev pub IsReply : Op P → Option (Reply P) → Type 0
  IsReply op None = Unit {0}
  IsReply op (Some reply) = IsReplyTo op reply

  -- AN EVENT of this call, with the reply that it fixes, changes the number of pairs from n to m
  abbrev pub Counts : Op P → Option (Reply P) → ℕ → ℕ → Type 0
  Counts op None n m = m ≡ n
  Counts op (Some reply) n m = (m + taken (change_of op reply) ≡ n + added (change_of op reply)) × (m ≤ 2 ^ 64) × IsReplyTo op reply
