-- What a call derives from its last Read alone: what its closure is called with, and its reply.
use Rattle.std.specs.Prelude.{◌≡◌, ℕ, Bool, IsTrue, [], ◌∷◌, Option, Some, None, IsSome, ◌⊎◌}
use Rattle.spec_map.specs.Call.{ClosureCall}
use Rattle.spec_map.specs.Legal.{IsClosureCalled, reply_of, after}
use Rattle.spec_map.specs.Map.{Pairs}
use Rattle.spec_node.specs.TableNode.{Child}
use Rattle.spec_node.specs.declared.child.Child.TheVariants.{Payload}
use Rattle.spec_olc.specs.Calls.{Outline, IsPoint, map_call, map_reply, map_asked, asked_of}
use Rattle.spec_olc.specs.State.{CallState, Cleaning}
use Rattle.spec_olc.specs.declared.types.Asking.TheVariants.{Fresh}
use Rattle.spec_olc.specs.declared.types.Op.{Op}
use Rattle.spec_olc.specs.declared.types.Op.TheVariants.{Insert, Remove, ComputeIfPresent, ComputeOrInsert, CompareExchange}
use Rattle.spec_olc.specs.declared.types.Progress.TheVariants.{Open}
use Rattle.spec_olc.specs.declared.types.Reply.{Reply}
use Rattle.spec_olc.specs.declared.types.Seen.{Seen}

-- Insert and Remove share no payload, and a call that cleans up doesn't either.
abbrev pub SharesNone : Outline → Option Cleaning → Type 0
SharesNone op (Some c) = Unit {0}
SharesNone (Insert k v) None = Unit {0}
SharesNone (Remove k) None = Unit {0}
SharesNone _ None = ⊥

module _ {M : Type 0} where
  -- the child and the payload that the last Read reported
  abbrev pub payload_in : Option (Child M) → Option M
  payload_in (Some (Payload v)) = Some v
  payload_in _ = None

  abbrev pub seen_child : Option (Seen M) → Option (Child M)
  seen_child None = None
  seen_child (Some s) = s.child

  abbrev pub seen_payload : Option (Seen M) → Option M
  seen_payload seen = payload_in (seen_child seen)

  -- the map with at most the pair of the call's key and the payload that the last Read reported
  abbrev pub only_at : ℕ → Option M → Pairs M
  only_at key None = []
  only_at key (Some v) = (key, v) ∷ []

  abbrev pub seen_map : CallState M → Pairs M
  seen_map call = only_at call.cursor (seen_payload call.seen)

  -- the call's closure call in the map's terms
  abbrev pub answers : CallState M → Op M → ClosureCall M
  answers call op = map_asked op (asked_of call.asking)

  abbrev pub AsksWith : Outline → Option M → Option M → Type 0
  AsksWith (ComputeIfPresent k) seen old = (v : M) × (seen ≡ Some v) × (old ≡ Some v)
  AsksWith (ComputeOrInsert k v) seen old = old ≡ seen
  AsksWith _ seen old = ⊥

  -- THE QUESTION: with what the last Read reported, and once since the call was last at the root
  pub record IsQuestion (call : CallState M) (old : Option M) : Type 0 where
    pub undecided : call.progress ≡ Open
    pub read : IsSome call.seen
    pub fresh : call.asking ≡ Fresh
    pub is : AsksWith call.outline (seen_payload call.seen) old

-- If `Granted` holds, no share of a payload is refused; `same` is the test that compares values.
module _ {M : Type 0} (Granted : Type 0) (same : M → M → Bool) where
  -- a payload that the call sees is the stored one: it shares payloads, or no share is refused
  abbrev pub SeesPayloads : CallState M → Type 0
  SeesPayloads call = SharesNone call.outline call.cleaning → Granted

  -- THE LOCAL REPLY: that of the map's call, where the key has what the last Read reported
  pub record IsLocal (call : CallState M) (answer : Reply M) : Type 0 where
    pub op : Op M
    pub op_is : call.op ≡ Some op
    pub undecided : call.progress ≡ Open
    pub read : IsSome call.seen
    pub point : IsPoint op
    pub asked : SeesPayloads call → IsClosureCalled (seen_map call) (map_call op) (answers call op)
    pub reply : SeesPayloads call
        → map_reply answer ≡ reply_of same (seen_map call) (map_call op) (answers call op)

  -- with this current value the call may change it; a Get doesn't, nor does an exchange that fails
  abbrev pub MayChange : Op M → Option M → Type 0
  MayChange (Insert k v) at_key = Unit {0}
  MayChange (ComputeOrInsert k v) at_key = Unit {0}
  MayChange (Remove k) at_key = IsSome at_key
  MayChange (ComputeIfPresent k) at_key = IsSome at_key
  MayChange (CompareExchange k old new) (Some current) = IsTrue (same current old)
  MayChange op at_key = ⊥

  -- A CALL LOCKS only to clean up, or to write: it may change what it has seen and has a reply
  abbrev pub MayLock : CallState M → Type 0
  MayLock call = IsSome call.cleaning ⊎ ((reply : Reply M) × (local : IsLocal call reply)
      × (SeesPayloads call → MayChange local.op (seen_payload call.seen)))

  -- the call leaves the map that it has seen unchanged
  abbrev pub LeavesAll : CallState M → Op M → Type 0
  LeavesAll call op = SeesPayloads call
      → after same (seen_map call) (map_call op) (answers call op) ≡ seen_map call
