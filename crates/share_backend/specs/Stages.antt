-- What is known of a number's call, and how one event changes it and the content.
use Rattle.std.specs.Prelude.{◌≡◌, ℕ, Bool, [], ◌∷◌, Option, Some, ◌⊎◌}
use Rattle.spec_map.specs.Call.{Operation, replied}
use Rattle.spec_map.specs.Legal.{IsLegal}
use Rattle.spec_map.specs.Map.{Pairs, lookup}
use Rattle.spec_map.specs.Refusal.{never}
use Rattle.spec_olc.specs.Calls.{Outline, IsPoint, map_call, map_asked, map_reply, asked_of}
use Rattle.spec_olc.specs.declared.types.Asking.{Asking}
use Rattle.spec_olc.specs.declared.types.Asking.TheVariants.{Fresh, Wants, Given}
use Rattle.spec_olc.specs.declared.types.Kind.{Kind}
use Rattle.spec_olc.specs.declared.types.Kind.TheVariants as kind
use Rattle.spec_olc.specs.declared.types.Op.{Op}
use Rattle.spec_olc.specs.declared.types.Outcome.{Outcome}
use Rattle.spec_olc.specs.declared.types.Outcome.TheVariants.{Going, Ask, Pair, Decided, Refused, Done, Unknown}
use Rattle.spec_olc.specs.declared.types.Reply.{Reply}
use Rattle.share_backend.specs.declared.lent.CallStage.{CallStage}
use Rattle.share_backend.specs.declared.lent.CallStage.TheVariants.{Ready, Running, Settled, Denied}

module _ {M : Type 0} where
  -- a call of this kind and with these keys is in flight
  abbrev pub IsOf : Outline → CallStage M → Type 0
  IsOf o (Running u op s) = u ≡ o
  IsOf o (Settled u) = u ≡ o
  IsOf o (Denied u) = u ≡ o
  IsOf o p = ⊥

  -- the answer was taken
  abbrev pub TakesAnswer : Asking M → Option M → Asking M → Type 0
  TakesAnswer (Wants old) answer next = next ≡ Given old answer
  TakesAnswer asking answer next = ⊥

  -- the state of a call's closure after an event to which this answer was handed
  abbrev pub Follows : Asking M → Option M → Asking M → Type 0
  Follows asking answer next = (next ≡ Fresh) ⊎ ((next ≡ asking) ⊎ TakesAnswer asking answer next)

  -- the number of a call after its first event, if it was ready before: the call runs, or it is over
  abbrev pub Opens : Outline → Op M → Option (CallStage M) → Outcome M → Type 0
  Opens o op q Going = q ≡ Some (Running o op Fresh)
  Opens o op q (Ask old) = q ≡ Some (Running o op (Wants old))
  Opens o op q (Decided reply) = q ≡ Some Ready
  Opens o op q _ = ⊥

  -- a running call after an event
  abbrev pub TurnsRunning : Outline → Op M → Asking M → Option M → Kind → Option (CallStage M) → Outcome M → Type 0
  TurnsRunning o op s answer k q Going = (t : Asking M) × Follows s answer t × (k ≡ kind.Answer → TakesAnswer s answer t) × (q ≡ Some (Running o op t))
  TurnsRunning o op s answer k q (Ask old) = q ≡ Some (Running o op (Wants old))
  TurnsRunning o op s answer k q (Pair key value) = (IsPoint o → ⊥) × ((t : Asking M) × (q ≡ Some (Running o op t)))
  TurnsRunning o op s answer k q (Decided reply) = q ≡ Some (Settled o)
  TurnsRunning o op s answer k q Refused = q ≡ Some (Denied o)
  TurnsRunning o op s answer k q Done = (IsPoint o → ⊥) × (q ≡ Some Ready)
  TurnsRunning o op s answer k q Unknown = q ≡ Some Ready

  -- a call that has its reply, or was refused, after an event
  abbrev pub TurnsEnded : Outline → CallStage M → Option (CallStage M) → Outcome M → Type 0
  TurnsEnded o p q Going = q ≡ Some p
  TurnsEnded o p q (Pair key value) = (IsPoint o → ⊥) × (q ≡ Some p)
  TurnsEnded o p q Done = q ≡ Some Ready
  TurnsEnded o p q Unknown = q ≡ Some Ready
  TurnsEnded o p q _ = ⊥

  abbrev pub Turns : CallStage M → Option M → Kind → Option (CallStage M) → Outcome M → Type 0
  Turns (Running o op s) answer k q out = TurnsRunning o op s answer k q out
  Turns (Settled o) answer k q out = TurnsEnded o (Settled o) q out
  Turns (Denied o) answer k q out = TurnsEnded o (Denied o) q out
  Turns p answer k q out = Unit {0}

  -- the operation of a decided call
  abbrev pub operation_by : Op M → Option (Option M × Option M) → Reply M → Operation ℕ M M
  operation_by op asked reply = record {
    call = map_call op;
    asked = map_asked op asked;
    answer = replied (map_reply reply);
  }

module _ {M : Type 0} (same : M → M → Bool) where
  -- a call that is decided leads from one content to the next
  abbrev pub Decides : CallStage M → Pairs M → Reply M → Pairs M → Type 0
  Decides (Running o op s) m reply n = IsLegal same never m (operation_by op (asked_of s) reply ∷ []) n
  Decides p m reply n = Unit {0}

  -- the content after an event: only a decision changes it. A pair that a range gives is stored then
  abbrev pub Changes : CallStage M → Pairs M → Pairs M → Outcome M → Type 0
  Changes p m n (Decided reply) = Decides p m reply n
  Changes p m n (Pair key value) = (n ≡ m) × (lookup m key ≡ Some value)
  Changes p m n _ = n ≡ m
