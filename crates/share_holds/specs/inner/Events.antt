-- What a seat knows of its own number after each event of a call.
use Rattle.std.specs.Prelude.{◌≡◌, ℕ, Bool, true, false, List, [], ◌∷◌, Option, Some, None, Result, Ok, Err, ◌⊎◌}
use Rattle.share_backend.specs.Stages.{Follows, TakesAnswer, operation_by}
use Rattle.share_backend.specs.declared.event.EventResult.{EventResult}
use Rattle.share_backend.specs.declared.lent.CallStage.{CallStage}
use Rattle.share_backend.specs.declared.lent.CallStage.TheVariants.{Ready, Running, Settled, Denied}
use Rattle.share_holds.specs.Closures.{LastCall, IsLastCall}
use Rattle.share_holds.specs.Moments.{WasStored}
use Rattle.share_holds.specs.declared.tried.Tried.{Tried}
use Rattle.share_holds.specs.declared.tried.Tried.TheVariants.{Replied, Refused as Rejected, Again}
use Rattle.share_rule.specs.inner.SeatView.{Seat}
use Rattle.share_rule.specs.inner.Steps.{SeesNoMore, Made, at_of, seen_of}
use Rattle.spec_map.specs.Call.{Operation}
use Rattle.spec_olc.specs.Calls.{Outline, IsPoint, outline_of, asked_of}
use Rattle.spec_olc.specs.Meaning.{in_some, op_of, meant_reply, outcome_of}
use Rattle.spec_olc.specs.declared.types.Asking.{Asking}
use Rattle.spec_olc.specs.declared.types.Asking.TheVariants.{Fresh, Wants, Given}
use Rattle.spec_olc.specs.declared.types.Kind.{Kind}
use Rattle.spec_olc.specs.declared.types.Kind.TheVariants as kind
use Rattle.spec_olc.specs.declared.types.Op.{Op}
use Rattle.spec_olc.specs.declared.types.Outcome.{Outcome}
use Rattle.spec_olc.specs.declared.types.Outcome.TheVariants.{Going, Ask, Pair, Decided, Refused, Done, Unknown}
use Rattle.spec_olc.specs.declared.types.Reply.{Reply}

module _ {T : Type 0} where
  -- the operation that an event makes, if it makes one, by what was known of its number before
  abbrev pub operations_at : Option (ℕ × CallStage T) → Outcome T → List (Operation ℕ T T)
  operations_at (Some (i, Running o op s)) (Decided reply) = operation_by op (asked_of s) reply ∷ []
  operations_at at outcome = []

  -- the operation that a call's first event makes, if it makes one
  abbrev pub operations_in : Op T → Outcome T → List (Operation ℕ T T)
  operations_in op (Decided reply) = operation_by op None reply ∷ []
  operations_in op outcome = []

  -- a call that has its reply, or was refused
  abbrev pub IsOver : Outline → CallStage T → Type 0
  IsOver o p = (p ≡ Settled o) ⊎ (p ≡ Denied o)

-- the call has ended
abbrev pub is_last : {P : Type 0} → Outcome P → Bool
is_last Done = true
is_last Unknown = true
is_last _ = false

abbrev pub operations_opened : {P T E : Type 0} → (P → T) → Op P → Result (EventResult P) E → List (Operation ℕ T T)
operations_opened meaning op (Ok event) = operations_in (op_of meaning op) (outcome_of meaning event.outcome)
operations_opened meaning op (Err e) = []

-- the number that was seated
abbrev pub seated_in : {E : Type 0} → Result ℕ E → Option ℕ
seated_in (Ok id) = Some id
seated_in (Err e) = None

-- nothing more is seen, and this is known of the seat's number
pub record KnowsOf {T S : Type 0} (at : Option (ℕ × CallStage T)) (m n : Seat T (CallStage T) S) : Type 0 where
  pub quiet : SeesNoMore m n
  pub at_is : at_of n.0 ≡ at

-- an operation was made, and this is known of the seat's number
pub record MadeAt {T S : Type 0} (same : T → T → Bool) (operation : Operation ℕ T T) (at : Option (ℕ × CallStage T)) (m n : Seat T (CallStage T) S) : Type 0 where
  pub made : Made same m operation n
  pub at_is : at_of n.0 ≡ at

-- AFTER AN EVENT of the call of the number `id`
module _ {T S : Type 0} (id : ℕ) (o : Outline) where
  abbrev pub Knows : CallStage T → Seat T (CallStage T) S → Seat T (CallStage T) S → Type 0
  Knows p m n = KnowsOf (Some (id, p)) m n

  module _ (same : T → T → Bool) (op : Op T) where
    -- the first one
    abbrev pub AfterFirst : Outcome T → Seat T (CallStage T) S → Seat T (CallStage T) S → Type 0
    AfterFirst Going m n = Knows (Running o op Fresh) m n
    AfterFirst (Ask old) m n = Knows (Running o op (Wants old)) m n
    AfterFirst (Decided reply) m n = MadeAt same (operation_by op None reply) (Some (id, Ready)) m n
    AfterFirst outcome m n = ⊥

    -- one of a running call
    abbrev pub AfterEvent : Asking T → Option T → Kind → Outcome T → Seat T (CallStage T) S → Seat T (CallStage T) S → Type 0
    AfterEvent s answer k Going m n =
        (t : Asking T) × Follows s answer t × (k ≡ kind.Answer → TakesAnswer s answer t) × Knows (Running o op t) m n
    AfterEvent s answer k (Ask old) m n = Knows (Running o op (Wants old)) m n
    AfterEvent s answer k (Pair key value) m n =
        (IsPoint o → ⊥) × ((t : Asking T) × Knows (Running o op t) m n) × WasStored same (seen_of m.0) key value
    AfterEvent s answer k (Decided reply) m n =
        MadeAt same (operation_by op (asked_of s) reply) (Some (id, Settled o)) m n
    AfterEvent s answer k Refused m n = Knows (Denied o) m n
    AfterEvent s answer k Done m n = (IsPoint o → ⊥) × Knows Ready m n
    AfterEvent s answer k Unknown m n = Knows Ready m n

  -- one of a call that has its reply or was refused
  abbrev pub AfterLast : CallStage T → Outcome T → Seat T (CallStage T) S → Seat T (CallStage T) S → Type 0
  AfterLast p Going m n = Knows p m n
  AfterLast p Done m n = Knows Ready m n
  AfterLast p Unknown m n = Knows Ready m n
  AfterLast p (Pair key value) m n = (IsPoint o → ⊥) × Knows p m n
  AfterLast p outcome m n = ⊥

-- the first event, or its refusal
abbrev pub Begun : {P T S E : Type 0} → (T → T → Bool) → (P → T) → ℕ → Op P → Result (EventResult P) E
    → Seat T (CallStage T) S → Seat T (CallStage T) S → Type 0
Begun same meaning id op (Ok event) m n =
    AfterFirst id (outline_of op) same (op_of meaning op) (outcome_of meaning event.outcome) m n
Begun same meaning id op (Err e) m n = KnowsOf (Some (id, Ready)) m n

-- what is known of the closure of a running call, whose last answer is kept until an event has taken it
module _ {P T F : Type 0} (meaning : P → T)
    (step : F → Option P → Option P → F → Type 0) (last : F) where
  abbrev pub WasCalled : Asking T → Option P → Type 0
  WasCalled Fresh answer = Unit {0}
  WasCalled (Wants old) answer = LastCall meaning step last old answer
  WasCalled (Given old given) answer =
      (returned : Option P) × LastCall meaning step last old returned × (in_some meaning returned ≡ given)

  module _ {S : Type 0} (same : T → T → Bool) where
    -- a call was made, and its closure was last called as its operation has it
    pub record Answered (op : Op P) (reply : Reply P) (m n : Seat T (CallStage T) S) : Type 0 where
      pub asked : Option (Option T × Option T)
      pub made : Made same m (operation_by (op_of meaning op) asked (meant_reply meaning reply)) n
      pub last_call : IsLastCall meaning step last asked

    -- AN ATTEMPT at a call
    abbrev pub Attempted : Op P → Tried P → Seat T (CallStage T) S → Seat T (CallStage T) S → Type 0
    Attempted op (Replied reply) m n = Answered op reply m n
    Attempted op Rejected m n = SeesNoMore m n
    Attempted op Again m n = SeesNoMore m n
