-- EACH CALL ONCE: decided or refused at most once, and a point call ends only after that.
use Rattle.std.specs.Prelude.{◌≡◌, ◌≢◌, ℕ, List, [], ◌∷◌, Option, Some, None}
use Rattle.spec_olc.specs.Calls.{IsPoint}
use Rattle.spec_olc.specs.declared.trace.Line.{Line}
use Rattle.spec_olc.specs.declared.trace.Line.TheVariants.{Done as Made}
use Rattle.spec_olc.specs.declared.types.Event.{Event}
use Rattle.spec_olc.specs.declared.types.Event.TheVariants.{Start, Step}
use Rattle.spec_olc.specs.declared.types.Op.{Op}
use Rattle.spec_olc.specs.declared.types.Outcome.{Outcome}
use Rattle.spec_olc.specs.declared.types.Outcome.TheVariants.{Going, Ask, Pair, Decided as decided, Refused as refused, Done}
use Rattle.spec_olc.specs.declared.types.Progress.{Progress}
use Rattle.spec_olc.specs.declared.types.Progress.TheVariants.{Open, Decided, Refused}

-- the call of a number, if it is in flight, and its progress, by the lines alone
abbrev pub Course : Type 0
Course = Option (Op ℕ × Progress)

-- how an outcome changes it
abbrev pub TurnsBy : Outcome ℕ → Course → Course → Type 0
TurnsBy Going (Some c) next = next ≡ Some c
TurnsBy (Ask old) (Some c) next = next ≡ Some c
TurnsBy (Pair key value) (Some c) next = next ≡ Some c
TurnsBy (decided reply) (Some (op, Open)) next = IsPoint op × (next ≡ Some (op, Decided))
TurnsBy refused (Some (op, Open)) next = next ≡ Some (op, Refused)
TurnsBy Done (Some (op, Open)) next = (IsPoint op → ⊥) × (next ≡ None)
TurnsBy Done (Some (op, ended)) next = next ≡ None
TurnsBy _ _ next = ⊥

-- how a line changes it for call `id`
abbrev pub TurnsCourse : ℕ → Event ℕ → Line → Course → Course → Type 0
TurnsCourse id (Start i op) (Made report out seen) c next =
    (i ≡ id → (c ≡ None) × (next ≡ Some (op, Open)))
    × (i ≢ id → next ≡ c)
TurnsCourse id (Step i env) (Made report out seen) c next =
    (i ≡ id → TurnsBy out c next) × (i ≢ id → next ≡ c)
TurnsCourse id event line c next = next ≡ c

abbrev pub IsOrderly : ℕ → Course → List (Event ℕ) → List Line → Type 0
IsOrderly id c (event ∷ events) (line ∷ lines) =
    (next : Course) × TurnsCourse id event line c next × IsOrderly id next events lines
IsOrderly id c [] [] = Unit {0}
IsOrderly id c _ _ = ⊥
