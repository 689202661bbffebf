-- WHAT A CLOSURE WAS LAST CALLED WITH. `step` are the calls of a closure: its state before the call, what it is called
-- with, what it returns, and its state after the call.
use Rattle.std.specs.Prelude.{◌≡◌, List, Option, Some, None}
use Rattle.std.specs.List.{FoldsTo}
use Rattle.spec_olc.specs.Meaning.{in_some}

-- a closure that is called only with a value that is present
abbrev pub StepsIfPresent : {F P : Type 0} → (F → P → Option P → F → Type 0)
    → F → Option P → Option P → F → Type 0
StepsIfPresent step before None answer after = (answer ≡ None) × (after ≡ before)
StepsIfPresent step before (Some current) answer after = step before current answer after

-- a closure that always returns a value
abbrev pub StepsAlways : {F P : Type 0} → (F → Option P → P → F → Type 0)
    → F → Option P → Option P → F → Type 0
StepsAlways step before old answer after = (new : _) × (answer ≡ Some new) × step before old new after

-- no closure
abbrev pub StepsNot : {F P : Type 0} → F → Option P → Option P → F → Type 0
StepsNot before old answer after = (answer ≡ None) × (after ≡ before)

-- SOME CALLS, one after another, lead from a closure to what it is left as. Each has what it was called with, and what it
-- returned
abbrev pub Reaches : {F A B : Type 0} → (F → A → B → F → Type 0) → F → F → Type 0
Reaches {F} {A} {B} step first last =
    (calls : List (A × B)) × FoldsTo (λ (before : F) (call : A × B) (after : F). step before call.0 call.1 after) first calls last

-- `last` is the closure as it is left
module _ {P T F : Type 0} (meaning : P → T)
    (step : F → Option P → Option P → F → Type 0) (last : F) where
  -- the call that left it so: it was called with what means `old`, and returned `answer`
  pub record LastCall (old : Option T) (answer : Option P) : Type 0 where
    pub before : F
    pub argument : Option P
    pub called : step before argument answer last
    pub old_is : in_some meaning argument ≡ old

  -- what an operation has of its closure, if it was called, is its last call
  abbrev pub IsLastCall : Option (Option T × Option T) → Type 0
  IsLastCall None = Unit {0}
  IsLastCall (Some asked) = (answer : Option P) × LastCall asked.0 answer × (in_some meaning answer ≡ asked.1)
