-- WHAT A CLOSURE WAS CALLED WITH. `step` are its calls: its state before the call, what it is called with, what it returns,
-- and its state after the call.
use Rattle.std.specs.Prelude.{List}
use Rattle.std.specs.List.{FoldsTo}

-- SOME CALLS, one after another, lead from a closure to what it is left as. Each has what it was called with, and what it
-- returned
abbrev pub Reaches : {F A B : Type 0} → (F → A → B → F → Type 0) → F → F → Type 0
Reaches {F} {A} {B} step first last =
    (calls : List (A × B)) × FoldsTo (λ (before : F) (call : A × B) (after : F). step before call.0 call.1 after) first calls last

-- THE LAST CALL: some calls lead from a closure to a state of it, and one more, with this and that answer, to what it is
-- left as
abbrev pub EndsWithCall : {F A B : Type 0} → (F → A → B → F → Type 0) → F → A → B → F → Type 0
EndsWithCall {F} step first asked answer last = (state : F) × Reaches step first state × step state asked answer last
