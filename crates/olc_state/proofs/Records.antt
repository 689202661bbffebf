-- The records of calls, as the laws of events name them.
use Rattle.std.proofs.Common.{◌≡◌, ℕ, None, refl}
use Rattle.olc_state.specs.declared.stage.Record.{Record}
use Rattle.olc_state.specs.declared.stage.Stage.{Stage}
use Rattle.olc_state.specs.declared.stage.Stage.TheVariants.{Scan, Seek, Tail, Tidy}
use Rattle.olc_state.specs.declared.stage.Task.{Task}
use Rattle.olc_state.specs.inner.Tails.{cleaning_in}
use Rattle.olc_state.specs.inner.Shown.{cleaning_at, cursor_at, reach_at, given_at}

-- a call at a stage
abbrev pub at : {M : Type 0} → Stage → Task M → Record M
at stage task = record { stage = stage; task = task }

-- a stage of a call that is no range and doesn't clean up, and what it shows of the call
abbrev pub IsPlain : Stage → Type 0
IsPlain (Scan course scan) = ⊥
IsPlain (Tail tail) = cleaning_in tail ≡ None
IsPlain (Seek c seek) = ⊥
IsPlain (Tidy c tidy) = ⊥
IsPlain stage = Unit {0}

pub plain_cursor : (stage : Stage) → IsPlain stage → (key : ℕ) → cursor_at stage key ≡ key
plain_cursor (Scan course scan) plain key = absurd plain
plain_cursor stage plain key = refl

pub plain_reach : (stage : Stage) → IsPlain stage → (key : ℕ) → reach_at stage key ≡ key
plain_reach (Scan course scan) plain key = absurd plain
plain_reach stage plain key = refl

pub plain_given : (stage : Stage) → IsPlain stage → given_at stage ≡ 0
plain_given (Scan course scan) plain = absurd plain
plain_given stage plain = refl

pub plain_cleaning : (stage : Stage) → IsPlain stage → cleaning_at stage ≡ None
plain_cleaning (Tail tail) plain = plain
plain_cleaning (Seek c seek) plain = absurd plain
plain_cleaning (Tidy c tidy) plain = absurd plain
plain_cleaning stage plain = refl
