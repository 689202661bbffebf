-- What a clause reads of a `Watched`.
use Rattle.std.specs.Prelude.{◌≡◌, ℕ, ◌⊎◌, Bool, List, Option}
use Rattle.spec_text.specs.Bytes.{Sends}

-- a reader or a writer, whether a call of it has failed, and how many calls it still makes
pub record Stream (T : Type 0) : Type 0 where
  pub inner : T
  pub failed : Bool
  pub calls_left : ℕ

-- a call that failed: what is watched may fail where it was made, or no call was left
abbrev pub IsFailure : {T : Type 0} → (T → Type 0) → Stream T → Stream T → Type 0
IsFailure may_fail w w' = may_fail w.inner ⊎ ((w.calls_left ≡ 0) × (w'.calls_left ≡ 0))

-- one of several calls failed: what is watched may fail somewhere, or no call is left
abbrev pub HasFailure : {T : Type 0} → (T → Type 0) → Stream T → Type 0
HasFailure {T} may_fail w' = ((inner : T) × may_fail inner) ⊎ (w'.calls_left ≡ 0)

-- of all, a first part was written to the writer, and rest is left
abbrev pub SendsTo : {W : Type 0} → (W → Option (List ℕ)) → Stream W → Stream W
    → List ℕ → List ℕ → Type 0
SendsTo contents output output' all rest =
    Sends (contents output.inner) (contents output'.inner) all rest

-- some first part of all was written to it
abbrev pub SendsPart : {W : Type 0} → (W → Option (List ℕ)) → Stream W → Stream W
    → List ℕ → Type 0
SendsPart contents output output' all = (rest : List ℕ) × SendsTo contents output output' all rest
