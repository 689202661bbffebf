-- WHICH KEYS the operations of a history may change.
use Rattle.std.specs.Prelude.{◌≡◌, ◌≢◌, ℕ, ◌<◌, ◌≤◌, List, [], ◌∷◌, Option, Some, None}
use Rattle.std.specs.List.{AllByRecursion}
use Rattle.spec_map.specs.Call.{Call, get, insert, remove, compare_exchange, compute_if_present, compute_or_insert, ClosureCall, old_value, replied}
use Rattle.share_rule.specs.History.{Entry, entry}

module _ {P : Type 0} where
  -- the key whose value a call may change
  abbrev pub changed_key : Call ℕ P → Option ℕ
  changed_key (insert k v) = Some k
  changed_key (remove k) = Some k
  changed_key (compare_exchange k old new) = Some k
  changed_key (compute_if_present k) = Some k
  changed_key (compute_or_insert k) = Some k
  changed_key call = None

  abbrev pub Leaves : ℕ → Call ℕ P → Type 0
  Leaves key call = changed_key call ≢ Some key

  -- they leave the key alone
  abbrev pub AllLeave : ℕ → List (Entry P) → Type 0
  AllLeave key entries = AllByRecursion (λ e. Leaves key e.operation.call) entries

  -- the call is on one key, from `low` on and below `high`
  abbrev pub IsWithin : ℕ → ℕ → Call ℕ P → Type 0
  IsWithin low high (get k) = (low ≤ k) × (k < high)
  IsWithin low high (insert k v) = (low ≤ k) × (k < high)
  IsWithin low high (remove k) = (low ≤ k) × (k < high)
  IsWithin low high (compare_exchange k old new) = (low ≤ k) × (k < high)
  IsWithin low high (compute_if_present k) = (low ≤ k) × (k < high)
  IsWithin low high (compute_or_insert k) = (low ≤ k) × (k < high)
  IsWithin low high call = ⊥

  -- A CALLER OWNS KEYS: its own calls are on these, and nobody else changes them
  abbrev pub OwnsKeys : ℕ → ℕ → ℕ → List (Entry P) → Type 0
  OwnsKeys owner low high [] = Unit {0}
  OwnsKeys owner low high (e ∷ es) = (e.caller ≡ owner → IsWithin low high e.operation.call)
      × (e.caller ≢ owner → (key : ℕ) → low ≤ key → key < high → Leaves key e.operation.call)
      × OwnsKeys owner low high es

  -- a caller's insertion and its look-up, with their replies
  abbrev pub inserts : ℕ → ℕ → P → Option P → Entry P
  inserts caller key value before = entry caller (record {
    call = insert key value;
    asked = None;
    answer = replied (old_value before);
  })

  abbrev pub finds : ℕ → ℕ → Option P → Entry P
  finds caller key found =
      entry caller (record { call = get key; asked = None; answer = replied (old_value found) })

-- the second is at least the first, if there is a first
abbrev pub IsAtLeast : Option ℕ → Option ℕ → Type 0
IsAtLeast None new = Unit {0}
IsAtLeast (Some old) None = ⊥
IsAtLeast (Some old) (Some new) = old ≤ new

-- a closure that was called returned at least what it was passed
abbrev pub RaisesAsked : ClosureCall ℕ → Type 0
RaisesAsked None = Unit {0}
RaisesAsked (Some asked) = IsAtLeast asked.0 asked.1

-- the call leaves the key alone, or only raises the number there
abbrev pub Raises : ℕ → Call ℕ ℕ → ClosureCall ℕ → Type 0
Raises key (compute_or_insert k) asked = k ≡ key → RaisesAsked asked
Raises key call asked = Leaves key call

abbrev pub AllRaise : ℕ → List (Entry ℕ) → Type 0
AllRaise key entries = AllByRecursion (λ e. Raises key e.operation.call e.operation.asked) entries
