-- OBSTRUCTION-FREE: a point call that runs alone ends within a fixed number of its own events.
use Rattle.std.specs.Prelude.{◌≡◌, ◌≢◌, ℕ, ◌-◌, ◌<◌, Bool, true, false, if◌then◌else◌, List, [], ◌∷◌, Some, None, ◌⊎◌}
use Rattle.spec_map.specs.Map.{lookup}
use Rattle.spec_olc.specs.Calls.{IsPoint, Outline}
use Rattle.spec_olc.specs.Lock.{version, last_version}
use Rattle.spec_olc.specs.Runs.{Transition}
use Rattle.spec_olc.specs.State.{State, CallState, VersionedNode}
use Rattle.spec_olc.specs.declared.trace.Line.{Line}
use Rattle.spec_olc.specs.declared.trace.Line.TheVariants.{Done as Made}
use Rattle.spec_olc.specs.declared.types.Event.{Event}
use Rattle.spec_olc.specs.declared.types.Event.TheVariants.{Step}
use Rattle.spec_olc.specs.declared.types.Kind.TheVariants as kind
use Rattle.spec_olc.specs.declared.types.Op.TheVariants.{Remove, ComputeIfPresent, CompareExchange}
use Rattle.spec_olc.specs.declared.types.Outcome.TheVariants.{Refused, Done}

-- a call of this kind may remove its key, and cleans up after that
abbrev pub may_remove : Outline → Bool
may_remove (Remove k) = true
may_remove (ComputeIfPresent k) = true
may_remove (CompareExchange k old new) = true
may_remove _ = false

-- no other call holds a node, and no node has the last version
pub record IsUncontended (s : State ℕ) (id : ℕ) : Type 0 where
  pub others : (other : ℕ) (call : CallState ℕ) → lookup s.calls other ≡ Some call → other ≢ id
      → call.held ≡ []
  pub versions : (slot : ℕ) (a : VersionedNode ℕ) → lookup s.nodes slot ≡ Some a
      → version a.word ≢ last_version

-- One event, when the call has `left` events of its own, this one included. The claim ends at a
-- step of another call, an Upgrade made to fail, a refusal, and a step in a state that isn't
-- `IsUncontended`. A Start of another number, a Reclaim and a skipped event don't count.
abbrev pub CountsDown : ℕ → State ℕ → Event ℕ → Line → ℕ → (ℕ → Type 0) → Type 0
CountsDown id now (Step i env) (Made report out seen) left rest =
    i ≡ id → (report.kind ≡ kind.Upgrade → env.fail ≡ false) → out ≢ Refused
    → IsUncontended now id
    → (out ≡ Done) ⊎ ((1 < left) × rest (left - 1))
CountsDown id now event line left rest = rest left

abbrev pub EndsWithin : ℕ → List Transition → State ℕ → ℕ → Type 0
EndsWithin id [] now left = Unit {0}
EndsWithin id (x ∷ xs) now left =
    CountsDown id now x.event x.line left (λ n. EndsWithin id xs x.after n)

-- Each point call in flight ends within 80 of its own events from here on, and each one that starts
-- here within 40, its Start included; within 200 and 120 if it may remove its key.
abbrev pub AllEndAlone : State ℕ → List Transition → Type 0
AllEndAlone now [] = Unit {0}
AllEndAlone now (x ∷ xs) = ((id : ℕ) (call : CallState ℕ) → IsPoint call.outline
    → (lookup now.calls id ≡ Some call
    → EndsWithin id (x ∷ xs) now (if may_remove call.outline then 200 else 80))
    × (lookup now.calls id ≡ None → lookup x.after.calls id ≡ Some call
    → EndsWithin id xs x.after ((if may_remove call.outline then 120 else 40) - 1)))
    × AllEndAlone x.after xs
