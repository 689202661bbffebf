-- INVARIANTS OF A RUN: an obsolete node is unchanged until its slot is reclaimed, and no two calls
-- hold one node.
use Rattle.std.specs.Prelude.{◌≡◌, ℕ, IsTrue, List, [], ◌∷◌, Some, ◌⊎◌}
use Rattle.spec_map.specs.Map.{lookup}
use Rattle.spec_olc.specs.Lock.{IsObsolete}
use Rattle.spec_olc.specs.Runs.{Transition}
use Rattle.spec_olc.specs.State.{State, VersionedNode}
use Rattle.spec_olc.specs.WellFormed.{Holds}
use Rattle.spec_olc.specs.declared.trace.Line.{Line}
use Rattle.spec_olc.specs.declared.trace.Line.TheVariants.{Done as Made, Skipped}
use Rattle.spec_olc.specs.declared.types.Event.{Event}
use Rattle.spec_olc.specs.declared.types.Event.TheVariants.{Reclaim}
use Rattle.spec_olc.specs.declared.types.Kind.TheVariants as kind

-- the event reclaims the slot
abbrev pub Frees : ℕ → Event ℕ → Line → Type 0
Frees slot (Reclaim s) (Made report out seen) = s ≡ slot
Frees slot event line = ⊥

-- the event locks the node in the slot
abbrev pub Locks : ℕ → Line → Type 0
Locks slot (Made report out seen) =
    (report.kind ≡ kind.Upgrade) × (report.slot ≡ Some slot) × IsTrue report.ok
Locks slot Skipped = ⊥

-- the node in the slot is unchanged and never locked, until the slot is reclaimed
abbrev pub StaysObsolete : ℕ → VersionedNode ℕ → List Transition → Type 0
StaysObsolete slot a [] = Unit {0}
StaysObsolete slot a (x ∷ xs) = Frees slot x.event x.line
    ⊎ ((lookup x.after.nodes slot ≡ Some a) × (Locks slot x.line → ⊥) × StaysObsolete slot a xs)

-- the same of every node that is obsolete after some event
abbrev pub AllStayObsolete : List Transition → Type 0
AllStayObsolete [] = Unit {0}
AllStayObsolete (x ∷ xs) =
    ((slot : ℕ) (a : VersionedNode ℕ) → lookup x.after.nodes slot ≡ Some a → IsObsolete a.word
    → StaysObsolete slot a xs)
    × AllStayObsolete xs

-- no node is held by two calls
abbrev pub IsHeldOnce : State ℕ → Type 0
IsHeldOnce s = (i j slot : ℕ) → Holds s i slot → Holds s j slot → i ≡ j

-- the property holds after each event
abbrev pub AfterEach : (State ℕ → Type 0) → List Transition → Type 0
AfterEach Is [] = Unit {0}
AfterEach Is (x ∷ xs) = Is x.after × AfterEach Is xs
