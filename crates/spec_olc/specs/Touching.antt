-- NO USE AFTER FREE: a slot that an event touches is the root's, or was named to its call by a Read
-- or a Make of its own and has been in use ever since.
use Rattle.std.specs.Prelude.{◌≡◌, ◌≢◌, ℕ, List, [], ◌∷◌, Option, Some, None, IsSome, ◌⊎◌}
use Rattle.spec_map.specs.Map.{lookup}
use Rattle.spec_node.specs.declared.child.Child.TheVariants.{Node}
use Rattle.spec_olc.specs.Runs.{Transition}
use Rattle.spec_olc.specs.declared.trace.Line.{Line}
use Rattle.spec_olc.specs.declared.trace.Line.TheVariants.{Done as Made}
use Rattle.spec_olc.specs.declared.types.Event.{Event}
use Rattle.spec_olc.specs.declared.types.Event.TheVariants.{Start, Step}
use Rattle.spec_olc.specs.declared.types.Kind.TheVariants as kind
use Rattle.spec_olc.specs.declared.types.Kind.{Kind}
use Rattle.spec_olc.specs.declared.types.Seen.{Seen}

-- an event names this slot: a Read, also a torn one, the child that it reports, a Make its own
abbrev pub Names : Kind → Option ℕ → Option (Seen ℕ) → ℕ → Type 0
Names kind.Read at seen slot = (s : Seen ℕ) × (seen ≡ Some s) × (s.child ≡ Some (Node slot))
Names kind.Make at seen slot = at ≡ Some slot
Names _ at seen slot = ⊥

-- this event names the slot to call `id`, or an earlier one since the call's Start does
abbrev pub WasNamedBy : ℕ → ℕ → Event ℕ → Line → Type 0 → Type 0
WasNamedBy id slot (Start i op) (Made report out seen) before = (i ≢ id) × before
WasNamedBy id slot (Step i env) (Made report out seen) before =
    ((i ≡ id) × Names report.kind report.slot seen slot) ⊎ before
WasNamedBy id slot event line before = before

-- live for call `id`: named to it by one of these events (newest first), in use after each since
abbrev pub IsLive : ℕ → ℕ → List Transition → Type 0
IsLive id slot [] = ⊥
IsLive id slot (x ∷ past) =
    IsSome (lookup x.after.nodes slot) × WasNamedBy id slot x.event x.line (IsLive id slot past)

-- a Make takes a free slot; any other event touches the root or a slot that is live for its call
abbrev pub MayTouch : ℕ → ℕ → List Transition → Kind → Option ℕ → Type 0
MayTouch root id past kind.Make at = Unit {0}
MayTouch root id past done None = Unit {0}
MayTouch root id past done (Some slot) = (slot ≡ root) ⊎ IsLive id slot past

abbrev pub Touches : ℕ → List Transition → Event ℕ → Line → Type 0
Touches root past (Step id env) (Made report out seen) =
    MayTouch root id past report.kind report.slot
Touches root past event line = Unit {0}

abbrev pub NoUseAfterFree : ℕ → List Transition → List Transition → Type 0
NoUseAfterFree root past [] = Unit {0}
NoUseAfterFree root past (x ∷ xs) =
    Touches root past x.event x.line × NoUseAfterFree root (x ∷ past) xs
