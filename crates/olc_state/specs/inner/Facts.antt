-- What holds of the machine's inside after each event: the place facts of its nodes, and what each
-- call in flight knows. Each payload is replaced by its meaning.
use Rattle.std.specs.Prelude.{Bool, ◌≡◌, ◌≢◌, ℕ, ◌+◌, ◌^◌, ◌<◌, ◌≤◌, true, IsTrue, List, [], ◌∷◌, length, Option, Some, None, IsSome, ◌⊎◌}
use Rattle.node_base.specs.Form.{stated_size}
use Rattle.spec_map.specs.Map.{Pairs}
use Rattle.node_table.specs.Charge.{Covers}
use Rattle.spec_olc.specs.Calls.{key_of}
use Rattle.spec_olc.specs.Content.{IsContent}
use Rattle.spec_olc.specs.Lists.{is_in}
use Rattle.spec_olc.specs.declared.types.Progress.TheVariants as progress
use Rattle.olc_words.specs.Epoch.{is_seated, pin_of, entry_at}
use Rattle.olc_words.specs.declared.epoch.Life.{Life}
use Rattle.olc_words.specs.declared.epoch.Life.TheVariants.{InUse}
use Rattle.olc_state.specs.declared.stage.Record.{Record}
use Rattle.olc_state.specs.declared.stage.Stage.{Stage}
use Rattle.olc_state.specs.declared.stage.Stage.TheVariants.{TakeRoot, Read, Check, TakeBelow, CheckAbove, Answer, Confirm, Tail, Scan, Seek, Tidy, Finish}
use Rattle.olc_state.specs.declared.stage.Stored.{Stored}
use Rattle.olc_state.specs.declared.stage.Task.{Task}
use Rattle.olc_state.specs.inner.CleanupFacts.{SeekFacts, TidyFacts}
use Rattle.olc_state.specs.inner.CleanupStages.{named_seeking, named_tidying}
use Rattle.olc_state.specs.inner.ScanSpots.{named_on}
use Rattle.olc_state.specs.inner.Scans.{ScanFacts}
use Rattle.olc_state.specs.inner.Shown.{held_at, made_at, state_of}
use Rattle.olc_state.specs.inner.World.{World, is_retired, PlacedNode, NodeMap, table_of, record_of}
use Rattle.olc_state.specs.inner.Tables.{IsPlaced, IsThere, Known, LedTo, NeedsHolder, OnPath, OnWay, TestOf, While}
use Rattle.olc_state.specs.inner.TailFacts.{CaseFacts, IsConfirmed, TailFacts}
use Rattle.olc_state.specs.inner.Tails.{path_slots, case_slots, named_in}
use Rattle.olc_state.specs.inner.Tasks.{IsFreshly, IsOpen, Saw, SawNode, key_bytes}

-- the nodes that a call holds or has made before its next event
abbrev pub Holding : Stage → ℕ → Type 0
Holding stage s = IsTrue (is_in s (held_at stage)) ⊎ IsTrue (is_in s (made_at stage))

-- the slots beside the root's that a call may touch before it reads on
abbrev pub named_at : Stage → List ℕ
named_at TakeRoot = []
named_at (Read path) = path_slots path
named_at (Check path) = path_slots path
named_at (TakeBelow path slot) = slot ∷ path_slots path
named_at (CheckAbove path spot fits) = spot.slot ∷ path_slots path
named_at (Answer case) = case_slots case
named_at (Confirm spot) = spot.slot ∷ []
named_at (Tail tail) = named_in tail
named_at (Scan course scan) = named_on scan
named_at (Seek c seek) = named_seeking seek
named_at (Tidy c tidy) = named_tidying tidy
named_at Finish = []

-- If `Granted` holds, a share is always granted. `same` compares two payloads.
module _ {M : Type 0} (Granted : Type 0) (same : M → M → Bool) where
  -- WHAT A CALL KNOWS before its next event
  abbrev pub FactsAt : NodeMap M → ℕ → ℕ → Task M → Stage → Type 0
  FactsAt t root pin task TakeRoot = IsFreshly task × (task.last ≡ None)
  FactsAt t root pin task (Read path) = IsFreshly task × OnPath t root pin (key_bytes task) path
  FactsAt t root pin task (Check path) =
      IsFreshly task × OnPath t root pin (key_bytes task) path × Saw Granted same t pin path task
  FactsAt t root pin task (TakeBelow path slot) =
      IsFreshly task × OnPath t root pin (key_bytes task) path
      × LedTo t path.here (key_bytes task) slot × SawNode task.last slot × IsThere t pin slot
      × (slot ≢ root) × (slot ≢ path.here.slot)
  FactsAt t root pin task (CheckAbove path spot fits) =
      IsFreshly task × OnPath t root pin (key_bytes task) path
      × LedTo t path.here (key_bytes task) spot.slot × SawNode task.last spot.slot
      × Known t pin spot × TestOf t spot.slot (key_bytes task) fits × (spot.slot ≢ path.here.slot)
  FactsAt t root pin task (Answer case) = CaseFacts Granted same t root pin task case
  FactsAt t root pin task (Confirm spot) = IsOpen task × Known t pin spot
      × OnWay t spot.slot (key_bytes task) × While t spot (IsConfirmed Granted same task)
  FactsAt t root pin task (Tail tail) = TailFacts Granted same t root pin task tail
  FactsAt t root pin task (Scan course scan) = ScanFacts t root pin task course scan
  FactsAt t root pin task (Seek c seek) = SeekFacts Granted t root pin task c seek
  FactsAt t root pin task (Tidy c tidy) = TidyFacts t pin task c tidy
  FactsAt t root pin task Finish = task.progress ≢ progress.Open

  pub record Facts (t : NodeMap M) (root pin : ℕ) (r : Record M) : Type 0 where
    pub small : key_of r.task.outline < 2 ^ 64
    pub at : FactsAt t root pin r.task r.stage

-- the stated sizes of all nodes in these slots
abbrev pub stored_sizes : {P : Type 0} → List (Option (Stored P)) → ℕ
stored_sizes [] = 0
stored_sizes (None ∷ slots) = stored_sizes slots
stored_sizes (Some n ∷ slots) = stated_size n.node.form + stored_sizes slots

-- A slot with a node is admitted, so that the node can be retired, and one without isn't.
abbrev pub IsAdmitted : {M : Type 0} → Option (PlacedNode M) → Option Life → Type 0
IsAdmitted None life = life ≡ None
IsAdmitted (Some a) life =
    (life ≡ Some InUse) ⊎ ((stamp : Option ℕ) × (a.lifetime ≡ is_retired stamp))

abbrev pub AllAdmitted : {M : Type 0} → NodeMap M → List (ℕ × Life) → Type 0
AllAdmitted t lives = (s : ℕ) → IsAdmitted (t s) (entry_at lives s)

-- THE MACHINE after each event. If `Granted` holds, a share is always granted.
pub record IsSoundWorld {M : Type 0} (Granted : Type 0) (same : M → M → Bool) (w : World M) : Type 0 where
  pub placed : IsPlaced (table_of w) w.root
  pub facts : (id pin : ℕ) (r : Record M) → record_of w id ≡ Some r → pin_of w.pins id ≡ Some pin
      → Facts Granted same (table_of w) w.root pin r
  pub pinned : (id : ℕ) (r : Record M) → record_of w id ≡ Some r → IsSome (pin_of w.pins id)
  pub called : (id pin : ℕ) → pin_of w.pins id ≡ Some pin → IsSome (record_of w id)
  pub numbered : (id : ℕ) (r : Record M) → record_of w id ≡ Some r → id < 2 ^ 64
  pub seated : (id : ℕ) → is_seated w.pins id ≡ true → IsSome (entry_at w.calls id)
  pub before : (id pin : ℕ) → pin_of w.pins id ≡ Some pin → pin ≤ w.pins.count
  pub apart : (i j s : ℕ) (r q : Record M) → record_of w i ≡ Some r → record_of w j ≡ Some q → i ≢ j
      → Holding r.stage s → Holding q.stage s → ⊥
  pub held : (s : ℕ) → NeedsHolder (table_of w) s
      → (id : ℕ) × (r : Record M) × (record_of w id ≡ Some r) × Holding r.stage s
  pub admitted : AllAdmitted (table_of w) w.pins.slots
  pub narrow : (s : ℕ) (a : PlacedNode M) → table_of w s ≡ Some a → s < 2 ^ 64
  pub charged : Covers w.charge (stored_sizes w.slots)
  pub counted : (m : Pairs M) → IsContent (state_of w) m → w.entries ≡ length m
