-- No use after free: a slot that a call touches was named to it, and has been in use since.
use Rattle.std.proofs.Common.{◌≡◌, ◌≢◌, ℕ, ◌+◌, ◌^◌, ◌<◌, Bool, true, false, List, [], ◌∷◌, Option, Some, None, IsSome, ◌⊎◌, inl, inr, refl, sym, subst, ap, ◌∙◌, arith}
use Rattle.std.proofs.lemmas.Bool.Decides.{eqb_tells}
use Rattle.std.proofs.lemmas.Bool.{eq-eqb, ne_eqb, cases_lt, lt-ltb, le-ltb}
use Rattle.spec_map.specs.Map.{Pairs, lookup, Rises}
use Rattle.spec_node.specs.Key.{next_byte}
use Rattle.spec_node.specs.TableNode.{Child}
use Rattle.spec_node.specs.declared.child.Child.TheVariants.{Payload, Node as below_at}
use Rattle.spec_olc.specs.Calls.{Outline, bytes_of, key_of}
use Rattle.spec_olc.specs.Reading.{IsSeenOf, child_for, first_from, bound_at}
use Rattle.spec_olc.specs.Runs.{Transition, read_by, same_number}
use Rattle.spec_olc.specs.Touching.{Names, WasNamedBy, IsLive, MayTouch, Touches, NoUseAfterFree}
use Rattle.spec_olc.specs.declared.trace.Line.{Line}
use Rattle.spec_olc.specs.declared.trace.Line.TheVariants.{Done as Made, Skipped}
use Rattle.spec_olc.specs.declared.types.Env.{Env}
use Rattle.spec_olc.specs.declared.types.Event.{Event}
use Rattle.spec_olc.specs.declared.types.Event.TheVariants.{Start, Step, Reclaim}
use Rattle.spec_olc.specs.declared.types.Kind.{Kind}
use Rattle.spec_olc.specs.declared.types.Kind.TheVariants as kind
use Rattle.spec_olc.specs.declared.types.Op.TheVariants.{Range}
use Rattle.spec_olc.specs.declared.types.Outcome.{Outcome}
use Rattle.spec_olc.specs.declared.types.Report.{Report}
use Rattle.spec_olc.specs.declared.types.Seen.{Seen}
use Rattle.olc_words.specs.Epoch.{pin_of}
use Rattle.olc_state.specs.declared.cleanup.Cleanup.{Cleanup}
use Rattle.olc_state.specs.declared.cleanup.Seek.{Seek as AnySeek}
use Rattle.olc_state.specs.declared.cleanup.Seek.TheVariants as seek
use Rattle.olc_state.specs.declared.cleanup.Tidy.{Tidy as AnyTidy}
use Rattle.olc_state.specs.declared.cleanup.Tidy.TheVariants as tidy
use Rattle.olc_state.specs.declared.stage.Path.{Path}
use Rattle.olc_state.specs.declared.stage.Record.{Record}
use Rattle.olc_state.specs.declared.stage.Spot.{Spot}
use Rattle.olc_state.specs.declared.stage.Stage.{Stage}
use Rattle.olc_state.specs.declared.stage.Stage.TheVariants.{TakeRoot, Read, Check, TakeBelow, CheckAbove, Answer, Confirm, Tail, Scan, Seek, Tidy, Finish}
use Rattle.olc_state.specs.declared.stage.Task.{Task}
use Rattle.olc_state.specs.declared.scan.RangeProgress.{RangeProgress}
use Rattle.olc_state.specs.declared.scan.Scan.{Scan as AnyScan}
use Rattle.olc_state.specs.declared.scan.Scan.TheVariants as scan
use Rattle.olc_state.specs.declared.tail.Case.{Case}
use Rattle.olc_state.specs.declared.tail.Case.TheVariants as case
use Rattle.olc_state.specs.declared.tail.NodePair.{NodePair}
use Rattle.olc_state.specs.declared.tail.Tail.{Tail as AnyTail}
use Rattle.olc_state.specs.declared.tail.Tail.TheVariants.{Upgrade, Write, MakeLeaf, Link, Unlock, UpgradeAbove, UpgradeBelow, MakeLeafBelow, Grow, MakeMiddle, Replace, Insert as Insertion, Detach, Obsolete, UnlockBelow}
use Rattle.olc_state.specs.inner.Tables.{IsIn, IsBelow, IsPlaced, IsSafe, Known, IsThere, CameFrom, OnPath, Guarantees}
use Rattle.olc_state.specs.inner.CleanupFacts.{SawBelow, SeekFacts, TidyFacts}
use Rattle.olc_state.specs.inner.CleanupStages.{named_seeking, named_tidying}
use Rattle.olc_state.specs.inner.ScanSpots.{named_on}
use Rattle.olc_state.specs.inner.Scans.{BeginsAt, ScanFacts, SawFirst}
use Rattle.olc_state.specs.inner.Tasks.{SawNode, Saw, key_bytes}
use Rattle.olc_state.specs.inner.Facts.{named_at, Facts, FactsAt, IsSoundWorld}
use Rattle.olc_state.specs.inner.Shown.{shown, state_of}
use Rattle.olc_state.specs.inner.TailFacts.{AreHeld, CaseFacts, IsHeld, IsOut, TailFacts, path_to}
use Rattle.olc_state.specs.inner.Tails.{above_slots, path_slots, both_slots, case_slots, named_in}
use Rattle.olc_state.specs.inner.Turns.{NodeStays, MayFollow, IsCourse, IsTurn}
use Rattle.olc_state.specs.inner.World.{World, PlacedNode, NodeMap, table_of, entry, record_of}
use Rattle.olc_state.proofs.States.{shown_node}
use Rattle.olc_state.proofs.Ways.{known_linked}
use Rattle.olc_replay.specs.inner.Played.{Plays, Move, transition_of, transitions_of, AreMoves}
use Rattle.olc_replay.proofs.Flying.{in_flight, small_at}
use Rattle.olc_replay.proofs.Playing.{sound_next}
use Rattle.olc_state.proofs.Reaching.{lookup-inside}
use Rattle.olc_state.proofs.Options.{none_some, some_same}
use Rattle.olc_state.proofs.Unlike.{false_true}

-- a child that a Read finds is stored under some byte
first_entry : {C : Type 0} (a b byte : ℕ) (es : List (ℕ × C)) (c : C) → Rises a b es → first_from byte es ≡ Some c → (x : ℕ) × (lookup es x ≡ Some c)
first_entry a b byte [] c rises e = absurd (none_some c e)
first_entry {C} a b byte (x ∷ es) c rises e =
    elim (cases_lt x.0 byte) [
      | inl less ↦
          let next : first_from byte es ≡ Some c = subst (λ (o : Option C). o ≡ Some c) (rw (lt-ltb x.0 byte less) refl) e in
          let f = first_entry (x.0 + 1) b byte es c rises.2 next in
          let inside = lookup-inside (x.0 + 1) b es f.0 c rises.2 f.1 in
          let off : x.0 ≢ f.0 = omega (arith, inside.0) in
          (f.0, rw (ne_eqb x.0 f.0 off) f.1)
      | inr more ↦ (x.0, rw (eq-eqb x.0 x.0 refl) (subst (λ (o : Option C). o ≡ Some c) (rw (le-ltb x.0 byte more) refl) e))
    ]

child_entry : (outline : Outline) (cursor : ℕ) (a : PlacedNode ℕ) (c : Child ℕ) → Rises 0 256 a.node.children → child_for outline cursor a.node ≡ Some c → (x : ℕ) × (entry a x ≡ Some c)
child_entry (Range from to n) cursor a c rises e = first_entry 0 256 (bound_at cursor a.node.prefix) a.node.children c rises e
child_entry outline cursor a c rises e = (next_byte a.node.prefix (bytes_of cursor), e)

module _ (t : NodeMap ℕ) (root pin : ℕ) (k : List ℕ) where
  known_there : (s : Spot) (slot : ℕ) → Known t pin s → s.slot ≡ slot → IsThere t pin slot
  known_there s slot kn e = record { node = kn.node; here = subst (λ (z : ℕ). t z ≡ Some kn.node) e kn.here; safe = kn.safe }

  above_there : (above : Option Spot) (at slot : ℕ) → CameFrom t root pin k above at → IsIn slot (above_slots above) → IsThere t pin slot
  above_there None at slot came h = absurd h
  above_there (Some p) at slot came h = elim h [ inl e ↦ known_there p slot came.0 e | inr never ↦ absurd never ]

  path_there : (path : Path) (slot : ℕ) → OnPath t root pin k path → IsIn slot (path_slots path) → IsThere t pin slot
  path_there path slot on h =
      elim h [ inl e ↦ known_there path.here slot on.here e | inr more ↦ above_there path.above path.here.slot slot on.above more ]

module _ (t : NodeMap ℕ) (pin : ℕ) where
  -- a node that a call holds or has taken out
  held_there : (s : Spot) → IsHeld t s → IsThere t pin s.slot
  held_there s h = record { node = h.node; here = h.linked.here; safe = subst (λ z. IsSafe pin z) (sym h.linked.lifetime) tt }

  out_there : (s : Spot) → IsOut t s → IsThere t pin s.slot
  out_there s h = record { node = h.node; here = h.here; safe = subst (λ z. IsSafe pin z) (sym h.lifetime) tt }

  still_there : (s : Spot) → Known t pin s → IsThere t pin s.slot
  still_there s kn = record { node = kn.node; here = kn.here; safe = kn.safe }

  one_there : (one slot : ℕ) → IsThere t pin one → IsIn slot (one ∷ []) → IsThere t pin slot
  one_there one slot there h = elim h [ inl e ↦ subst (λ (z : ℕ). IsThere t pin z) e there | inr never ↦ absurd never ]

  two_there : (pair : NodePair) (slot : ℕ) → IsThere t pin pair.here.slot → IsThere t pin pair.above.slot → IsIn slot (both_slots pair) → IsThere t pin slot
  two_there pair slot here above h = elim h [ inl e ↦ subst (λ (z : ℕ). IsThere t pin z) e here | inr more ↦ one_there pair.above.slot slot above more ]

  both_there : (k : List ℕ) (pair : NodePair) (slot : ℕ) → AreHeld t pair k → IsIn slot (both_slots pair) → IsThere t pin slot
  both_there k pair slot h = two_there pair slot (held_there pair.here h.here) (held_there pair.above h.above)

  tail_there : (root : ℕ) (task : Task ℕ) (tail : AnyTail) (slot : ℕ) → TailFacts (Unit {0}) same_number t root pin task tail → IsIn slot (named_in tail) → IsThere t pin slot
  tail_there root task (Upgrade path small) slot f h = path_there t root pin (key_bytes task) path slot f.1 h
  tail_there root task (Write spot) slot f h = one_there spot.slot slot (held_there spot f.held) h
  tail_there root task (MakeLeaf spot) slot f h = one_there spot.slot slot (held_there spot f.held) h
  tail_there root task (Link spot leaf) slot f h = one_there spot.slot slot (held_there spot f.0.held) h
  tail_there root task (Unlock spot left) slot f h = one_there spot.slot slot (held_there spot f.0) h
  tail_there root task (UpgradeAbove pair large) slot f h = two_there pair slot (still_there pair.here f.0.here) (still_there pair.above f.1) h
  tail_there root task (UpgradeBelow pair large) slot f h = two_there pair slot (still_there pair.here f.0.here) (held_there pair.above f.1) h
  tail_there root task (MakeLeafBelow pair large) slot f h = both_there (key_bytes task) pair slot f.0.held h
  tail_there root task (Grow pair leaf) slot f h = both_there (key_bytes task) pair slot f.0.held h
  tail_there root task (MakeMiddle pair leaf) slot f h = both_there (key_bytes task) pair slot f.0.held h
  tail_there root task (Replace pair copy leaf) slot f h = both_there (key_bytes task) pair slot f.0.held h
  tail_there root task (Insertion pair middle leaf) slot f h = both_there (key_bytes task) pair slot f.0.held h
  tail_there root task (Detach pair) slot f h = both_there (key_bytes task) pair slot f.held h
  tail_there root task (Obsolete pair left) slot f h = two_there pair slot (out_there pair.here f.2) (held_there pair.above f.1) h
  tail_there root task (UnlockBelow pair) slot f h = two_there pair slot (held_there pair.here f.2) (held_there pair.above f.1) h

  case_there : (root : ℕ) (task : Task ℕ) (case : Case) (slot : ℕ) → CaseFacts (Unit {0}) same_number t root pin task case → IsIn slot (case_slots case) → IsThere t pin slot
  case_there root task (case.Present pair only) slot f h = path_there t root pin (key_bytes task) (path_to pair) slot f.1 h
  case_there root task (case.Small path small) slot f h = path_there t root pin (key_bytes task) path slot f.1 h
  case_there root task (case.Large pair large) slot f h = two_there pair slot (still_there pair.here f.2) (still_there pair.above f.4) h

  -- a call that cleans up
  seek_there : (root : ℕ) (task : Task ℕ) (c : Cleanup) (at : AnySeek) (slot : ℕ) → SeekFacts (Unit {0}) t root pin task c at → IsIn slot (named_seeking at) → IsThere t pin slot
  seek_there root task c seek.TakeRoot slot f h = absurd h
  seek_there root task c (seek.Read path) slot f h = path_there t root pin (key_bytes task) path slot f.on h
  seek_there root task c (seek.Check path) slot f h = path_there t root pin (key_bytes task) path slot f.0.on h
  seek_there root task c (seek.TakeBelow path below) slot f h =
      elim h [ inl e ↦ subst (λ (z : ℕ). IsThere t pin z) e f.2 | inr more ↦ path_there t root pin (key_bytes task) path slot f.0.on more ]
  seek_there root task c (seek.CheckAbove path spot fits) slot f h =
      elim h [ inl e ↦ known_there t root pin (key_bytes task) spot slot f.2 e | inr more ↦ path_there t root pin (key_bytes task) path slot f.0.on more ]

  tidy_there : (task : Task ℕ) (c : Cleanup) (at : AnyTidy) (slot : ℕ) → TidyFacts t pin task c at → IsIn slot (named_tidying at) → IsThere t pin slot
  tidy_there task c (tidy.UpgradeAbove pair) slot f h = two_there pair slot (still_there pair.here f.4) (still_there pair.above f.2) h
  tidy_there task c (tidy.UpgradeBelow pair) slot f h = two_there pair slot (still_there pair.here f.3) (held_there pair.above f.2.0) h
  tidy_there task c (tidy.TakeAway pair) slot f h = both_there (key_bytes task) pair slot f.0.held h
  tidy_there task c (tidy.MakeSmaller pair) slot f h = both_there (key_bytes task) pair slot f.0.held h
  tidy_there task c (tidy.PutSmaller pair copy) slot f h = both_there (key_bytes task) pair slot f.0.held h
  tidy_there task c (tidy.UnlockBelow pair) slot f h = both_there (key_bytes task) pair slot f.0.held h

  -- a node that a range is at, and one that it goes to
  two_spots : (one other : Spot) (slot : ℕ) → Known t pin one → IsThere t pin other.slot → IsIn slot (other.slot ∷ one.slot ∷ []) → IsThere t pin slot
  two_spots one other slot kn there h =
      elim h [ inl e ↦ subst (λ (z : ℕ). IsThere t pin z) e there | inr more ↦ one_there one.slot slot (still_there one kn) more ]

  scan_there : (root : ℕ) (task : Task ℕ) (course : RangeProgress) (at : AnyScan) (slot : ℕ) → ScanFacts t root pin task course at → IsIn slot (named_on at) → IsThere t pin slot
  scan_there root task course scan.TakeRoot slot f h = absurd h
  scan_there root task course (scan.Read spot) slot f h = one_there spot.slot slot (still_there spot f.here) h
  scan_there root task course (scan.Check spot) slot f h = one_there spot.slot slot (still_there spot f.0.here) h
  scan_there root task course (scan.TakeBelow spot below) slot f h =
      elim h [ inl e ↦ subst (λ (z : ℕ). IsThere t pin z) e f.2 | inr more ↦ one_there spot.slot slot (still_there spot f.0.here) more ]
  scan_there root task course (scan.CheckAbove spot below from) slot f h = two_spots spot below slot f.0.here (still_there below f.2) h
  scan_there root task course scan.Finish slot f h = absurd h

-- if each share is granted, each child is seen as it is
seen_granted : (c seen : Option (Child ℕ)) → IsSeenOf (Unit {0}) c seen → c ≡ seen
seen_granted None seen is = sym is
seen_granted (Some (Payload v)) seen is = sym (is tt)
seen_granted (Some (below_at s)) seen is = sym is

module _ (t : NodeMap ℕ) (root pin : ℕ) (r : Record ℕ) (placed : IsPlaced t root) where
  abbrev key : List ℕ
  key = bytes_of (key_of r.task.outline)

  named_there : (stage : Stage) (slot : ℕ) → FactsAt (Unit {0}) same_number t root pin r.task stage → IsIn slot (named_at stage) → IsThere t pin slot
  named_there TakeRoot slot f h = absurd h
  named_there (Read path) slot f h = path_there t root pin key path slot f.1 h
  named_there (Check path) slot f h = path_there t root pin key path slot f.1 h
  named_there (TakeBelow path below) slot f h =
      elim h [ inl e ↦ subst (λ (z : ℕ). IsThere t pin z) e f.4 | inr more ↦ path_there t root pin key path slot f.1 more ]
  named_there (CheckAbove path spot fits) slot f h =
      elim h [ inl e ↦ known_there t root pin key spot slot f.4 e | inr more ↦ path_there t root pin key path slot f.1 more ]
  named_there (Answer case) slot f h = case_there t pin root r.task case slot f h
  named_there (Confirm spot) slot f h = one_there t pin spot.slot slot (still_there t pin spot f.1) h
  named_there (Tail tail) slot f h = tail_there t pin root r.task tail slot f h
  named_there (Scan course at) slot f h = scan_there t pin root r.task course at slot f h
  named_there (Seek c at) slot f h = seek_there t pin root r.task c at slot f h
  named_there (Tidy c at) slot f h = tidy_there t pin r.task c at slot f h
  named_there Finish slot f h = absurd h

  -- the slot that a Read has reported is in use, if the word of the node that was read is still the
  -- remembered one
  follow_there : (stage : Stage) (slot : ℕ) → FactsAt (Unit {0}) same_number t root pin r.task stage → MayFollow t stage r.task.last slot → IsThere t pin slot
  follow_there (Check path) slot f h =
      let s : Saw (Unit {0}) same_number t pin path r.task = f.2 in
      let one_seen : s.seen ≡ h.0.seen = some_same s.seen h.0.seen (sym s.is ∙ h.0.is) in
      let child : s.seen.child ≡ Some (below_at slot) = ap (λ (z : Seen ℕ). z.child) one_seen ∙ h.0.child in
      let at_key : NodeStays t path.here = h.1 in
      let linked = known_linked t root key placed pin path.here at_key.node f.1.here at_key.here at_key.word in
      let at = child_entry r.task.outline (key_of r.task.outline) at_key.node (below_at slot) (placed.ordered path.here.slot at_key.node linked)
      ((s.agrees at_key.node at_key.here at_key.word).below slot child) in
      let below : IsBelow t at_key.node at.0 slot = placed.below path.here.slot at_key.node linked at.0 slot at.1 in
      record { node = below.node; here = below.linked.here; safe = subst (λ z. IsSafe pin z) (sym below.linked.lifetime) tt }
  follow_there (Scan course (scan.Check spot)) slot f h =
      let s : SawFirst t r.task course spot = f.1 in
      let one_seen : s.seen ≡ h.0.seen = some_same s.seen h.0.seen (sym s.is ∙ h.0.is) in
      let child : s.seen.child ≡ Some (below_at slot) = ap (λ (z : Seen ℕ). z.child) one_seen ∙ h.0.child in
      let at_key : NodeStays t spot = h.1 in
      let linked = known_linked t root key placed pin spot at_key.node f.0.here at_key.here at_key.word in
      let at = first_entry 0 256 (bound_at course.cursor at_key.node.node.prefix) at_key.node.node.children (below_at slot) (placed.ordered spot.slot at_key.node linked)
      (sym (s.at_key at_key.node at_key.here at_key.word).0 ∙ child) in
      let below : IsBelow t at_key.node at.0 slot = placed.below spot.slot at_key.node linked at.0 slot at.1 in
      record { node = below.node; here = below.linked.here; safe = subst (λ z. IsSafe pin z) (sym below.linked.lifetime) tt }
  follow_there (Seek c (seek.Check path)) slot f h =
      let s : SawBelow (Unit {0}) t path r.task = f.1 in
      let one_seen : s.seen ≡ h.0.seen = some_same s.seen h.0.seen (sym s.is ∙ h.0.is) in
      let child : s.seen.child ≡ Some (below_at slot) = ap (λ (z : Seen ℕ). z.child) one_seen ∙ h.0.child in
      let at_key : NodeStays t path.here = h.1 in
      let linked = known_linked t root key placed pin path.here at_key.node f.0.on.here at_key.here at_key.word in
      let at : entry at_key.node (next_byte at_key.node.node.prefix key) ≡ Some (below_at slot) = seen_granted (entry at_key.node (next_byte at_key.node.node.prefix key)) s.seen.child (s.child at_key.node at_key.here at_key.word) ∙ child in
      let below : IsBelow t at_key.node (next_byte at_key.node.node.prefix key) slot = placed.below path.here.slot at_key.node linked (next_byte at_key.node.node.prefix key) slot at in
      record { node = below.node; here = below.linked.here; safe = subst (λ z. IsSafe pin z) (sym below.linked.lifetime) tt }
  follow_there stage slot f h = absurd h

-- a call that begins trusts no slot
begun_trusts : (outline : Outline) (at : Stage) → BeginsAt outline at → (t : NodeMap ℕ) (last : Option (Seen ℕ)) (slot : ℕ) → IsIn slot (named_at at) ⊎ MayFollow t at last slot → ⊥
begun_trusts (Range a b n) at first t last slot h =
    elim first [
      | inl top ↦ elim (subst (λ (s : Stage). IsIn slot (named_at s) ⊎ MayFollow t s last slot) top h) [ inl named ↦ named | inr follows ↦ follows ]
      | inr over ↦ elim (subst (λ (s : Stage). IsIn slot (named_at s) ⊎ MayFollow t s last slot) over.0 h) [ inl named ↦ named | inr follows ↦ follows ]
    ]
begun_trusts outline at first t last slot h = elim (subst (λ (s : Stage). IsIn slot (named_at s) ⊎ MayFollow t s last slot) first h) [ inl named ↦ named | inr follows ↦ follows ]

-- the slots that a call may touch next, or after its next event
abbrev pub Trusts : NodeMap ℕ → Record ℕ → ℕ → Type 0
Trusts t r slot = IsIn slot (named_at r.stage) ⊎ MayFollow t r.stage r.task.last slot

in_use : (w : World ℕ) (id : ℕ) (r : Record ℕ) (slot : ℕ) → IsSoundWorld (Unit {0}) same_number w → id < 2 ^ 64 → record_of w id ≡ Some r → Trusts (table_of w) r slot → IsSome (lookup (state_of w).nodes slot)
in_use w id r slot sound small found h =
    let p = in_flight w id r sound small found in
    let facts : Facts (Unit {0}) same_number (table_of w) w.root p.0 r = sound.facts id p.0 r found p.1 in
    let there : IsThere (table_of w) p.0 slot = elim h [
      | inl named ↦ named_there (table_of w) w.root p.0 r sound.placed r.stage slot facts.at named
      | inr follows ↦ follow_there (table_of w) w.root p.0 r sound.placed r.stage slot facts.at follows
    ] in
    subst (λ x. IsSome x) (sym (shown_node w slot ∙ ap shown there.here)) refl

-- A node that a call may follow after another's event could be followed before: words only grow.
module _ (t t' : NodeMap ℕ) (root pin : ℕ) (Mine : ℕ → Type 0) (leaves : Guarantees t t' Mine pin) (r : Record ℕ) where
  stayed : (spot : Spot) → Known t pin spot → NodeStays t' spot → NodeStays t spot
  stayed spot kn s =
      let m = leaves spot.slot kn.node kn.here kn.safe in
      let same : s.node ≡ m.node = some_same s.node m.node (sym s.here ∙ m.here) in
      let now : m.node.word ≡ spot.word = sym (ap (λ (a : PlacedNode ℕ). a.word) same) ∙ s.word in
      record { node = kn.node; here = kn.here; word = omega (arith, kn.word, m.kept.word, now) }

  followed : (stage : Stage) (slot : ℕ) → FactsAt (Unit {0}) same_number t root pin r.task stage → MayFollow t' stage r.task.last slot → MayFollow t stage r.task.last slot
  followed (Check path) slot f h = (h.0, stayed path.here f.1.here h.1)
  followed (Scan course (scan.Check spot)) slot f h = (h.0, stayed spot f.0.here h.1)
  followed (Seek c (seek.Check path)) slot f h = (h.0, stayed path.here f.0.on.here h.1)
  followed stage slot f h = h

same_follows : (t t' : NodeMap ℕ) (same : (s : ℕ) → t' s ≡ t s) (stage : Stage) (last : Option (Seen ℕ)) (slot : ℕ) → MayFollow t' stage last slot → MayFollow t stage last slot
same_follows t t' same (Check path) last slot h = (h.0, record { node = h.1.node; here = sym (same path.here.slot) ∙ h.1.here; word = h.1.word })
same_follows t t' same (Scan course (scan.Check spot)) last slot h = (h.0, record { node = h.1.node; here = sym (same spot.slot) ∙ h.1.here; word = h.1.word })
same_follows t t' same (Seek c (seek.Check path)) last slot h = (h.0, record { node = h.1.node; here = sym (same path.here.slot) ∙ h.1.here; word = h.1.word })
same_follows t t' same stage last slot h = h

-- a slot that may be followed was seen
saw_of : (t : NodeMap ℕ) (stage : Stage) (last : Option (Seen ℕ)) (slot : ℕ) → MayFollow t stage last slot → SawNode last slot
saw_of t (Check path) last slot h = h.0
saw_of t (Scan course (scan.Check spot)) last slot h = h.0
saw_of t (Seek c (seek.Check path)) last slot h = h.0
saw_of t stage last slot h = absurd h

-- the slot is the root's, or live for the call by the events before
abbrev pub Told : ℕ → List Transition → ℕ → ℕ → Type 0
Told root past id slot = (slot ≡ root) ⊎ IsLive id slot past

-- each slot that a call trusts is the root's or live for it
abbrev pub IsVouched : ℕ → World ℕ → List Transition → Type 0
IsVouched root w past = (id : ℕ) → id < 2 ^ 64 → (r : Record ℕ) → record_of w id ≡ Some r → (slot : ℕ) → Trusts (table_of w) r slot → Told root past id slot

module _ (root : ℕ) (w : World ℕ) (past : List Transition) (sound : IsSoundWorld (Unit {0}) same_number w) (at : w.root ≡ root) (vouched : IsVouched root w past) where
  -- a slot that was live before is live after one more event
  longer : (x : Transition) (id slot : ℕ) → IsSome (lookup x.after.nodes slot) → (IsLive id slot past → WasNamedBy id slot x.event x.line (IsLive id slot past)) → Told root past id slot → Told root (x ∷ past) id slot
  longer x id slot used leaves h = elim h [ inl e ↦ inl e | inr v ↦ inr (used, leaves v) ]

  -- what a call trusts after the event of another, it trusted before
  trusted : (after : World ℕ) (o : ℕ) (r : Record ℕ) (slot : ℕ) (Mine : ℕ → Type 0) → o < 2 ^ 64 → record_of w o ≡ Some r
      → ((pin : ℕ) → pin_of w.pins o ≡ Some pin → Guarantees (table_of w) (table_of after) Mine pin) → Trusts (table_of after) r slot → Trusts (table_of w) r slot
  trusted after o r slot Mine narrow was leaves h =
      let p = in_flight w o r sound narrow was in
      let facts : Facts (Unit {0}) same_number (table_of w) w.root p.0 r = sound.facts o p.0 r was p.1 in
      elim h [
        | inl named ↦ inl named
        | inr follows ↦ inr (followed (table_of w) (table_of after) w.root p.0 Mine (leaves p.0 p.1) r r.stage slot facts.at follows)
      ]

  module _ (id : ℕ) (env : Env ℕ) (report : Report) (out : Outcome ℕ) (seen : Option (Seen ℕ)) (after : World ℕ) (content : Pairs ℕ)
      (turn : IsTurn (Unit {0}) same_number w after id env report out) (is : seen ≡ read_by report.kind (lookup (state_of after).calls id)) where
    abbrev now : Transition
    now = record { event = Step id env; line = Made report out seen; after = state_of after; content = content }

    small : id < 2 ^ 64
    small = small_at w id turn.step.call turn.step.in_flight

    -- what the call itself trusted is the root's or live for it
    own : (slot : ℕ) → (slot ≡ w.root) ⊎ Trusts (table_of w) turn.call slot → Told root past id slot
    own slot h = elim h [ inl e ↦ inl (e ∙ at) | inr t ↦ vouched id small turn.call turn.found slot t ]

    -- the Read names what it saw
    read_names : (next : Record ℕ) (slot : ℕ) → record_of after id ≡ Some next → report.kind ≡ kind.Read → SawNode next.task.last slot → Names report.kind report.slot seen slot
    read_names next slot found done saw =
        let f = in_flight after id next turn.after small found in
        let e : seen ≡ Some saw.seen = is ∙ (ap (λ k. read_by k (lookup (state_of after).calls id)) done ∙ (ap (read_by kind.Read) f.2 ∙ saw.is)) in
        subst (λ (k : Kind). Names k report.slot seen slot) (sym done) (saw.seen, e, saw.child)

    goes_vouched : (next : Record ℕ) (slot : ℕ) → record_of after id ≡ Some next → Trusts (table_of after) next slot → Told root (now ∷ past) id slot
    goes_vouched next slot found h =
        let used : IsSome (lookup (state_of after).nodes slot) = in_use after id next slot turn.after small found h in
        let course : IsCourse (table_of w) (table_of after) w.root turn.call env next report out = turn.course next found in
        elim h [
          | inl named ↦ longer now id slot used (λ v. inr v) (own slot (course.names slot named))
          | inr follows ↦ inr (used, inl (refl, read_names next slot found (course.reads slot follows) (saw_of (table_of after) next.stage next.task.last slot follows)))
        ]

    stays_vouched : (o : ℕ) (r : Record ℕ) (slot : ℕ) → o < 2 ^ 64 → o ≢ id → record_of after o ≡ Some r → Trusts (table_of after) r slot → Told root (now ∷ past) o slot
    stays_vouched o r slot narrow off found h =
        let was : record_of w o ≡ Some r = sym (turn.others o off) ∙ found in
        let before : Trusts (table_of w) r slot = trusted after o r slot _ narrow was (λ pin at. turn.leaves pin (sound.before o pin at)) h in
        longer now o slot (in_use after o r slot turn.after narrow found h) (λ v. inr v) (vouched o narrow r was slot before)

    pub turn_vouched : IsVouched root after (now ∷ past)
    turn_vouched o narrow r found slot h =
        elim (eqb_tells o id) [
          | inl same ↦ subst (λ (z : ℕ). Told root (now ∷ past) z slot) (sym same.1) (goes_vouched r slot (subst (λ (z : ℕ). record_of after z ≡ Some r) same.1 found) h)
          | inr off ↦ stays_vouched o r slot narrow off.1 found h
        ]

    -- the slot that it touches is the root's or live for it
    touched_at : (next : Option (Record ℕ)) → record_of after id ≡ next → report.kind ≢ kind.Make → (slot : ℕ) → report.slot ≡ Some slot → Told root past id slot
    touched_at (Some next) e other slot t =
        let course : IsCourse (table_of w) (table_of after) w.root turn.call env next report out = turn.course next e in
        own slot (elim (course.touches slot t other) [ inl top ↦ inl top | inr named ↦ inr (inl named) ])
    touched_at None e other slot t = absurd (none_some slot (sym (turn.ends e).1 ∙ t))

    pub turn_touches : report.kind ≢ kind.Make → (slot : ℕ) → report.slot ≡ Some slot → Told root past id slot
    turn_touches other slot t = touched_at (record_of after id) refl other slot t

  -- a skipped event changes nothing
  skipped_vouched : (event : Event ℕ) (after : World ℕ) (content : Pairs ℕ) → IsSoundWorld (Unit {0}) same_number after → after ≡ w → ((o slot : ℕ) → IsLive o slot past → WasNamedBy o slot event Skipped (IsLive o slot past))
      → IsVouched root after (record { event = event; line = Skipped; after = state_of after; content = content } ∷ past) × (after.root ≡ root)
  skipped_vouched event after content next same leaves = (
    (λ o narrow r found slot t. longer (record { event = event; line = Skipped; after = state_of after; content = content }) o slot (in_use after o r slot next narrow found t) (leaves o slot)
        (subst (λ (z : World ℕ). IsVouched root z past) (sym same) vouched o narrow r found slot t)),
    ap (λ (z : World ℕ). z.root) same ∙ at,
  )

  -- after any event
  vouched_next : (event : Event ℕ) (line : Line) (after : World ℕ) (content : Pairs ℕ) → IsSoundWorld (Unit {0}) same_number after → Plays w event line after
      → IsVouched root after (record { event = event; line = line; after = state_of after; content = content } ∷ past) × (after.root ≡ root)
  vouched_next (Start id op) Skipped after content next p = skipped_vouched (Start id op) after content next p.1 (λ o slot v. v)
  vouched_next (Step id env) Skipped after content next p = skipped_vouched (Step id env) after content next p.1 (λ o slot v. v)
  vouched_next (Reclaim s) Skipped after content next p = skipped_vouched (Reclaim s) after content next p.1 (λ o slot v. v)
  vouched_next (Start id op) (Made report out seen) after content next p = (
    (λ o narrow r found slot t.
        elim (eqb_tells o id) [
          | inl same ↦
              let is : p.0.record_is ≡ r = some_same p.0.record_is r (sym p.0.here ∙ subst (λ (z : ℕ). record_of after z ≡ Some r) same.1 found) in
              let first : BeginsAt r.task.outline r.stage = subst (λ (q : Record ℕ). BeginsAt q.task.outline q.stage) is p.0.stage in
              absurd (begun_trusts r.task.outline r.stage first (table_of after) r.task.last slot t)
          | inr off ↦
              let before : Trusts (table_of w) r slot = elim t [
                | inl named ↦ inl named
                | inr follows ↦ inr (same_follows (table_of w) (table_of after) p.0.nodes r.stage r.task.last slot follows)
              ] in
              longer (record { event = Start id op; line = Made report out seen; after = state_of after; content = content }) o slot (in_use after o r slot next narrow found t)
              (λ v. ((λ e. off.1 (sym e)), v)) (vouched o narrow r (sym (p.0.others o off.1) ∙ found) slot before)
        ]),
    p.0.root ∙ at,
  )
  vouched_next (Step id env) (Made report out seen) after content next p = (turn_vouched id env report out seen after content p.0 p.1, p.0.root ∙ at)
  vouched_next (Reclaim s) (Made report out seen) after content next p = (
    (λ o narrow r found slot t.
        let was : record_of w o ≡ Some r = sym (p.0.calls o) ∙ found in
        let before : Trusts (table_of w) r slot = trusted after o r slot _ narrow was (λ pin pinned. p.0.leaves o pin pinned) t in
        longer (record { event = Reclaim s; line = Made report out seen; after = state_of after; content = content }) o slot (in_use after o r slot next narrow found t) (λ v. v)
        (vouched o narrow r was slot before)),
    p.0.root ∙ at,
  )

abbrev is_make : Kind → Bool
is_make kind.Make = true
is_make _ = false

not_make : (k : Kind) → is_make k ≡ false → k ≢ kind.Make
not_make k e is = false_true (sym e ∙ ap is_make is)

may_touch : (root id : ℕ) (past : List Transition) (done : Kind) (slot : Option ℕ) → (done ≢ kind.Make → (s : ℕ) → slot ≡ Some s → Told root past id s) → MayTouch root id past done slot
may_touch root id past kind.Start (Some s) known = known (not_make kind.Start refl) s refl
may_touch root id past kind.Take (Some s) known = known (not_make kind.Take refl) s refl
may_touch root id past kind.Check (Some s) known = known (not_make kind.Check refl) s refl
may_touch root id past kind.Read (Some s) known = known (not_make kind.Read refl) s refl
may_touch root id past kind.Upgrade (Some s) known = known (not_make kind.Upgrade refl) s refl
may_touch root id past kind.Make slot known = tt
may_touch root id past kind.Write (Some s) known = known (not_make kind.Write refl) s refl
may_touch root id past kind.Obsolete (Some s) known = known (not_make kind.Obsolete refl) s refl
may_touch root id past kind.Unlock (Some s) known = known (not_make kind.Unlock refl) s refl
may_touch root id past kind.Answer (Some s) known = known (not_make kind.Answer refl) s refl
may_touch root id past kind.Finish (Some s) known = known (not_make kind.Finish refl) s refl
may_touch root id past kind.Reclaim (Some s) known = known (not_make kind.Reclaim refl) s refl
may_touch root id past done None known = tt

touches_next : (root : ℕ) (w after : World ℕ) (past : List Transition) (event : Event ℕ) (line : Line) (content : Pairs ℕ) → IsSoundWorld (Unit {0}) same_number w → w.root ≡ root → IsVouched root w past
    → Plays w event line after → Touches root past event line
touches_next root w after past (Start id op) Skipped content sound at vouched p = tt
touches_next root w after past (Step id env) Skipped content sound at vouched p = tt
touches_next root w after past (Reclaim slot) Skipped content sound at vouched p = tt
touches_next root w after past (Start id op) (Made report out seen) content sound at vouched p = tt
touches_next root w after past (Reclaim slot) (Made report out seen) content sound at vouched p = tt
touches_next root w after past (Step id env) (Made report out seen) content sound at vouched p =
    may_touch root id past report.kind report.slot (turn_touches root w past sound at vouched id env report out seen after content p.0 p.1)

all_touch_on : (root : ℕ) (w : World ℕ) (m : Pairs ℕ) (past : List Transition) (xs : List Move) (last : World ℕ) (n : Pairs ℕ) → IsSoundWorld (Unit {0}) same_number w → w.root ≡ root → IsVouched root w past
    → AreMoves w m xs last n → NoUseAfterFree root past (transitions_of xs)
all_touch_on root w m past [] last n sound at vouched are = tt
all_touch_on root w m past (x ∷ xs) last n sound at vouched are =
    let next : IsSoundWorld (Unit {0}) same_number x.inside = sound_next w x.inside x.event x.line sound are.0.plays in
    let more = vouched_next root w past sound at vouched x.event x.line x.inside x.content next are.0.plays in (
      touches_next root w x.inside past x.event x.line x.content sound at vouched are.0.plays,
      all_touch_on root x.inside x.content (transition_of x ∷ past) xs last n next more.1 more.0 are.1,
    )

-- In a run from a machine without calls there is no use after free.
pub all_touch : (root : ℕ) (first : World ℕ) (m : Pairs ℕ) (xs : List Move) (last : World ℕ) (n : Pairs ℕ) → IsSoundWorld (Unit {0}) same_number first → first.root ≡ root
    → ((id : ℕ) → id < 2 ^ 64 → record_of first id ≡ None) → AreMoves first m xs last n → NoUseAfterFree root [] (transitions_of xs)
all_touch root first m xs last n sound at none are =
    all_touch_on root first m [] xs last n sound at (λ id small r found. absurd (none_some r (sym (none id small) ∙ found))) are
