-- The call after a Take or a Check on the way down of a cleanup.
use Rattle.std.proofs.Common.{◌≡◌, ◌≢◌, ℕ, ◌<◌, ◌≤◌, ◌^◌, Bool, true, false, IsTrue, List, [], length, Option, Some, None, IsSome, ◌↔◌, ◌⊎◌, inl, inr, refl, sym, subst, ap, ◌∙◌, arith}
use Rattle.std.proofs.lemmas.Bool.{cases_lt}
use Rattle.spec_map.proofs.MapLaws.{lookup-put_same}
use Rattle.spec_map.specs.Map.{lookup}
use Rattle.spec_node.specs.Key.{Begins}
use Rattle.spec_node.specs.TableNode.{Child}
use Rattle.spec_node.specs.declared.child.Child.TheVariants.{Payload, Node as below_at}
use Rattle.spec_olc.specs.Calls.{key_of}
use Rattle.spec_olc.specs.Kinds.{DoesAs, report_of}
use Rattle.spec_olc.specs.Lock.{IsFree}
use Rattle.spec_olc.specs.Local.{seen_child}
use Rattle.spec_olc.specs.Reading.{EndsAt, HasNothing, IsSeenOf, LooksOn, Remembered}
use Rattle.spec_olc.specs.State.{CallState, State, VersionedNode, back, stopped, with_call}
use Rattle.spec_olc.specs.declared.types.Asking.{Asking}
use Rattle.spec_olc.specs.declared.types.Env.{Env}
use Rattle.spec_olc.specs.declared.types.Kind.{Kind}
use Rattle.spec_olc.specs.declared.types.Kind.TheVariants as kind
use Rattle.spec_olc.specs.declared.types.Outcome.TheVariants.{Going}
use Rattle.spec_olc.specs.declared.types.Seen.{Seen}
use Rattle.olc_state.specs.declared.cleanup.Cleanup.{Cleanup}
use Rattle.olc_state.specs.declared.cleanup.Seek.{Seek}
use Rattle.olc_state.specs.declared.cleanup.Seek.TheVariants.{TakeRoot, Read, Check, TakeBelow, CheckAbove}
use Rattle.olc_state.specs.declared.cleanup.Tidy.TheVariants.{UpgradeAbove}
use Rattle.olc_state.specs.declared.stage.Path.{Path}
use Rattle.olc_state.specs.declared.stage.Record.{Record}
use Rattle.olc_state.specs.declared.stage.Spot.{Spot}
use Rattle.olc_state.specs.declared.stage.Stage.{Stage}
use Rattle.olc_state.specs.declared.stage.Stage.TheVariants as stage
use Rattle.olc_state.specs.declared.stage.Task.{Task}
use Rattle.olc_state.specs.declared.tail.NodePair.{NodePair}
use Rattle.olc_state.specs.inner.CleanupFacts.{HasDepth, IsWithin, ReachesTo, SawBelow}
use Rattle.olc_state.specs.inner.CleanupStages.{named_seeking, seek_work, spots_seeking}
use Rattle.olc_state.specs.inner.Facts.{Facts, named_at}
use Rattle.olc_state.specs.inner.Shown.{flight, held_at, made_at, spots_of}
use Rattle.olc_state.specs.inner.Tables.{CameFrom, IsIn, IsLinked, IsPlaced, IsSafe, IsThere, Known, LedTo, OnPath, byte_at}
use Rattle.olc_state.specs.inner.TailFacts.{found, path_to}
use Rattle.olc_state.specs.inner.Tails.{above_spots, cleaning_of, path_spots}
use Rattle.olc_state.specs.inner.Tasks.{SawNode, key_bytes, restarted, CleansUp}
use Rattle.olc_state.specs.inner.Turns.{IsRead, MayFollow, ShowsNodes, depth_in, seek_depth, work_of}
use Rattle.olc_state.specs.inner.World.{NodeLifetime, NodeMap, PlacedNode, is_linked}
use Rattle.olc_state.proofs.Options.{none_some, some_same}
use Rattle.olc_state.proofs.Reaching.{one, seen_at}
use Rattle.olc_state.proofs.Records.{at}
use Rattle.olc_state.proofs.Unlike.{decided_open, false_true}
use Rattle.olc_state.proofs.Ways.{check_below, known_linked}
use Rattle.olc_descend.proofs.Courses.{below_not_root, below_other, descends, forgets, still_current, taken_current}
use Rattle.olc_descend.proofs.Events.{Within, check_fails, check_ok, ends_at_none, failed_decided, looks_off, looks_on, take, take_fails}
use Rattle.olc_descend.proofs.Spots.{above_known, here_known, step_down}
use Rattle.olc_descend.proofs.Takes.{top_path}

-- a path has a word that is remembered
path_known : (path : Path) → path_spots path ≡ [] → ⊥
path_known path e =
    none_some path.here.word (sym (ap (λ (z : List (ℕ × ℕ)). lookup z path.here.slot) e) ∙ lookup-put_same (above_spots path.above) path.here.slot path.here.word)

-- a node under the key's byte is seen by every call
seen_below : {M : Type 0} (Q : Type 0) (c seen : Option (Child M)) (slot : ℕ) → IsSeenOf Q c seen → c ≡ Some (below_at slot) → seen ≡ Some (below_at slot)
seen_below Q c seen slot is there = subst (λ (x : Option (Child _)). IsSeenOf Q x seen) there is

-- no node was seen where there is neither a node nor a payload
seen_no_node : {M : Type 0} (Q : Type 0) (c seen : Option (Child M)) (slot : ℕ) → IsSeenOf Q c seen → ((v : M) → c ≡ Some (Payload v) → ⊥) → ((s : ℕ) → c ≢ Some (below_at s)) → seen ≡ Some (below_at slot) → ⊥
seen_no_node Q None seen slot is unpaid none e = none_some (below_at slot) (sym is ∙ e)
seen_no_node Q (Some (Payload v)) seen slot is unpaid none e = unpaid v refl
seen_no_node Q (Some (below_at s)) seen slot is unpaid none e = none s refl

module _ {M : Type 0} (Granted : Type 0) (same : M → M → Bool) (t : NodeMap M) (root pin : ℕ) (task : Task M) (c : Cleanup) (env : Env M) (placed : IsPlaced t root) where
  -- on its way down, and after an event that has failed
  abbrev pub seeking : Seek → Record M
  seeking seek = at (stage.Seek c seek) task

  abbrev pub ended : Record M
  ended = at stage.Finish (restarted task)

  -- AN EVENT THAT FAILS ends the cleanup
  stops : (seek : Seek) (slot word : ℕ) (ok : Bool) (k : Kind) → CleansUp task c → key_of task.outline < 2 ^ 64 → (slot ≡ root) ⊎ IsIn slot (named_seeking seek) → 1 < seek_work c seek (seek_depth t seek)
      → ((s : State M) (id : ℕ) → ShowsNodes t root s → DoesAs Granted same s (with_call s id (flight pin ended)) id (flight pin (seeking seek)) env (report_of k (Some slot) word ok) Going k)
      → IsRead Granted same t root pin (seeking seek) env ended (report_of k (Some slot) word ok) Going
  stops seek slot word ok k cleans small known more does = record {
    facts = record { small = small; at = λ e. decided_open (sym cleans.decided ∙ e) };
    held = refl;
    made = refl;
    course = forgets t known (λ z h. h) (λ z h. h) refl refl (λ point. inr (omega (arith, more)));
    does = does;
    carries = λ s shows m content. refl;
  }

  take_stops : (seek : Seek) (slot : ℕ) (a : PlacedNode M) → CleansUp task c → key_of task.outline < 2 ^ 64 → (slot ≡ root) ⊎ IsIn slot (named_seeking seek) → 1 < seek_work c seek (seek_depth t seek) → t slot ≡ Some a → (IsFree a.word → ⊥)
      → ((s : State M) → ShowsNodes t root s → slot ≡ s.root → flight pin (seeking seek) ≡ back (flight pin (seeking seek)))
      → ((s : State M) → ShowsNodes t root s → spots_seeking seek ≡ [] → slot ≡ s.root)
      → IsRead Granted same t root pin (seeking seek) env ended (report_of kind.Take (Some slot) a.word false) Going
  take_stops seek slot a cleans small known more here free anew first =
      stops seek slot a.word false kind.Take cleans small known more
      (λ s id shows. take_fails Granted same s id (flight pin (seeking seek)) env (inr (cleans.decided, refl)) (flight pin ended) (failed_decided (flight pin (seeking seek)) cleans.decided) slot (one a) (seen_at t root s shows slot a here) (anew s shows) (first s shows) free)

  check_stops : (seek : Seek) (spot : Spot) (a : PlacedNode M) → CleansUp task c → key_of task.outline < 2 ^ 64 → IsIn spot.slot (named_seeking seek) → 1 < seek_work c seek (seek_depth t seek) → lookup (spots_seeking seek) spot.slot ≡ Some spot.word → t spot.slot ≡ Some a → a.word ≢ spot.word
      → IsRead Granted same t root pin (seeking seek) env ended (report_of kind.Check (Some spot.slot) 0 false) Going
  check_stops seek spot a cleans small named more known here other =
      stops seek spot.slot 0 false kind.Check cleans small (inr named) more
      (λ s id shows. check_fails Granted same s id (flight pin (seeking seek)) env (inr (cleans.decided, refl)) spot.slot spot.word (one a) (seen_at t root s shows spot.slot a here) known (flight pin ended) (failed_decided (flight pin (seeking seek)) cleans.decided) other)

  -- TAKE OF THE ROOT, where all is new
  is_new : CleansUp task c → task.last ≡ None → flight pin (seeking TakeRoot) ≡ back (flight pin (seeking TakeRoot))
  is_new cleans none =
      ap (λ (x : Option (Seen M)). record (flight pin (seeking TakeRoot)) { seen = x }) none
      ∙ ap (λ (x : Asking M). record (flight pin (seeking TakeRoot)) { seen = None; asking = x }) cleans.fresh

  pub root_ok : (a : PlacedNode M) → Facts Granted same t root pin (seeking TakeRoot) → t root ≡ Some a → IsFree a.word
      → IsRead Granted same t root pin (seeking TakeRoot) env (seeking (Read (top_path root a.word))) (report_of kind.Take (Some root) a.word true) Going
  root_ok a facts here free =
      let f = facts.at in
      let top : a ≡ placed.top = some_same a placed.top (sym here ∙ placed.top_linked.here) in
      let current : a.lifetime ≡ is_linked = subst (λ (z : PlacedNode M). z.lifetime ≡ is_linked) (sym top) placed.top_linked.lifetime in
      let prefix : a.node.prefix ≡ [] = subst (λ (z : PlacedNode M). z.node.prefix ≡ []) (sym top) placed.top_prefix in
      let reaches : ReachesTo (key_bytes task) c.length a.node = rw prefix (record { holds = refl }, omega arith) in
      let within : IsWithin t root (key_bytes task) c.length = λ (b : PlacedNode M) (h : t root ≡ Some b). subst (λ (z : PlacedNode M). ReachesTo (key_bytes task) c.length z.node) (some_same a b (sym here ∙ h)) reaches in
      record {
        facts = record {
          small = facts.small;
          at = record {
            cleans = f.0;
            on = record {
              above = refl;
              here = record { node = a; here = here; safe = subst (λ (z : NodeLifetime). IsSafe pin z) (sym current) tt; free = free; word = omega arith };
              way = λ b h. (within b h).0;
              apart = λ (p : Spot) (e : None ≡ Some p). absurd (none_some p e);
            };
            within = within;
          };
        };
        held = refl;
        made = refl;
        course = record {
          touches = λ slot e make. inl (sym (some_same root slot e));
          names = λ slot h. elim h [ inl e ↦ inl (sym e) | inr never ↦ absurd never ];
          reads = λ slot h. absurd h;
          outline = refl;
          keeps = taken_current t (stage.Seek c TakeRoot) (stage.Seek c (Read (top_path root a.word))) root a here refl;
          falls = λ point. inr (omega arith);
        };
        does = λ s id shows. take Granted same s id (flight pin (seeking TakeRoot)) env (inr (f.0.decided, refl)) root (one a) (seen_at t root s shows root a here) (λ e. is_new f.0 f.1) (λ e. sym shows.root_is) free;
        carries = λ s shows m content. refl;
      }

  pub root_stops : (a : PlacedNode M) → Facts Granted same t root pin (seeking TakeRoot) → t root ≡ Some a → (IsFree a.word → ⊥)
      → IsRead Granted same t root pin (seeking TakeRoot) env ended (report_of kind.Take (Some root) a.word false) Going
  root_stops a facts here free =
      let f = facts.at in
      take_stops TakeRoot root a f.0 facts.small (inl refl) (omega arith) here free (λ s shows e. is_new f.0 f.1) (λ s shows e. sym shows.root_is)

  module _ (path : Path) where
    -- TAKE OF A CHILD
    pub below_ok : (slot : ℕ) (a : PlacedNode M) (fits : Bool) → Facts Granted same t root pin (seeking (TakeBelow path slot)) → t slot ≡ Some a → IsFree a.word → (IsTrue fits ↔ ReachesTo (key_bytes task) c.length a.node)
        → IsRead Granted same t root pin (seeking (TakeBelow path slot)) env (seeking (CheckAbove path (record { slot = slot; word = a.word }) fits)) (report_of kind.Take (Some slot) a.word true) Going
    below_ok slot a fits facts here free test =
        let f = facts.at in
        let there : IsThere t pin slot = f.2 in
        let same_node : there.node ≡ a = some_same there.node a (sym there.here ∙ here) in
        let below : Spot = record { slot = slot; word = a.word } in
        record {
          facts = record {
            small = facts.small;
            at = (
              f.0,
              f.1,
              record { node = a; here = here; safe = subst (λ (z : PlacedNode M). IsSafe pin z.lifetime) same_node there.safe; free = free; word = omega arith },
              (λ (b : PlacedNode M) (h : t slot ≡ Some b). subst (λ (z : PlacedNode M). IsTrue fits ↔ ReachesTo (key_bytes task) c.length z.node) (some_same a b (sym here ∙ h)) test),
              f.4,
              f.5,
              f.6,
            );
          };
          held = refl;
          made = refl;
          course = record {
            touches = λ z e make. inr (inl (some_same slot z e));
            names = λ z h. inr (inl h);
            reads = λ z h. absurd h;
            outline = refl;
            keeps = taken_current t (stage.Seek c (TakeBelow path slot)) (stage.Seek c (CheckAbove path below fits)) slot a here refl;
            falls = λ point. inr (omega arith);
          };
          does = λ s id shows. take Granted same s id (flight pin (seeking (TakeBelow path slot))) env (inr (f.0.cleans.decided, refl)) slot (one a) (seen_at t root s shows slot a here)
              (λ e. absurd (f.3 (e ∙ shows.root_is))) (λ e. absurd (path_known path e)) free;
          carries = λ s shows m content. refl;
        }

    pub below_stops : (slot : ℕ) (a : PlacedNode M) → Facts Granted same t root pin (seeking (TakeBelow path slot)) → t slot ≡ Some a → (IsFree a.word → ⊥)
        → IsRead Granted same t root pin (seeking (TakeBelow path slot)) env ended (report_of kind.Take (Some slot) a.word false) Going
    below_stops slot a facts here free =
        let f = facts.at in
        take_stops (TakeBelow path slot) slot a f.0.cleans facts.small (inr (inl refl)) (omega arith) here free
        (λ s shows e. absurd (f.3 (e ∙ shows.root_is))) (λ s shows e. absurd (path_known path e))

  module _ (path : Path) (a : PlacedNode M) (here : t path.here.slot ≡ Some a) where
    -- A CHECK THAT FAILS
    pub here_stops : Facts Granted same t root pin (seeking (Check path)) → a.word ≢ path.here.word
        → IsRead Granted same t root pin (seeking (Check path)) env ended (report_of kind.Check (Some path.here.slot) 0 false) Going
    here_stops facts other = check_stops (Check path) path.here a facts.at.0.cleans facts.small (inl refl) (omega arith) (here_known path) here other

    pub above_stops : (below : Spot) (fits : Bool) → Facts Granted same t root pin (seeking (CheckAbove path below fits)) → a.word ≢ path.here.word
        → IsRead Granted same t root pin (seeking (CheckAbove path below fits)) env ended (report_of kind.Check (Some path.here.slot) 0 false) Going
    above_stops below fits facts other =
        let f = facts.at in
        check_stops (CheckAbove path below fits) path.here a f.0.cleans facts.small (inr (inl refl)) (omega arith) (above_known path below f.4) here other

    module _ (word : a.word ≡ path.here.word) where
      -- A CHECK THAT PASSES
      goes : (seek : Seek) (next : Stage) → held_at next ≡ [] → made_at next ≡ [] → CleansUp task c → lookup (spots_seeking seek) path.here.slot ≡ Some path.here.word → IsIn path.here.slot (named_seeking seek) → Within (spots_of next) (spots_seeking seek) → Facts Granted same t root pin (at next task)
          → ((slot : ℕ) → IsIn slot (named_at next) → (slot ≡ root) ⊎ (IsIn slot (named_seeking seek) ⊎ MayFollow t (stage.Seek c seek) task.last slot)) → ((slot : ℕ) → MayFollow t next task.last slot → ⊥) → work_of t (at next task) < work_of t (seeking seek)
          → (planned : CallState M) → planned.remembered ≡ spots_seeking seek → (record planned { remembered = spots_of next } ≡ flight pin (at next task))
          → ((s : State M) (r : Remembered s (flight pin (seeking seek))) → ShowsNodes t root s → r.node ≡ one a → LooksOn task.outline s (flight pin (seeking seek)) r planned)
          → IsRead Granted same t root pin (seeking seek) env (at next task) (report_of kind.Check (Some path.here.slot) 0 true) Going
      goes seek next held made cleans known named within facts names reads falls planned words is looks = record {
        facts = facts;
        held = held;
        made = made;
        course = record {
          touches = λ z e make. inr (subst (λ (x : ℕ). IsIn x (named_seeking seek)) (some_same path.here.slot z e) named);
          names = names;
          reads = λ z h. absurd (reads z h);
          outline = refl;
          keeps = still_current t (stage.Seek c seek) next within;
          falls = λ point. inr falls;
        };
        does = λ s id shows.
            subst (λ (z : CallState M). DoesAs Granted same s (with_call s id z) id (flight pin (seeking seek)) env (report_of kind.Check (Some path.here.slot) 0 true) Going kind.Check) is
            (check_ok Granted same s id (flight pin (seeking seek)) env (inr (cleans.decided, refl)) path.here.slot path.here.word (one a) (seen_at t root s shows path.here.slot a here) known
            planned (spots_of next) Going word (looks s _ shows refl) (subst (λ (w : List (ℕ × ℕ)). Within (spots_of next) w) (sym words) within));
        carries = λ s shows m content. refl;
      }

      -- it goes on as it was
      still : (seek : Seek) → CleansUp task c → (s : State M) (r : Remembered s (flight pin (seeking seek))) → ShowsNodes t root s → r.node ≡ one a → LooksOn task.outline s (flight pin (seeking seek)) r (flight pin (seeking seek))
      still seek cleans s r shows e = looks_on s (flight pin (seeking seek)) task.outline r cleans.point

      -- no node to clean up is left
      nowhere : (seek : Seek) → CleansUp task c → key_of task.outline < 2 ^ 64 → lookup (spots_seeking seek) path.here.slot ≡ Some path.here.word → IsIn path.here.slot (named_seeking seek) → 1 < seek_work c seek (seek_depth t seek)
          → ((s : State M) → ShowsNodes t root s → HasNothing s (flight pin (seeking seek)) a.node)
          → IsRead Granted same t root pin (seeking seek) env (at stage.Finish task) (report_of kind.Check (Some path.here.slot) 0 true) Going
      nowhere seek cleans small known named more nothing =
          goes seek stage.Finish refl refl cleans known named (λ z w h. absurd (none_some w h)) (record { small = small; at = λ e. decided_open (sym cleans.decided ∙ e) }) (λ z h. absurd h) (λ z h. h) (omega (arith, more))
          (stopped (flight pin (seeking seek))) refl refl
          (λ s r shows e. looks_off s (flight pin (seeking seek)) task.outline r cleans.point (subst (λ (x : VersionedNode M). HasNothing s (flight pin (seeking seek)) x.node) (sym e) (nothing s shows)))

      -- the root isn't as deep as a node that is cleaned up
      not_root : Facts Granted same t root pin (seeking (Check path)) → path.above ≡ None → c.length ≤ length a.node.prefix → ⊥
      not_root facts top deep =
          let on : OnPath t root pin (key_bytes task) path = facts.at.0.on in
          let is : path.here.slot ≡ root = subst (λ (above : Option Spot). CameFrom t root pin (key_bytes task) above path.here.slot) top on.above in
          let same_node : a ≡ placed.top = some_same a placed.top (sym here ∙ subst (λ (z : ℕ). t z ≡ Some placed.top) (sym is) placed.top_linked.here) in
          let prefix : a.node.prefix ≡ [] = subst (λ (z : PlacedNode M). z.node.prefix ≡ []) (sym same_node) placed.top_prefix in
          let none : length a.node.prefix ≡ 0 = ap (λ (p : List ℕ). length p) prefix in
          omega (arith, none, deep, facts.at.0.cleans.below_root)

      pub here_nowhere : Facts Granted same t root pin (seeking (Check path))
          → ((c.length ≤ length a.node.prefix) × (path.above ≡ None)) ⊎ ((length a.node.prefix < c.length) × ((slot : ℕ) → found a (key_bytes task) ≢ Some (below_at slot)))
          → IsRead Granted same t root pin (seeking (Check path)) env (at stage.Finish task) (report_of kind.Check (Some path.here.slot) 0 true) Going
      here_nowhere facts nothing =
          let saw : SawBelow Granted t path task = facts.at.1 in
          let on : OnPath t root pin (key_bytes task) path = facts.at.0.on in
          let read : IsSome task.last = subst (λ (z : Option (Seen M)). IsSome z) (sym saw.is) refl in
          elim nothing [
            | inl top ↦ absurd (not_root facts top.1 top.0)
            | inr none ↦
                let linked : IsLinked t path.here.slot a = known_linked t root (key_bytes task) placed pin path.here a on.here here word in
                let unpaid : (v : M) → found a (key_bytes task) ≡ Some (Payload v) → ⊥ = λ v e. let leaf : length a.node.prefix ≡ 7 = placed.leaf path.here.slot a linked (byte_at a (key_bytes task)) v e in let short : c.length ≤ 7 = facts.at.0.cleans.short in omega (arith, leaf, none.0, short) in
                let unseen : (slot : ℕ) → seen_child task.last ≡ Some (below_at slot) → ⊥ = λ slot e. seen_no_node Granted (found a (key_bytes task)) saw.seen.child slot (saw.child a here word) unpaid none.1 (ap (λ z. seen_child z) (sym saw.is) ∙ e) in
                nowhere (Check path) facts.at.0.cleans facts.small (here_known path) (inl refl) (omega arith)
                (λ s shows. (cleaning_of c, refl, read, none.0, ends_at_none s (flight pin (seeking (Check path))) _ (seen_child task.last) unseen))
          ]

      pub above_nowhere : (below : Spot) → Facts Granted same t root pin (seeking (CheckAbove path below false))
          → IsRead Granted same t root pin (seeking (CheckAbove path below false)) env (at stage.Finish task) (report_of kind.Check (Some path.here.slot) 0 true) Going
      above_nowhere below facts =
          let f = facts.at in
          let seek : Seek = CheckAbove path below false in
          let kn : Known t pin below = f.2 in
          let saw_node : SawNode task.last below.slot = f.5 in
          let read : IsSome task.last = subst (λ (z : Option (Seen M)). IsSome z) (sym saw_node.is) refl in
          let deeper : Begins kn.node.node.prefix (key_bytes task) → c.length < length kn.node.node.prefix = λ begins. elim (cases_lt c.length (length kn.node.node.prefix)) [
            | inl more ↦ more
            | inr less ↦ absurd (false_true ((f.3 kn.node kn.here).1 (begins, less)))
          ] in
          nowhere seek f.0.cleans facts.small (above_known path below f.4) (inr (inl refl)) (omega arith)
          (λ s shows. (
            cleaning_of c,
            refl,
            read,
            f.6 a here,
            subst (λ (x : Option (Child M)). EndsAt s (flight pin (seeking seek)) (λ b. Begins b.prefix (key_bytes task) → c.length < length b.prefix) x) (sym (ap (λ z. seen_child z) saw_node.is ∙ saw_node.child))
                (record { slot = below.slot; node = one kn.node; word = below.word; here = seen_at t root s shows below.slot kn.node kn.here; word_is = lookup-put_same (path_spots path) below.slot below.word }, refl, deeper),
          ))

      -- it goes down to the node under the key's byte
      pub here_goes : (slot : ℕ) → Facts Granted same t root pin (seeking (Check path)) → found a (key_bytes task) ≡ Some (below_at slot) → length a.node.prefix < c.length
          → IsRead Granted same t root pin (seeking (Check path)) env (seeking (TakeBelow path slot)) (report_of kind.Check (Some path.here.slot) 0 true) Going
      here_goes slot facts there nearer =
          let f = facts.at in
          let on : OnPath t root pin (key_bytes task) path = f.0.on in
          let saw : SawBelow Granted t path task = f.1 in
          let saw_node : SawNode task.last slot = record { seen = saw.seen; is = saw.is; child = seen_below Granted (found a (key_bytes task)) saw.seen.child slot (saw.child a here word) there } in
          let led : LedTo t path.here (key_bytes task) slot = λ (b : PlacedNode M) (h : t path.here.slot ≡ Some b) (e : b.word ≡ path.here.word). subst (λ (z : PlacedNode M). found z (key_bytes task) ≡ Some (below_at slot)) (some_same a b (sym here ∙ h)) there in
          goes (Check path) (stage.Seek c (TakeBelow path slot)) refl refl f.0.cleans (here_known path) (inl refl) (λ z w h. h)
          (record {
            small = facts.small;
            at = (
              f.0,
              led,
              check_below t root (key_bytes task) placed pin path a on here word slot there,
              below_not_root t root placed pin (key_bytes task) path on slot led a here word,
              below_other t root placed pin (key_bytes task) path on slot led a here word,
              saw_node,
              (λ (b : PlacedNode M) (h : t path.here.slot ≡ Some b). subst (λ (z : PlacedNode M). length z.node.prefix < c.length) (some_same a b (sym here ∙ h)) nearer),
            );
          })
          (λ z h. elim h [ inl e ↦ inr (inr (subst (λ (x : ℕ). SawNode task.last x) e saw_node, record { node = a; here = here; word = word })) | inr e ↦ inr (inl e) ])
          (λ z h. h) (omega arith) (flight pin (seeking (Check path))) refl refl (still (Check path) f.0.cleans)

      pub above_goes : (below : Spot) → Facts Granted same t root pin (seeking (CheckAbove path below true))
          → IsRead Granted same t root pin (seeking (CheckAbove path below true)) env (seeking (Read (record { above = Some path.here; here = below }))) (report_of kind.Check (Some path.here.slot) 0 true) Going
      above_goes below facts =
          let f = facts.at in
          let on : OnPath t root pin (key_bytes task) path = f.0.on in
          let within : IsWithin t below.slot (key_bytes task) c.length = λ b h. (f.3 b h).0 refl in
          let less = descends t root placed pin (key_bytes task) path on below.slot f.1 a here word in
          let depth : depth_in (t below.slot) ≡ length f.2.node.node.prefix = ap depth_in f.2.here in
          let short : length f.2.node.node.prefix ≤ c.length = (within f.2.node f.2.here).1 in
          goes (CheckAbove path below true) (stage.Seek c (Read (record { above = Some path.here; here = below }))) refl refl f.0.cleans (above_known path below f.4) (inr (inl refl)) (step_down path below)
          (record {
            small = facts.small;
            at = record {
              cleans = f.0.cleans;
              on = record {
                above = (on.here, on.way, f.1);
                here = f.2;
                way = λ b h. (within b h).0;
                apart = λ (p : Spot) (e : Some path.here ≡ Some p). subst (λ (z : Spot). z.slot ≢ below.slot) (some_same path.here p e) (λ q. f.4 (sym q));
              };
              within = within;
            };
          })
          (λ z h. elim h [ inl e ↦ inr (inl (inl e)) | inr more ↦ elim more [ inl e ↦ inr (inl (inr (inl e))) | inr never ↦ absurd never ] ])
          (λ z h. h) (omega (arith, less, depth, short)) (flight pin (seeking (CheckAbove path below true))) refl refl (still (CheckAbove path below true) f.0.cleans)

  -- it has come to the node, and locks its parent next
  tidies : (pair : NodePair) (a : PlacedNode M) → t pair.here.slot ≡ Some a → a.word ≡ pair.here.word → Facts Granted same t root pin (seeking (Check (path_to pair))) → c.length ≤ length a.node.prefix
      → IsRead Granted same t root pin (seeking (Check (path_to pair))) env (at (stage.Tidy c (UpgradeAbove pair)) task) (report_of kind.Check (Some pair.here.slot) 0 true) Going
  tidies pair a here word facts deep =
      let f = facts.at in
      let on : OnPath t root pin (key_bytes task) (path_to pair) = f.0.on in
      let depth : HasDepth t pair.here.slot (key_bytes task) c.length = λ b h. let w = f.0.within b h in let more : c.length ≤ length b.node.prefix = subst (λ (z : PlacedNode M). c.length ≤ length z.node.prefix) (some_same a b (sym here ∙ h)) deep in (w.0, omega (arith, w.1, more)) in
      goes (path_to pair) a here word (Check (path_to pair)) (stage.Tidy c (UpgradeAbove pair)) refl refl f.0.cleans (here_known (path_to pair)) (inl refl) (λ z w h. h)
      (record {
        small = facts.small;
        at = (f.0.cleans, record { way = on.above.1; apart = on.apart pair.above refl }, on.above.0, on.above.2, on.here, depth);
      })
      (λ z h. inr (inl h)) (λ z h. h) (omega arith) (flight pin (seeking (Check (path_to pair)))) refl refl (still (path_to pair) a here word (Check (path_to pair)) f.0.cleans)

  pub here_tidies : (path : Path) (a : PlacedNode M) → t path.here.slot ≡ Some a → a.word ≡ path.here.word → (pair : NodePair) → path ≡ path_to pair → Facts Granted same t root pin (seeking (Check path)) → c.length ≤ length a.node.prefix
      → IsRead Granted same t root pin (seeking (Check path)) env (at (stage.Tidy c (UpgradeAbove pair)) task) (report_of kind.Check (Some path.here.slot) 0 true) Going
  here_tidies path a here word pair is facts deep =
      subst
      (λ (p : Path). t p.here.slot ≡ Some a → a.word ≡ p.here.word → Facts Granted same t root pin (seeking (Check p)) → c.length ≤ length a.node.prefix
      → IsRead Granted same t root pin (seeking (Check p)) env (at (stage.Tidy c (UpgradeAbove pair)) task) (report_of kind.Check (Some p.here.slot) 0 true) Going)
      (sym is) (tidies pair a) here word facts deep
