-- A range after an event, and that the event is one of its kind.
use Rattle.std.proofs.Common.{◌≡◌, ◌≢◌, ℕ, ◌+◌, ◌<◌, ◌≤◌, ◌^◌, max, Bool, true, false, List, [], ◌∷◌, Option, Some, None, IsSome, ◌⊎◌, inl, inr, refl, sym, subst, ap, ◌∙◌, arith}
use Rattle.spec_map.specs.Map.{lookup, put}
use Rattle.spec_map.proofs.MapLaws.{lookup-put_same, lookup-put_other}
use Rattle.spec_node.specs.Key.{low, high}
use Rattle.spec_olc.specs.Calls.{Outline}
use Rattle.spec_olc.specs.Kinds.{DoesAs, report_of}
use Rattle.spec_olc.specs.Content.{IsStoredAt}
use Rattle.spec_olc.specs.Local.{seen_child, seen_payload}
use Rattle.spec_olc.specs.Reading.{ComesTo, Gives, GoesOn, HasAll, LooksOn, MayGive, MovesOn, NoneIsStored, Remembered}
use Rattle.spec_olc.specs.State.{CallState, State, back, with_call}
use Rattle.spec_olc.specs.declared.types.Asking.{Asking}
use Rattle.spec_olc.specs.declared.types.Env.{Env}
use Rattle.spec_olc.specs.declared.types.Kind.TheVariants as kind
use Rattle.spec_olc.specs.declared.types.Op.TheVariants.{Range}
use Rattle.spec_olc.specs.declared.types.Outcome.TheVariants.{Going, Pair}
use Rattle.spec_olc.specs.declared.types.Seen.{Seen}
use Rattle.spec_olc.specs.Lock.{IsFree}
use Rattle.olc_state.specs.declared.stage.Spot.{Spot}
use Rattle.olc_state.specs.declared.stage.Task.{Task}
use Rattle.olc_state.specs.inner.Tables.{IsIn, IsPlaced, IsSafe, IsThere}
use Rattle.olc_state.specs.inner.Tasks.{restarted}
use Rattle.olc_state.specs.inner.Turns.{ShowsNodes}
use Rattle.olc_state.specs.inner.World.{PlacedNode, NodeLifetime, NodeMap, is_linked}
use Rattle.olc_state.proofs.Options.{none_some, some_same}
use Rattle.olc_state.proofs.Reaching.{one, seen_at}
use Rattle.olc_descend.proofs.Events.{Within, check_ok, check_fails, failed_open, take, take_fails}
use Rattle.olc_descend.proofs.Spots.{put_known}
use Rattle.olc_state.specs.declared.scan.RangeProgress.{RangeProgress}
use Rattle.olc_state.specs.declared.scan.Scan.{Scan}
use Rattle.olc_state.specs.declared.scan.Scan.TheVariants.{TakeRoot, Read, TakeBelow, CheckAbove, Finish}
use Rattle.olc_scan.specs.inner.Ranges.{spots_on, named_on, flight_on, IsRanging, GoesTo, IsAtNode, ScanFacts, MayFollowScan, IsScanned, moved_to, past_pair, unreported}

-- a word is remembered
some_word : (slot word : ℕ) (more : List (ℕ × ℕ)) → (slot, word) ∷ more ≡ [] → ⊥
some_word slot word more e = cc

-- a range with another progress
pub ranging_at : {M : Type 0} (task : Task M) (course next : RangeProgress) (r : IsRanging task course) → next.cursor ≤ next.reach → next.reach < 2 ^ 64 → next.given ≤ r.limit → IsRanging task next
ranging_at task course next r order small most = record {
  start = r.start;
  end = r.end;
  limit = r.limit;
  outline = r.outline;
  op = r.op;
  undecided = r.undecided;
  fresh = r.fresh;
  order = order;
  small = small;
  most = most;
}

-- the node that a range is at is remembered
pub spot_known : (spot : Spot) → lookup ((spot.slot, spot.word) ∷ []) spot.slot ≡ Some spot.word
spot_known spot = lookup-put_same [] spot.slot spot.word

pub above_known : (spot below : Spot) → below.slot ≢ spot.slot → lookup (put ((spot.slot, spot.word) ∷ []) below.slot below.word) spot.slot ≡ Some spot.word
above_known spot below other = lookup-put_other ((spot.slot, spot.word) ∷ []) below.slot below.word spot.slot (λ e. other (sym e)) ∙ spot_known spot

-- the child is remembered after the step down
pub below_within : (spot below : Spot) → Within ((below.slot, below.word) ∷ []) (put ((spot.slot, spot.word) ∷ []) below.slot below.word)
below_within spot below slot word h =
    elim (put_known [] below.slot below.word slot word h) [
      | inl is ↦
          subst (λ (z : ℕ). lookup (put ((spot.slot, spot.word) ∷ []) below.slot below.word) z ≡ Some word) is.0
          (lookup-put_same ((spot.slot, spot.word) ∷ []) below.slot below.word ∙ ap Some is.1)
      | inr never ↦ absurd (none_some word never)
    ]

pub none_within : (remembered : List (ℕ × ℕ)) → Within [] remembered
none_within remembered slot word h = absurd (none_some word h)

module _ {M : Type 0} (Granted : Type 0) (same : M → M → Bool) (t : NodeMap M) (root pin : ℕ) (task : Task M) (course : RangeProgress) (env : Env M) (placed : IsPlaced t root) where
  abbrev now : Scan → CallState M
  now scan = flight_on pin task course scan

  back_course : RangeProgress
  back_course = record course { reach = course.cursor }

  restarted_facts : IsRanging task course → ScanFacts t root pin (restarted task) (record course { reach = course.cursor }) TakeRoot
  restarted_facts r = (
    record {
      start = r.start;
      end = r.end;
      limit = r.limit;
      outline = r.outline;
      op = r.op;
      undecided = r.undecided;
      fresh = refl;
      order = omega arith;
      small = omega (arith, r.order, r.small);
      most = r.most;
    },
    refl,
    refl,
  )

  -- A TAKE OF THE ROOT
  is_new : IsRanging task course → course.reach ≡ course.cursor → task.last ≡ None → now TakeRoot ≡ back (now TakeRoot)
  is_new r reach none =
      ap (λ (x : ℕ). record (now TakeRoot) { reach = x }) reach
      ∙ (ap (λ (x : Option (Seen M)). record (now TakeRoot) { reach = course.cursor; seen = x }) none
      ∙ ap (λ (x : Asking M). record (now TakeRoot) { reach = course.cursor; seen = None; asking = x }) r.fresh)

  pub root_ok : (a : PlacedNode M) → ScanFacts t root pin task course TakeRoot → t root ≡ Some a → IsFree a.word
      → IsScanned Granted same t root pin task course TakeRoot env task course (Read (record { slot = root; word = a.word })) (report_of kind.Take (Some root) a.word true) Going
  root_ok a f here free =
      let top : a ≡ placed.top = some_same a placed.top (sym here ∙ placed.top_linked.here) in
      let current : a.lifetime ≡ is_linked = subst (λ (z : PlacedNode M). z.lifetime ≡ is_linked) (sym top) placed.top_linked.lifetime in
      let prefix : a.node.prefix ≡ [] = subst (λ (z : PlacedNode M). z.node.prefix ≡ []) (sym top) placed.top_prefix in
      let small : course.reach < 2 ^ 64 = f.0.small in
      let looks : (course.reach ≡ max course.cursor (low a.node.prefix)) × (course.cursor < high a.node.prefix) =
      rw prefix (omega (arith, f.1), omega (arith, f.1, small)) in
      record {
        facts = record {
          ranging = f.0;
          here = record { node = a; here = here; safe = subst (λ (z : NodeLifetime). IsSafe pin z) (sym current) tt; free = free; word = omega arith };
          looks = λ (b : PlacedNode M) (h : t root ≡ Some b).
              subst (λ (z : PlacedNode M). (course.reach ≡ max course.cursor (low z.node.prefix)) × (course.cursor < high z.node.prefix)) (some_same a b (sym here ∙ h)) looks;
        };
        outline = refl;
        touches = λ slot e. inl (sym (some_same root slot e));
        names = λ slot h. elim h [ inl e ↦ inl (sym e) | inr never ↦ absurd never ];
        reads = λ slot h. absurd h;
        keeps = λ z w h. elim (put_known [] root a.word z w h) [ inl is ↦ inr (λ b hb. ap (λ (x : PlacedNode M). x.word) (some_same b a (sym hb ∙ subst (λ (x : ℕ). t x ≡ Some a) is.0 here)) ∙ is.1) | inr never ↦ absurd (none_some w never) ];
        leaves = λ m. refl;
        does = λ s id shows. take Granted same s id (now TakeRoot) env (inl f.0.undecided) root (one a) (seen_at t root s shows root a here) (λ e. is_new f.0 f.1 f.2) (λ e. sym shows.root_is) free;
      }

  take_restarts : (scan : Scan) (slot : ℕ) (a : PlacedNode M) → IsRanging task course → t slot ≡ Some a → (IsFree a.word → ⊥) → (slot ≡ root) ⊎ IsIn slot (named_on scan)
      → ((s : State M) → ShowsNodes t root s → slot ≡ s.root → now scan ≡ back (now scan))
      → ((s : State M) → ShowsNodes t root s → spots_on scan ≡ [] → slot ≡ s.root)
      → IsScanned Granted same t root pin task course scan env (restarted task) (record course { reach = course.cursor }) TakeRoot (report_of kind.Take (Some slot) a.word false) Going
  take_restarts scan slot a r here free known anew first = record {
    facts = restarted_facts r;
    outline = refl;
    touches = λ z e. subst (λ (x : ℕ). (x ≡ root) ⊎ IsIn x (named_on scan)) (some_same slot z e) known;
    names = λ z h. absurd h;
    reads = λ z h. absurd h;
    keeps = λ z w h. absurd (none_some w h);
    leaves = λ m. refl;
    does = λ s id shows. take_fails Granted same s id (now scan) env (inl r.undecided) (back (now scan)) (failed_open (now scan) r.undecided) slot (one a) (seen_at t root s shows slot a here) (anew s shows) (first s shows) free;
  }

  pub root_restarts : (a : PlacedNode M) → ScanFacts t root pin task course TakeRoot → t root ≡ Some a → (IsFree a.word → ⊥)
      → IsScanned Granted same t root pin task course TakeRoot env (restarted task) (record course { reach = course.cursor }) TakeRoot (report_of kind.Take (Some root) a.word false) Going
  root_restarts a f here free = take_restarts TakeRoot root a f.0 here free (inl refl) (λ s shows e. is_new f.0 f.1 f.2) (λ s shows e. sym shows.root_is)

  -- A TAKE OF THE CHILD that was read
  pub below_ok : (spot : Spot) (slot : ℕ) (a : PlacedNode M) (from : Option ℕ) → ScanFacts t root pin task course (TakeBelow spot slot) → t slot ≡ Some a → IsFree a.word → GoesTo t slot course.cursor from
      → IsScanned Granted same t root pin task course (TakeBelow spot slot) env task course (CheckAbove spot (record { slot = slot; word = a.word }) from) (report_of kind.Take (Some slot) a.word true) Going
  below_ok spot slot a from f here free goes =
      let at : IsAtNode t pin task course spot = f.0 in
      let there : IsThere t pin slot = f.2 in
      let same_node : there.node ≡ a = some_same there.node a (sym there.here ∙ here) in
      record {
        facts = (
          f.0,
          f.1,
          record { node = a; here = here; safe = subst (λ (z : PlacedNode M). IsSafe pin z.lifetime) same_node there.safe; free = free; word = omega arith },
          goes,
          f.4,
          f.5,
        );
        outline = refl;
        touches = λ z e. inr (inl (some_same slot z e));
        names = λ z h. inr (inl h);
        reads = λ z h. absurd h;
        keeps = λ z w h. elim (put_known ((spot.slot, spot.word) ∷ []) slot a.word z w h) [ inl is ↦ inr (λ b hb. ap (λ (x : PlacedNode M). x.word) (some_same b a (sym hb ∙ subst (λ (x : ℕ). t x ≡ Some a) is.0 here)) ∙ is.1) | inr old ↦ inl old ];
        leaves = λ m. refl;
        does = λ s id shows. take Granted same s id (now (TakeBelow spot slot)) env (inl at.ranging.undecided) slot (one a) (seen_at t root s shows slot a here)
            (λ e. absurd (f.3 (e ∙ shows.root_is))) (λ e. absurd (some_word spot.slot spot.word [] e)) free;
      }

  pub below_restarts : (spot : Spot) (slot : ℕ) (a : PlacedNode M) → ScanFacts t root pin task course (TakeBelow spot slot) → t slot ≡ Some a → (IsFree a.word → ⊥)
      → IsScanned Granted same t root pin task course (TakeBelow spot slot) env (restarted task) (record course { reach = course.cursor }) TakeRoot (report_of kind.Take (Some slot) a.word false) Going
  below_restarts spot slot a f here free =
      let at : IsAtNode t pin task course spot = f.0 in
      take_restarts (TakeBelow spot slot) slot a at.ranging here free (inr (inl refl)) (λ s shows e. absurd (f.3 (e ∙ shows.root_is))) (λ s shows e. absurd (some_word spot.slot spot.word [] e))

  -- A CHECK
  module _ (scan : Scan) (spot : Spot) (at : IsAtNode t pin task course spot) (a : PlacedNode M) (here : t spot.slot ≡ Some a) (known : lookup (spots_on scan) spot.slot ≡ Some spot.word) (named : IsIn spot.slot (named_on scan)) where
    touched : (slot : ℕ) → Some spot.slot ≡ Some slot → (slot ≡ root) ⊎ IsIn slot (named_on scan)
    touched slot e = inr (subst (λ (x : ℕ). IsIn x (named_on scan)) (some_same spot.slot slot e) named)

    -- that fails
    pub check_restarts : a.word ≢ spot.word
        → IsScanned Granted same t root pin task course scan env (restarted task) (record course { reach = course.cursor }) TakeRoot (report_of kind.Check (Some spot.slot) 0 false) Going
    check_restarts other = record {
      facts = restarted_facts at.ranging;
      outline = refl;
      touches = touched;
      names = λ z h. absurd h;
      reads = λ z h. absurd h;
      keeps = λ z w h. absurd (none_some w h);
      leaves = λ m. refl;
      does = λ s id shows. check_fails Granted same s id (now scan) env (inl at.ranging.undecided) spot.slot spot.word (one a) (seen_at t root s shows spot.slot a here) known (back (now scan)) (failed_open (now scan) at.ranging.undecided) other;
    }

    -- that passes
    module _ (word : a.word ≡ spot.word) where
      -- the node that was checked
      abbrev pub checked : (s : State M) → ShowsNodes t root s → Remembered s (now scan)
      checked s shows = record { slot = spot.slot; node = one a; word = spot.word; here = seen_at t root s shows spot.slot a here; word_is = known }

      -- how far the last Read leads
      abbrev pub Leads : ℕ → ℕ → Type 0
      Leads cursor reach = IsSome task.last × ((s : State M) (shows : ShowsNodes t root s) → ComesTo s (now scan) (checked s shows) (seen_child task.last) cursor reach)

      looks : (s : State M) (shows : ShowsNodes t root s) (planned : CallState M) → MovesOn s (now scan) (checked s shows) planned → LooksOn task.outline s (now scan) (checked s shows) planned
      looks s shows planned m = subst (λ (o : Outline). LooksOn o s (now scan) (checked s shows) planned) (sym at.ranging.outline) m

      Passed : ℕ → Type 0
      Passed from = (s : State M) → ShowsNodes t root s → NoneIsStored s course.reach from

      -- the range goes on from here
      moves_on : (cursor reach : ℕ) (next : Scan) → Leads cursor reach → course.cursor ≤ cursor → cursor ≤ reach → ((s : State M) → ShowsNodes t root s → NoneIsStored s course.reach reach) → Within (spots_on next) (spots_on scan)
          → (s : State M) (id : ℕ) → ShowsNodes t root s → DoesAs Granted same s (with_call s id (flight_on pin task (record { cursor = cursor; reach = reach; given = course.given }) next)) id (now scan) env (report_of kind.Check (Some spot.slot) 0 true) Going kind.Check
      moves_on cursor reach next leads onward order none within s id shows =
          let planned : CallState M = record (now scan) { cursor = cursor; reach = reach } in
          check_ok Granted same s id (now scan) env (inl at.ranging.undecided) spot.slot spot.word (one a) (seen_at t root s shows spot.slot a here) known planned (spots_on next) Going word
          (looks s shows planned (record { cursor = cursor; reach = reach; read = leads.0; comes = leads.1 s shows; onward = onward; order = order; passed = none s shows; next_is = inl refl })) within

      -- or from the root
      moves_back : (cursor : ℕ) → Leads cursor cursor → course.cursor ≤ cursor → ((s : State M) → ShowsNodes t root s → NoneIsStored s course.reach cursor)
          → (s : State M) (id : ℕ) → ShowsNodes t root s → DoesAs Granted same s (with_call s id (flight_on pin (restarted task) (moved_to course cursor) TakeRoot)) id (now scan) env (report_of kind.Check (Some spot.slot) 0 true) Going kind.Check
      moves_back cursor leads onward none s id shows =
          let planned : CallState M = back (record (now scan) { cursor = cursor; reach = cursor }) in
          check_ok Granted same s id (now scan) env (inl at.ranging.undecided) spot.slot spot.word (one a) (seen_at t root s shows spot.slot a here) known planned [] Going word
          (looks s shows planned (record { cursor = cursor; reach = cursor; read = leads.0; comes = leads.1 s shows; onward = onward; order = omega arith; passed = none s shows; next_is = inr refl })) (λ z w h. absurd (none_some w h))

      -- it goes on here
      pub goes_on : (cursor reach : ℕ) (next : Scan) → Leads cursor reach → course.cursor ≤ cursor → cursor ≤ reach → ((s : State M) → ShowsNodes t root s → NoneIsStored s course.reach reach) → Within (spots_on next) (spots_on scan)
          → ScanFacts t root pin task (record { cursor = cursor; reach = reach; given = course.given }) next → ((slot : ℕ) → IsIn slot (named_on next) → (slot ≡ root) ⊎ (IsIn slot (named_on scan) ⊎ MayFollowScan t scan task.last slot))
          → ((slot : ℕ) → MayFollowScan t next task.last slot → ⊥)
          → IsScanned Granted same t root pin task course scan env task (record { cursor = cursor; reach = reach; given = course.given }) next (report_of kind.Check (Some spot.slot) 0 true) Going
      goes_on cursor reach next leads onward order none within facts names reads = record {
        facts = facts;
        outline = refl;
        touches = touched;
        names = names;
        reads = λ z h. absurd (reads z h);
        keeps = λ z w h. inl (within z w h);
        leaves = λ m. refl;
        does = moves_on cursor reach next leads onward order none within;
      }

      -- it ends, having passed all keys below this one
      pub ends_at : (cursor reach : ℕ) → Leads cursor reach → course.cursor ≤ cursor → cursor ≤ reach → ((s : State M) → ShowsNodes t root s → NoneIsStored s course.reach reach) → HasAll task.outline reach course.given
          → IsScanned Granted same t root pin task course scan env task (record { cursor = cursor; reach = reach; given = course.given }) Finish (report_of kind.Check (Some spot.slot) 0 true) Going
      ends_at cursor reach leads onward order none all = record {
        facts = inr (at.ranging.undecided, all, (Range at.ranging.start at.ranging.end at.ranging.limit, at.ranging.op, sym at.ranging.outline));
        outline = refl;
        touches = touched;
        names = λ z h. absurd h;
        reads = λ z h. absurd h;
        keeps = λ z w h. absurd (none_some w h);
        leaves = λ m. refl;
        does = moves_on cursor reach Finish leads onward order none (none_within (spots_on scan));
      }

      -- it restarts at the root, at this key
      pub begins_at : (cursor : ℕ) → Leads cursor cursor → course.cursor ≤ cursor → cursor < 2 ^ 64 → ((s : State M) → ShowsNodes t root s → NoneIsStored s course.reach cursor)
          → IsScanned Granted same t root pin task course scan env (restarted task) (moved_to course cursor) TakeRoot (report_of kind.Check (Some spot.slot) 0 true) Going
      begins_at cursor leads onward small none = record {
        facts = (
          record {
            start = at.ranging.start;
            end = at.ranging.end;
            limit = at.ranging.limit;
            outline = at.ranging.outline;
            op = at.ranging.op;
            undecided = at.ranging.undecided;
            fresh = refl;
            order = omega arith;
            small = small;
            most = at.ranging.most;
          },
          refl,
          refl,
        );
        outline = refl;
        touches = touched;
        names = λ z h. absurd h;
        reads = λ z h. absurd h;
        keeps = λ z w h. absurd (none_some w h);
        leaves = λ m. refl;
        does = moves_back cursor leads onward none;
      }

      -- IT RETURNS A PAIR that is stored now
      module _ (key : ℕ) (value : M) (from : course.reach ≤ key) (small : key + 1 < 2 ^ 64) (may : MayGive task.outline course.given key) (at_key : (s : State M) → ShowsNodes t root s → (h : IsStoredAt s key value) × (h.slot ≡ spot.slot)) (saw : seen_payload task.last ≡ Some value) (none : (s : State M) → ShowsNodes t root s → NoneIsStored s course.reach key) where
        gives : (s : State M) (shows : ShowsNodes t root s) (planned : CallState M) → GoesOn (record (now scan) { cursor = key + 1; reach = key + 1; given = course.given + 1 }) planned → Gives s (now scan) (checked s shows) planned key value
        gives s shows planned on = record { saw = saw; from = from; may = may; at_key = (at_key s shows).0; at_node = (at_key s shows).1; passed = none s shows; next_is = on }

        room : course.given < at.ranging.limit
        room = let h : (key < at.ranging.end) × (course.given < at.ranging.limit) = subst (λ (o : Outline). MayGive o course.given key) at.ranging.outline may in h.1

        -- and goes on here, or ends
        gives_on : (next : Scan) → Within (spots_on next) (spots_on scan)
            → (s : State M) (id : ℕ) → ShowsNodes t root s → DoesAs Granted same s (with_call s id (flight_on pin (unreported task) (past_pair course key) next)) id (now scan) env (report_of kind.Check (Some spot.slot) 0 true) (Pair key value) kind.Check
        gives_on next within s id shows =
            let planned : CallState M = record (now scan) { cursor = key + 1; reach = key + 1; given = course.given + 1 } in
            check_ok Granted same s id (now scan) env (inl at.ranging.undecided) spot.slot spot.word (one a) (seen_at t root s shows spot.slot a here) known planned (spots_on next) (Pair key value) word
            (gives s shows planned (inl refl)) within

        frees : (s : State M) (id : ℕ) → ShowsNodes t root s
            → DoesAs Granted same s (with_call s id (flight_on pin (restarted task) (past_pair course key) TakeRoot)) id (now scan) env (report_of kind.Check (Some spot.slot) 0 true) (Pair key value) kind.Check
        frees s id shows =
            let planned : CallState M = back (record (now scan) { cursor = key + 1; reach = key + 1; given = course.given + 1 }) in
            check_ok Granted same s id (now scan) env (inl at.ranging.undecided) spot.slot spot.word (one a) (seen_at t root s shows spot.slot a here) known planned [] (Pair key value) word
            (gives s shows planned (inr refl)) (λ z w h. absurd (none_some w h))

        pub gives_and_ends : HasAll task.outline (key + 1) (course.given + 1)
            → IsScanned Granted same t root pin task course scan env (unreported task) (past_pair course key) Finish (report_of kind.Check (Some spot.slot) 0 true) (Pair key value)
        gives_and_ends all = record {
          facts = inr (at.ranging.undecided, all, (Range at.ranging.start at.ranging.end at.ranging.limit, at.ranging.op, sym at.ranging.outline));
          outline = refl;
          touches = touched;
          names = λ z h. absurd h;
          reads = λ z h. absurd h;
          keeps = λ z w h. absurd (none_some w h);
          leaves = λ m. refl;
          does = gives_on Finish (none_within (spots_on scan));
        }

        pub gives_and_begins : IsScanned Granted same t root pin task course scan env (restarted task) (past_pair course key) TakeRoot (report_of kind.Check (Some spot.slot) 0 true) (Pair key value)
        gives_and_begins = record {
          facts = (
            record {
              start = at.ranging.start;
              end = at.ranging.end;
              limit = at.ranging.limit;
              outline = at.ranging.outline;
              op = at.ranging.op;
              undecided = at.ranging.undecided;
              fresh = refl;
              order = omega arith;
              small = small;
              most = omega (arith, room);
            },
            refl,
            refl,
          );
          outline = refl;
          touches = touched;
          names = λ z h. absurd h;
          reads = λ z h. absurd h;
          keeps = λ z w h. absurd (none_some w h);
          leaves = λ m. refl;
          does = frees;
        }

        pub gives_and_stays : Within (spots_on (Read spot)) (spots_on scan) → ((slot : ℕ) → IsIn slot (spot.slot ∷ []) → IsIn slot (named_on scan)) → key + 1 < high a.node.prefix → low a.node.prefix ≤ key
            → IsScanned Granted same t root pin task course scan env (unreported task) (past_pair course key) (Read spot) (report_of kind.Check (Some spot.slot) 0 true) (Pair key value)
        gives_and_stays within slots under over = record {
          facts = record {
            ranging = record {
              start = at.ranging.start;
              end = at.ranging.end;
              limit = at.ranging.limit;
              outline = at.ranging.outline;
              op = at.ranging.op;
              undecided = at.ranging.undecided;
              fresh = at.ranging.fresh;
              order = omega arith;
              small = small;
              most = omega (arith, room);
            };
            here = at.here;
            looks = λ (b : PlacedNode M) (h : t spot.slot ≡ Some b).
                let now_at : (key + 1 ≡ max (key + 1) (low a.node.prefix)) × (key + 1 < high a.node.prefix) = (omega (arith, over), under) in
                subst (λ (z : PlacedNode M). (key + 1 ≡ max (key + 1) (low z.node.prefix)) × (key + 1 < high z.node.prefix)) (some_same a b (sym here ∙ h)) now_at;
          };
          outline = refl;
          touches = touched;
          names = λ z h. inr (inl (slots z h));
          reads = λ z h. absurd h;
          keeps = λ z w h. inl (within z w h);
          leaves = λ m. refl;
          does = gives_on (Read spot) within;
        }
