-- The call after a Check.
use Rattle.std.proofs.Common.{◌≡◌, ◌≢◌, ℕ, ◌<◌, ◌^◌, Bool, true, false, [], Option, Some, None, IsSome, ◌⊎◌, inl, inr, refl, sym, subst, ap, ◌∙◌, arith}
use Rattle.spec_map.proofs.MapLaws.{lookup-put_same}
use Rattle.spec_map.specs.Map.{Pairs, lookup}
use Rattle.spec_node.specs.Key.{Begins, next_byte}
use Rattle.spec_node.specs.TableNode.{TableNode, Child}
use Rattle.spec_node.specs.declared.child.Child.TheVariants.{Payload, Node as below_at}
use Rattle.spec_olc.specs.Calls.{Outline, IsPoint, bytes_of, key_of}
use Rattle.spec_olc.specs.Content.{IsContent, IsCurrent}
use Rattle.spec_olc.specs.Deciding.{AppliesCall}
use Rattle.spec_olc.specs.Kinds.{DoesAs, report_of}
use Rattle.spec_olc.specs.Local.{AsksWith, SharesNone, payload_in, seen_child, seen_payload}
use Rattle.spec_olc.specs.Reading.{EndsAt, IsSeenOf, KeyEnds, child_for}
use Rattle.spec_olc.specs.State.{State, CallState, back, settled, with_call}
use Rattle.spec_olc.specs.declared.types.Asking.TheVariants.{Wants}
use Rattle.spec_olc.specs.declared.types.Env.{Env}
use Rattle.spec_olc.specs.declared.types.Kind.TheVariants as kind
use Rattle.spec_olc.specs.declared.types.Op.TheVariants.{ComputeIfPresent, ComputeOrInsert, Range}
use Rattle.spec_olc.specs.declared.types.Outcome.TheVariants.{Going, Ask, Decided}
use Rattle.spec_olc.specs.declared.types.Progress.TheVariants as progress
use Rattle.spec_olc.specs.declared.types.Reply.{Reply}
use Rattle.spec_olc.specs.declared.types.Seen.{Seen}
use Rattle.olc_state.specs.declared.stage.Path.{Path}
use Rattle.olc_state.specs.declared.stage.Spot.{Spot}
use Rattle.olc_state.specs.declared.stage.Stage.{Stage}
use Rattle.olc_state.specs.declared.stage.Stage.TheVariants.{TakeRoot, Read, Check, TakeBelow, CheckAbove, Answer, Finish}
use Rattle.olc_state.specs.declared.stage.Task.{Task}
use Rattle.olc_state.specs.declared.tail.Case.{Case}
use Rattle.olc_state.specs.inner.Effects.{HasClosure, IsChange, IsLeft, IsOrInsert, reply_with}
use Rattle.olc_state.specs.inner.Tables.{IsPlaced, IsIn, Known, LedTo, OnPath, TestOf}
use Rattle.olc_state.specs.inner.TailFacts.{WaitsForAnswer, WaitsFor, found}
use Rattle.olc_state.specs.inner.Tails.{case_slots, case_spots, case_work, path_spots}
use Rattle.olc_state.specs.inner.Tasks.{IsFreshly, IsOpen, Agrees, Saw, SawNode, MaySee, closed, key_bytes, restarted}
use Rattle.olc_state.specs.inner.Facts.{Facts, named_at}
use Rattle.olc_state.specs.inner.Shown.{cleaning_at, cursor_at, flight, given_at, held_at, made_at, reach_at, spots_of}
use Rattle.olc_state.specs.inner.Turns.{IsRead, MayFollow, ShowsNodes, work, work_of}
use Rattle.olc_state.specs.inner.World.{PlacedNode, NodeMap}
use Rattle.olc_state.proofs.Contents.{current_there, kept_now, none_now}
use Rattle.olc_state.proofs.Options.{none_some, some_same}
use Rattle.olc_state.proofs.Reaching.{one, seen_at}
use Rattle.olc_state.proofs.Ways.{check_absent, check_present, check_below, check_mismatch}
use Rattle.olc_state.proofs.Unlike.{decided_open, false_true}
use Rattle.olc_state.proofs.Records.{IsPlain, at, plain_cleaning, plain_cursor, plain_given, plain_reach}
use Rattle.olc_state.proofs.Replies.{returned_wants}
use Rattle.olc_descend.proofs.Courses.{forgets, holding_as, plain_as, still_current, below_other, below_not_root, descends}
use Rattle.olc_descend.proofs.Events.{Within, check_ok, check_fails, ends_at_none, failed_open, looks_on}
use Rattle.olc_descend.proofs.Spots.{here_known, above_known, step_down}
use Rattle.olc_descend.proofs.Takes.{restarted_fresh}
use Rattle.olc_descend.proofs.Unchanged.{Tells, left_tells, left_leads, same_tells, same_leads}

-- a call that asks its closure with this
abbrev pub asking : {M : Type 0} → Task M → Option M → Task M
asking task old = record task { spare = None; question = None; asking = Wants old }

-- a call with a closure sees payloads
pub closure_shares : (o : Outline) → HasClosure o → SharesNone o None → ⊥
closure_shares (ComputeIfPresent k) asks shares = shares
closure_shares (ComputeOrInsert k v) asks shares = shares
closure_shares o asks shares = asks

-- a ComputeOrInsert has a closure
pub inserts_asks : (o : Outline) → IsOrInsert o → HasClosure o
inserts_asks (ComputeOrInsert k v) h = tt
inserts_asks o h = absurd h

module _ {M : Type 0} where
  -- a closure is asked with a payload that was seen
  pub asks_present : (o : Outline) (seen : Option M) (v : M) → HasClosure o → seen ≡ Some v → AsksWith o seen seen
  asks_present (ComputeIfPresent k) seen v h is = (v, is, is)
  asks_present (ComputeOrInsert k x) seen v h is = refl
  asks_present o seen v h is = absurd h

  -- the closure of a ComputeOrInsert also if no payload was seen
  pub asks_inserts : (o : Outline) (seen : Option M) → IsOrInsert o → AsksWith o seen seen
  asks_inserts (ComputeOrInsert k x) seen h = refl
  asks_inserts o seen h = absurd h

  -- a point call looks under its key's byte
  pub child_point : (o : Outline) → IsPoint o → (key : ℕ) (n : TableNode M) → child_for o key n ≡ lookup n.children (next_byte n.prefix (bytes_of key))
  child_point (Range a b n) point key node = absurd point
  child_point o point key n = refl

  -- a call that sees payloads sees the child as it is
  pub seen_exact : (Q : Type 0) (c seen : Option (Child M)) → IsSeenOf Q c seen → Q → seen ≡ c
  seen_exact Q None seen h q = h
  seen_exact Q (Some (Payload v)) seen h q = h q
  seen_exact Q (Some (below_at s)) seen h q = h

module _ {M : Type 0} (Granted : Type 0) (same : M → M → Bool) (t : NodeMap M) (root pin : ℕ) (task : Task M) (env : Env M) (placed : IsPlaced t root) (path : Path) (a : PlacedNode M)
    (here : t path.here.slot ≡ Some a) where
  -- a Check that fails
  pub restarts : (stage : Stage) → held_at stage ≡ [] → made_at stage ≡ [] → IsPlain stage → key_of task.outline < 2 ^ 64 → IsOpen task → lookup (spots_of stage) path.here.slot ≡ Some path.here.word → IsIn path.here.slot (named_at stage) → a.word ≢ path.here.word
      → IsRead Granted same t root pin (at stage task) env (at TakeRoot (restarted task)) (report_of kind.Check (Some path.here.slot) 0 false) Going
  restarts stage held made plain small opened known named other = record {
    facts = record { small = small; at = (restarted_fresh task opened, refl) };
    held = refl;
    made = refl;
    course = forgets t (inr named) (λ z h. h) (λ z h. h) refl refl
        (λ served. inl (record { forgotten = refl; work = omega arith }, (λ current calm. other (current path.here.slot path.here.word known a here))));
    does = λ s id shows.
        subst (λ (z : CallState M). DoesAs Granted same s (with_call s id z) id (flight pin (at stage task)) env (report_of kind.Check (Some path.here.slot) 0 false) Going kind.Check)
        (plain_as stage (key_of task.outline) (back (flight pin (at stage task))) [] [] plain refl (inl refl) refl refl held made)
        (check_fails Granted same s id (flight pin (at stage task)) env (inl opened.undecided) path.here.slot path.here.word (one a) (seen_at t root s shows path.here.slot a here) known (back (flight pin (at stage task))) (failed_open (flight pin (at stage task)) opened.undecided) other);
    carries = λ s shows m content. refl;
  }

  pub check_restarts : Facts Granted same t root pin (at (Check path) task) → a.word ≢ path.here.word
      → IsRead Granted same t root pin (at (Check path) task) env (at TakeRoot (restarted task)) (report_of kind.Check (Some path.here.slot) 0 false) Going
  check_restarts facts other = let f = facts.at in restarts (Check path) refl refl tt facts.small f.0.opened (here_known path) (inl refl) other

  pub above_restarts : (below : Spot) (fits : Bool) → Facts Granted same t root pin (at (CheckAbove path below fits) task) → a.word ≢ path.here.word
      → IsRead Granted same t root pin (at (CheckAbove path below fits) task) env (at TakeRoot (restarted task)) (report_of kind.Check (Some path.here.slot) 0 false) Going
  above_restarts below fits facts other = let f = facts.at in restarts (CheckAbove path below fits) refl refl tt facts.small f.0.opened (above_known path below f.6) (inr (inl refl)) other

  module _ (word : a.word ≡ path.here.word) where
    -- a Check that passes, after which the call goes on
    pub goes : (stage next : Stage) → held_at stage ≡ [] → made_at stage ≡ [] → held_at next ≡ [] → made_at next ≡ [] → IsPlain stage → IsPlain next → IsFreshly task → lookup (spots_of stage) path.here.slot ≡ Some path.here.word → IsIn path.here.slot (named_at stage) → Within (spots_of next) (spots_of stage)
        → Facts Granted same t root pin (at next task) → ((slot : ℕ) → IsIn slot (named_at next) → (slot ≡ root) ⊎ (IsIn slot (named_at stage) ⊎ MayFollow t stage task.last slot))
        → ((slot : ℕ) → MayFollow t next task.last slot → ⊥) → (IsPoint task.outline → work_of t (at next task) < work_of t (at stage task))
        → IsRead Granted same t root pin (at stage task) env (at next task) (report_of kind.Check (Some path.here.slot) 0 true) Going
    goes stage next held made held_next made_next plain plain_next fresh known named within facts names reads falls = record {
      facts = facts;
      held = held_next;
      made = made_next;
      course = record {
        touches = λ z e make. inr (subst (λ (x : ℕ). IsIn x (named_at stage)) (some_same path.here.slot z e) named);
        names = names;
        reads = λ z h. absurd (reads z h);
        outline = refl;
        keeps = still_current t stage next within;
        falls = λ served. inr (falls served);
      };
      does = λ s id shows.
          subst (λ (z : CallState M). DoesAs Granted same s (with_call s id z) id (flight pin (at stage task)) env (report_of kind.Check (Some path.here.slot) 0 true) Going kind.Check)
          (holding_as (record (flight pin (at stage task)) { remembered = spots_of next }) (cursor_at next (key_of task.outline)) (reach_at next (key_of task.outline)) (given_at next) (cleaning_at next) (held_at next) (made_at next)
          (plain_cursor stage plain (key_of task.outline) ∙ sym (plain_cursor next plain_next (key_of task.outline))) (plain_reach stage plain (key_of task.outline) ∙ sym (plain_reach next plain_next (key_of task.outline)))
          (plain_given stage plain ∙ sym (plain_given next plain_next)) (plain_cleaning stage plain ∙ sym (plain_cleaning next plain_next)) (held ∙ sym held_next) (made ∙ sym made_next))
          (check_ok Granted same s id (flight pin (at stage task)) env (inl fresh.opened.undecided) path.here.slot path.here.word (one a) (seen_at t root s shows path.here.slot a here) known
          (flight pin (at stage task)) (spots_of next) Going word (looks_on s (flight pin (at stage task)) task.outline _ fresh.opened.point) within);
      carries = λ s shows m content. refl;
    }

    pub check_goes_down : (slot : ℕ) → Facts Granted same t root pin (at (Check path) task) → IsPoint task.outline → SawNode task.last slot
        → IsRead Granted same t root pin (at (Check path) task) env (at (TakeBelow path slot) task) (report_of kind.Check (Some path.here.slot) 0 true) Going
    check_goes_down slot facts point saw_node =
        let f = facts.at in
        let saw : Saw Granted same t pin path task = f.2 in
        let one_seen : saw.seen ≡ saw_node.seen = some_same saw.seen saw_node.seen (sym saw.is ∙ saw_node.is) in
        let child : saw.seen.child ≡ Some (below_at slot) = ap (λ (z : Seen M). z.child) one_seen ∙ saw_node.child in
        let led : LedTo t path.here (key_bytes task) slot = λ (b : PlacedNode M) (h : t path.here.slot ≡ Some b) (e : b.word ≡ path.here.word).
        sym (child_point task.outline point (key_of task.outline) b.node) ∙ (saw.agrees b h e).below slot child in
        goes (Check path) (TakeBelow path slot) refl refl refl refl tt tt f.0 (here_known path) (inl refl) (λ z w h. h)
        (record {
          small = facts.small;
          at = (
            f.0,
            f.1,
            led,
            saw_node,
            check_below t root (key_bytes task) placed pin path a f.1 here word slot (led a here word),
            below_not_root t root placed pin (key_bytes task) path f.1 slot led a here word,
            below_other t root placed pin (key_bytes task) path f.1 slot led a here word,
          );
        })
        (λ z h. elim h [ inl e ↦ inr (inr (subst (λ (x : ℕ). SawNode task.last x) e saw_node, record { node = a; here = here; word = word })) | inr e ↦ inr (inl e) ])
        (λ z h. h) (λ served. omega arith)

    pub above_goes : (below : Spot) → Facts Granted same t root pin (at (CheckAbove path below true) task)
        → IsRead Granted same t root pin (at (CheckAbove path below true) task) env (at (Read (record { above = Some path.here; here = below })) task) (report_of kind.Check (Some path.here.slot) 0 true) Going
    above_goes below facts =
        let f = facts.at in
        let on : OnPath t root pin (key_bytes task) path = f.1 in
        goes (CheckAbove path below true) (Read (record { above = Some path.here; here = below })) refl refl refl refl tt tt f.0 (above_known path below f.6) (inr (inl refl)) (step_down path below)
        (record { small = facts.small; at = (f.0, record { above = (on.here, on.way, f.2); here = f.4; way = λ (b : PlacedNode M) (h : t below.slot ≡ Some b). (f.5 b h).0 refl; apart = λ (p : Spot) (e : Some path.here ≡ Some p). subst (λ (z : Spot). z.slot ≢ below.slot) (some_same path.here p e) (λ q. f.6 (sym q)) }) })
        (λ z h. elim h [ inl e ↦ inr (inl (inl e)) | inr more ↦ elim more [ inl e ↦ inr (inl (inr (inl e))) | inr never ↦ absurd never ] ])
        (λ z h. h) (λ served. let less = descends t root placed pin (key_bytes task) path on below.slot f.2 a here word in omega (arith, less))

    -- THE CALL ASKS its closure with what the last Read reported, which is the current value of its key
    pub asks_at : (stage : Stage) (case : Case) (old : Option M) → held_at stage ≡ [] → made_at stage ≡ [] → IsPlain stage → IsFreshly task → lookup (spots_of stage) path.here.slot ≡ Some path.here.word → IsIn path.here.slot (named_at stage)
        → Within (case_spots case) (spots_of stage) → AsksWith task.outline (seen_payload task.last) old → Facts Granted same t root pin (at (Answer case) (asking task old))
        → ((slot : ℕ) → IsIn slot (case_slots case) → (slot ≡ root) ⊎ (IsIn slot (named_at stage) ⊎ MayFollow t stage task.last slot))
        → (IsPoint task.outline → case_work case < work t task.progress stage) → ((s : State M) → ShowsNodes t root s → IsCurrent s (key_of task.outline) old)
        → IsSome task.last → ((s : State M) → ShowsNodes t root s → KeyEnds s (flight pin (at stage task)))
        → IsRead Granted same t root pin (at stage task) env (at (Answer case) (asking task old)) (report_of kind.Check (Some path.here.slot) 0 true) (Ask old)
    asks_at stage case old held made plain fresh known named within asks facts names falls current read way_ends = record {
      facts = facts;
      held = refl;
      made = refl;
      course = record {
        touches = λ z e make. inr (subst (λ (x : ℕ). IsIn x (named_at stage)) (some_same path.here.slot z e) named);
        names = names;
        reads = λ z h. absurd h;
        outline = refl;
        keeps = still_current t stage (Answer case) within;
        falls = λ point. inr (let less = falls point in omega (arith, less));
      };
      does = λ s id shows.
          subst (λ (z : CallState M). DoesAs Granted same s (with_call s id z) id (flight pin (at stage task)) env (report_of kind.Check (Some path.here.slot) 0 true) (Ask old) kind.Check)
          (plain_as stage (key_of task.outline) (record (flight pin (at stage task)) { remembered = case_spots case; asking = Wants old }) [] [] plain refl (inr refl) refl refl held made)
          (check_ok Granted same s id (flight pin (at stage task)) env (inl fresh.opened.undecided) path.here.slot path.here.word (one a) (seen_at t root s shows path.here.slot a here) known
          (record (flight pin (at stage task)) { asking = Wants old }) (case_spots case) (Ask old) word
          (record { undecided = fresh.opened.undecided; read = read; fresh = fresh.fresh; is = asks }, current s shows, refl, way_ends s shows) within);
      carries = λ s shows m content. refl;
    }

    -- THE CALL IS DECIDED with a reply that leaves the content unchanged
    module _ (stage : Stage) (held : held_at stage ≡ []) (made : made_at stage ≡ []) (plain : IsPlain stage) (small : key_of task.outline < 2 ^ 64) (known : lookup (spots_of stage) path.here.slot ≡ Some path.here.word) (named : IsIn path.here.slot (named_at stage))
        (more : IsPoint task.outline → 1 < work_of t (at stage task)) (read : IsSome task.last) (way_ends : (s : State M) → ShowsNodes t root s → KeyEnds s (flight pin (at stage task))) where
      pub ends : (reply : Reply M) → Tells Granted same (flight pin (at stage task)) reply
          → ((s : State M) → ShowsNodes t root s → (m : Pairs M) → IsContent s m → AppliesCall same m m (flight pin (at stage task)) reply)
          → IsRead Granted same t root pin (at stage task) env (at Finish (closed progress.Decided task)) (report_of kind.Check (Some path.here.slot) 0 true) (Decided reply)
      ends reply settled_so leads = record {
        facts = record { small = small; at = decided_open };
        held = refl;
        made = refl;
        course = forgets t (inr named) (λ z h. h) (λ z h. h) refl refl (λ point. inr (more point));
        does = λ s id shows.
            subst (λ (z : CallState M). DoesAs Granted same s (with_call s id z) id (flight pin (at stage task)) env (report_of kind.Check (Some path.here.slot) 0 true) (Decided reply) kind.Check)
            (plain_as stage (key_of task.outline) (record (settled progress.Decided (flight pin (at stage task))) { remembered = [] }) [] [] plain refl (inr refl) refl refl held made)
            (check_ok Granted same s id (flight pin (at stage task)) env (inl settled_so.0.undecided) path.here.slot path.here.word (one a) (seen_at t root s shows path.here.slot a here) known
            (settled progress.Decided (flight pin (at stage task))) [] (Decided reply) word (settled_so.0, settled_so.1, refl, way_ends s shows) (λ z w h. absurd (none_some w h)));
        carries = λ s shows m content. leads s shows m content;
      }

      -- the current value of the key, as the call has seen it
      module _ (at_key : Option M) (seen : MaySee Granted same task → seen_payload task.last ≡ at_key)
          (there : (s : State M) → ShowsNodes t root s → (m : Pairs M) → IsContent s m → lookup m (key_of task.outline) ≡ at_key) where
        -- it changes nothing
        pub ends_left : (fresh : IsFreshly task) (reply : Reply M) → IsLeft same fresh.opened.op at_key reply
            → IsRead Granted same t root pin (at stage task) env (at Finish (closed progress.Decided task)) (report_of kind.Check (Some path.here.slot) 0 true) (Decided reply)
        ends_left fresh reply left =
            ends reply (left_tells Granted same pin stage plain task fresh.opened at_key read reply fresh.fresh left seen)
            (λ s shows m content. left_leads Granted same pin stage plain task fresh.opened at_key read reply fresh.fresh left m (there s shows m content))

        -- what it would store is the current value already
        pub ends_changed : (opened : IsOpen task) → IsChange same opened.op task.asking at_key at_key
            → IsRead Granted same t root pin (at stage task) env (at Finish (closed progress.Decided task)) (report_of kind.Check (Some path.here.slot) 0 true) (Decided (reply_with task.outline at_key task.returns))
        ends_changed opened change =
            ends (reply_with task.outline at_key task.returns) (same_tells Granted same pin stage plain task opened at_key read change seen)
            (λ s shows m content. same_leads Granted same pin stage plain task opened at_key read change m content.map (there s shows m content))

    -- WHAT A POINT CALL HAS SEEN at a node on its key's path
    module _ (facts : Facts Granted same t root pin (at (Check path) task)) (point : IsPoint task.outline) where
      saw_here : Saw Granted same t pin path task
      saw_here = facts.at.2

      agrees_here : Agrees Granted same task (Check path) pin a saw_here.seen
      agrees_here = saw_here.agrees a here word

      child_here : child_for task.outline (key_of task.outline) a.node ≡ found a (key_bytes task)
      child_here = child_point task.outline point (key_of task.outline) a.node

      -- a node under the key's byte is seen by every call
      pub sees_below : (slot : ℕ) → found a (key_bytes task) ≡ Some (below_at slot) → SawNode task.last slot
      sees_below slot there = record {
        seen = saw_here.seen;
        is = saw_here.is;
        child = subst (λ (c : Option (Child M)). IsSeenOf (MaySee Granted same task) c saw_here.seen.child) (child_here ∙ there) agrees_here.reading.child;
      }

      -- so is an absent entry
      pub sees_none : found a (key_bytes task) ≡ None → seen_payload task.last ≡ None
      sees_none there =
          ap seen_payload saw_here.is
          ∙ ap payload_in (subst (λ (c : Option (Child M)). IsSeenOf (MaySee Granted same task) c saw_here.seen.child) (child_here ∙ there) agrees_here.reading.child)

      -- the key's way ends unless there is a node
      pub way_ends_here : ((slot : ℕ) → found a (key_bytes task) ≡ Some (below_at slot) → ⊥) → (s : State M) → KeyEnds s (flight pin (at (Check path) task))
      way_ends_here none s =
          ends_at_none s (flight pin (at (Check path) task)) _ (seen_child task.last)
          (λ slot is. none slot (sym child_here ∙ agrees_here.below slot (ap (λ z. seen_child z) (sym saw_here.is) ∙ is)))

      pub has_read : IsSome task.last
      has_read = subst (λ (z : Option (Seen M)). IsSome z) (sym saw_here.is) refl

      -- a payload is seen by the calls that see payloads
      pub sees_found : MaySee Granted same task → seen_payload task.last ≡ payload_in (found a (key_bytes task))
      sees_found sees = ap seen_payload saw_here.is ∙ ap payload_in (seen_exact (MaySee Granted same task) _ saw_here.seen.child agrees_here.reading.child sees ∙ child_here)

      -- they keep one more share of it
      pub keeps_spare : MaySee Granted same task → task.spare ≡ payload_in (found a (key_bytes task))
      keeps_spare sees = agrees_here.spare sees ∙ (sym (ap seen_payload saw_here.is) ∙ sees_found sees)

      -- so the value that a closure is asked with is kept for the comparison
      pub keeps_old : HasClosure task.outline → task.spare ≡ seen_payload task.last
      keeps_old asks = agrees_here.spare (λ shares. absurd (closure_shares task.outline asks shares)) ∙ sym (ap seen_payload saw_here.is)

      -- and a third share to ask the closure with
      pub keeps_question : HasClosure task.outline → task.question ≡ seen_payload task.last
      keeps_question asks = agrees_here.question asks ∙ sym (ap seen_payload saw_here.is)

      -- what is stored at the key
      pub absent_now : found a (key_bytes task) ≡ None → (s : State M) → ShowsNodes t root s → IsCurrent s (key_of task.outline) None
      absent_now empty s shows = none_now t root s placed shows (key_of task.outline) (check_absent t root (key_bytes task) placed pin path a facts.at.1 here word empty)

      pub present_now : (v : M) → found a (key_bytes task) ≡ Some (Payload v) → (s : State M) → ShowsNodes t root s → IsCurrent s (key_of task.outline) (Some v)
      present_now v payload s shows =
          kept_now t root s placed shows (key_of task.outline) v facts.small (check_present t root (key_bytes task) placed pin path a facts.at.1 here word v payload)

      -- what follows for the content
      pub absent_there : found a (key_bytes task) ≡ None → (s : State M) → ShowsNodes t root s → (m : Pairs M) → IsContent s m → lookup m (key_of task.outline) ≡ None
      absent_there empty s shows m content = current_there s m content (key_of task.outline) None (absent_now empty s shows)

      pub present_there : (v : M) → found a (key_bytes task) ≡ Some (Payload v) → (s : State M) → ShowsNodes t root s → (m : Pairs M) → IsContent s m → lookup m (key_of task.outline) ≡ Some v
      present_there v payload s shows m content = current_there s m content (key_of task.outline) (Some v) (present_now v payload s shows)

    -- THE KEY IS ABSENT if the call was led to a node off the key's path
    module _ (below : Spot) (facts : Facts Granted same t root pin (at (CheckAbove path below false) task)) where
      pub above_none : seen_payload task.last ≡ None
      above_none = let saw_node : SawNode task.last below.slot = facts.at.3 in ap seen_payload saw_node.is ∙ ap payload_in saw_node.child

      -- its way ends at that node
      pub above_read : IsSome task.last
      above_read = let saw_node : SawNode task.last below.slot = facts.at.3 in subst (λ (z : Option (Seen M)). IsSome z) (sym saw_node.is) refl

      pub way_ends_above : (s : State M) → ShowsNodes t root s → KeyEnds s (flight pin (at (CheckAbove path below false) task))
      way_ends_above s shows =
          let f = facts.at in
          let saw_node : SawNode task.last below.slot = f.3 in
          let kn : Known t pin below = f.4 in
          let test : TestOf t below.slot (key_bytes task) false = f.5 in
          subst (λ (c : Option (Child M)). EndsAt s (flight pin (at (CheckAbove path below false) task)) (λ b. Begins b.prefix (key_bytes task) → ⊥) c) (sym (ap (λ z. seen_child z) saw_node.is ∙ saw_node.child))
          (record { slot = below.slot; node = one kn.node; word = below.word; here = seen_at t root s shows below.slot kn.node kn.here; word_is = lookup-put_same (path_spots path) below.slot below.word }, refl, (λ begins. false_true ((test kn.node kn.here).1 begins)))

      pub above_now : (s : State M) → ShowsNodes t root s → IsCurrent s (key_of task.outline) None
      above_now s shows =
          let f = facts.at in
          none_now t root s placed shows (key_of task.outline) (check_mismatch t root (key_bytes task) placed pin path a f.1 here word below false f.2 f.4 f.5 refl)

      pub above_absent : (s : State M) → ShowsNodes t root s → (m : Pairs M) → IsContent s m → lookup m (key_of task.outline) ≡ None
      above_absent s shows m content = current_there s m content (key_of task.outline) None (above_now s shows)

-- WHAT A CALL KNOWS that asks its closure
module _ {M : Type 0} (Granted : Type 0) (same : M → M → Bool) (task : Task M) (old : Option M) (fresh : IsFreshly task) (read : IsSome task.last) where
  pub asking_open : IsOpen (asking task old)
  asking_open =
      let o = fresh.opened in
      record { undecided = o.undecided; op = o.op; op_is = o.op_is; outline = o.outline; point = o.point; returned = returned_wants o.op task.asking old task.returns o.returned }

  pub asking_waits : HasClosure task.outline → old ≡ seen_payload task.last → WaitsForAnswer Granted same (asking task old)
  asking_waits closure is = record { opened = asking_open; closure = closure; wants = ap (λ (z : Option M). Wants z) is; read = read }

  pub asking_waits_for : IsOrInsert task.outline → old ≡ seen_payload task.last → seen_payload task.last ≡ None → WaitsFor Granted same (asking task old)
  asking_waits_for inserts is none = record { waits = asking_waits (inserts_asks task.outline inserts) is; inserts = inserts; none = none }
