-- WHAT A CALL DOES once its closure has answered: it has to write, or the answer is the current value already.
use Rattle.std.proofs.Common.{◌≡◌, ◌≢◌, ℕ, ◌+◌, ◌<◌, Bool, true, false, [], ◌∷◌, Option, Some, None, IsSome, inl, inr, refl, sym, subst, ap, ◌∙◌, arith}
use Rattle.std.proofs.lemmas.Bool.{eq-eqb}
use Rattle.spec_map.specs.Map.{Pairs, lookup}
use Rattle.spec_node.specs.TableNode.{Child}
use Rattle.spec_node.specs.declared.child.Child.TheVariants.{Payload}
use Rattle.spec_olc.specs.Calls.{Outline, key_of, or_else, outline_of}
use Rattle.spec_olc.specs.Content.{IsContent}
use Rattle.spec_olc.specs.Kinds.{DoesAs, SharesAnswer, report_of}
use Rattle.spec_olc.specs.Local.{payload_in, seen_child, seen_payload}
use Rattle.spec_olc.specs.Meaning.{asking_of, in_some}
use Rattle.spec_olc.specs.Reading.{KeyEnds}
use Rattle.spec_olc.specs.State.{State, CallState, with_call}
use Rattle.spec_olc.specs.declared.types.Asking.{Asking}
use Rattle.spec_olc.specs.declared.types.Asking.TheVariants.{Fresh, Wants, Given}
use Rattle.spec_olc.specs.declared.types.Env.{Env}
use Rattle.spec_olc.specs.declared.types.Kind.TheVariants as kind
use Rattle.spec_olc.specs.declared.types.Op.{Op}
use Rattle.spec_olc.specs.declared.types.Op.TheVariants.{Get, Insert, Remove, ComputeIfPresent, ComputeOrInsert, CompareExchange, Range}
use Rattle.spec_olc.specs.declared.types.Outcome.TheVariants.{Decided, Going}
use Rattle.spec_olc.specs.declared.types.Progress.TheVariants as progress
use Rattle.olc_state.specs.declared.stage.Path.{Path}
use Rattle.olc_state.specs.declared.stage.Spot.{Spot}
use Rattle.olc_state.specs.declared.stage.Stage.{Stage}
use Rattle.olc_state.specs.declared.stage.Stage.TheVariants.{Answer, Confirm, Finish, Tail, TakeRoot}
use Rattle.olc_state.specs.declared.stage.Task.{Task}
use Rattle.olc_state.specs.declared.tail.Case.{Case}
use Rattle.olc_state.specs.declared.tail.Case.TheVariants as case
use Rattle.olc_state.specs.declared.tail.Large.{Large}
use Rattle.olc_state.specs.declared.tail.Large.TheVariants.{Detach}
use Rattle.olc_state.specs.declared.tail.NodePair.{NodePair}
use Rattle.olc_state.specs.declared.tail.Small.{Small}
use Rattle.olc_state.specs.declared.tail.Small.TheVariants.{Entry}
use Rattle.olc_state.specs.declared.tail.Tail.TheVariants.{Upgrade, UpgradeAbove}
use Rattle.olc_state.specs.inner.Effects.{HasClosure, IsChange, IsOrInsert, IsReturned, reply_with}
use Rattle.olc_state.specs.inner.Facts.{Facts, named_at}
use Rattle.olc_state.specs.inner.Shown.{cleaning_at, cursor_at, flight, given_at, held_at, made_at, reach_at, spots_of}
use Rattle.olc_state.specs.inner.Tables.{IsIn, IsPlaced, OnPath, While}
use Rattle.olc_state.specs.inner.TailFacts.{CaseFacts, IsConfirmed, IsPresent, LargeCase, SmallCase, WaitsForAnswer, WaitsFor, WritesAtKey, found, path_to}
use Rattle.olc_state.specs.inner.Tails.{case_slots, case_spots, case_work, pair_spots}
use Rattle.olc_state.specs.inner.Tasks.{IsOpen, MaySee, closed, key_bytes, restarted}
use Rattle.olc_state.specs.inner.Turns.{IsRead, MayFollow, ShowsNodes, cleanup_work, work_of}
use Rattle.olc_state.specs.inner.World.{PlacedNode, NodeMap}
use Rattle.olc_state.proofs.Contents.{kept_there}
use Rattle.olc_state.proofs.Options.{none_some}
use Rattle.olc_state.proofs.Records.{IsPlain, at, plain_cleaning, plain_cursor, plain_given, plain_reach}
use Rattle.olc_state.proofs.Ways.{known_linked, present_here}
use Rattle.olc_descend.proofs.Checks.{closure_shares, ends_changed, restarts}
use Rattle.olc_descend.proofs.Courses.{holding_as, still_current}
use Rattle.olc_descend.proofs.Events.{Within, ends_at_none}
use Rattle.olc_descend.proofs.Spots.{here_known, put_known}
use Rattle.olc_decide.specs.declared.presence.Judged.{Judged}
use Rattle.olc_decide.specs.declared.presence.Judged.TheVariants.{Other, Same, Stores, Removes}
use Rattle.olc_decide.specs.inner.Judged.{IsAfterAnswer, IsJudgedAnswer, removing, stage_for, value_of}
use Rattle.olc_decide.proofs.Absent.{work_of_large, writes_by}
use Rattle.olc_decide.proofs.Present.{payload_same, value_same}

-- WHAT AN ANSWER STORES, by the kind of its call
wants_same : {M : Type 0} (x y : Option M) → (let a : Asking M = Wants x in a ≡ Wants y) → x ≡ y
wants_same x y e = cc

given_same : {M : Type 0} (x y v w : Option M) → (let a : Asking M = Given x v in a ≡ Given y w) → x ≡ y
given_same x y v w e = cc

fresh_given : {M : Type 0} (x v : Option M) → (let a : Asking M = Fresh in a ≡ Given x v) → ⊥
fresh_given x v e = cc

fresh_wants : {M : Type 0} (x : Option M) → (let a : Asking M = Fresh in a ≡ Wants x) → ⊥
fresh_wants x e = cc

given_wants : {M : Type 0} (x v y : Option M) → (let a : Asking M = Given x v in a ≡ Wants y) → ⊥
given_wants x v y e = cc

module _ {M : Type 0} where
  -- the share of the answer, if the reply contains it
  given_returned : (op : Op M) (old answer returns : Option M) → HasClosure (outline_of op) → (SharesAnswer (outline_of op) → returns ≡ answer) → IsReturned op (Given old answer) returns
  given_returned (ComputeIfPresent k) old answer returns closure kept = kept tt
  given_returned (CompareExchange k old new) was answer returns closure kept = absurd closure
  given_returned op old answer returns closure kept = tt

  -- what an answer is for a ComputeIfPresent, and for a ComputeOrInsert
  value_as : (k : ℕ) (answer : Option M) → (let op : Op M = ComputeIfPresent k in value_of (Some op) answer ≡ answer)
  value_as k None = refl
  value_as k (Some v) = refl

  value_or : (k : ℕ) (v : M) (answer : Option M) → (let op : Op M = ComputeOrInsert k v in value_of (Some op) answer ≡ or_else answer v)
  value_or k v None = refl
  value_or k v (Some w) = refl

  module _ (same : M → M → Bool) where
    change_answered : (op : Op M) (v : M) (answer : Option M) → HasClosure (outline_of op) → IsChange same op (Given (Some v) answer) (Some v) (value_of (Some op) answer)
    change_answered (ComputeIfPresent k) v answer closure = rw (value_as k answer) refl
    change_answered (ComputeOrInsert k x) v answer closure = (answer, refl, value_or k x answer)
    change_answered op v answer closure = absurd closure

    change_inserts : (op : Op M) (answer : Option M) → IsOrInsert (outline_of op) → IsChange same op (Given None answer) None (value_of (Some op) answer)
    change_inserts (ComputeOrInsert k x) answer inserts = (answer, refl, value_or k x answer)
    change_inserts op answer inserts = absurd inserts

    -- a call with a closure that changes the current value has asked the closure with it
    change_asks : (op : Op M) (asking : Asking M) (v : M) (value : Option M) → HasClosure (outline_of op) → IsChange same op asking (Some v) value → (answer : Option M) × (asking ≡ Given (Some v) answer)
    change_asks (Get k) asking v value closure change = absurd change
    change_asks (Insert k x) asking v value closure change = absurd closure
    change_asks (Remove k) asking v value closure change = absurd closure
    change_asks (ComputeIfPresent k) asking v value closure change = (value, change)
    change_asks (ComputeOrInsert k x) asking v value closure change = (change.0, change.1)
    change_asks (CompareExchange k was new) asking v value closure change = absurd closure
    change_asks (Range a b n) asking v value closure change = absurd change

  pub confirm_given : (Granted : Type 0) (same : M → M → Bool) (task : Task M) (a : PlacedNode M) (c : IsConfirmed Granted same task a) → (answer : Option M) × (task.asking ≡ Given (Some c.value) answer)
  confirm_given Granted same task a c =
      let o = c.writes.opened in
      change_asks same o.op task.asking c.value c.writes.value (subst (λ (z : Outline). HasClosure z) (sym o.outline) c.closure) c.writes.change

-- what is there
some_is : {M : Type 0} (x : Option M) → IsSome x → (v : M) × (x ≡ Some v)
some_is None h = cc
some_is (Some v) h = (v, refl)

-- one of the two words of a pair
here_within : (pair : NodePair) → Within ((pair.here.slot, pair.here.word) ∷ []) (pair_spots pair)
here_within pair slot word h =
    elim (put_known [] pair.here.slot pair.here.word slot word h) [
      | inl is ↦ subst (λ (z : ℕ). lookup (pair_spots pair) z ≡ Some pair.here.word) is.0 (here_known (path_to pair)) ∙ ap Some is.1
      | inr never ↦ absurd (none_some word never)
    ]

pub asked_by : {M : Type 0} (Granted : Type 0) (same : M → M → Bool) (t : NodeMap M) (root pin : ℕ) (task : Task M) (c : Case) → CaseFacts Granted same t root pin task c → WaitsForAnswer Granted same task
asked_by Granted same t root pin task (case.Present pair only) facts = facts.0
asked_by Granted same t root pin task (case.Small path small) facts = facts.0.waits
asked_by Granted same t root pin task (case.Large pair large) facts = facts.0.waits

-- a call with its closure's answer
abbrev pub answered : {M : Type 0} → Task M → Option M → Option M → Option M → Task M
answered task old answer returns = record task { returns = returns; asking = Given old answer }

module _ {M : Type 0} (Granted : Type 0) (same : M → M → Bool) (t : NodeMap M) (root pin : ℕ) (task : Task M) (env : Env M) where
  -- THE ANSWER IS TAKEN
  module _ (old answer returns : Option M) (is : env.answer ≡ answer) (wants : task.asking ≡ Wants old) (kept : SharesAnswer task.outline → returns ≡ answer) where
    given_open : WaitsForAnswer Granted same task → IsOpen (answered task old answer returns)
    given_open waits =
        let o = waits.opened in
        record {
          undecided = o.undecided;
          op = o.op;
          op_is = o.op_is;
          outline = o.outline;
          point = o.point;
          returned = given_returned o.op old answer returns (subst (λ (z : Outline). HasClosure z) (sym o.outline) waits.closure) (λ shares. kept (subst (λ (z : Outline). SharesAnswer z) o.outline shares));
        }

    asked_seen : WaitsForAnswer Granted same task → old ≡ seen_payload task.last
    asked_seen waits = wants_same old (seen_payload task.last) (sym wants ∙ waits.wants)

    -- the call goes on
    hears : (c : Case) (next : Stage) → held_at next ≡ [] → made_at next ≡ [] → IsPlain next → WaitsForAnswer Granted same task → Within (spots_of next) (case_spots c) → Facts Granted same t root pin (at next (answered task old answer returns))
        → ((slot : ℕ) → IsIn slot (named_at next) → IsIn slot (case_slots c)) → ((slot : ℕ) → MayFollow t next task.last slot → ⊥) → work_of t (at next (answered task old answer returns)) < case_work c + cleanup_work task.progress task.outline
        → IsRead Granted same t root pin (at (Answer c) task) env (at next (answered task old answer returns)) (report_of kind.Answer None 0 true) Going
    hears c next held made plain waits within facts names reads falls = record {
      facts = facts;
      held = held;
      made = made;
      course = record {
        touches = λ z e make. absurd (none_some z e);
        names = λ z h. inr (inl (names z h));
        reads = λ z h. absurd (reads z h);
        outline = refl;
        keeps = still_current t (Answer c) next within;
        falls = λ point. inr falls;
      };
      does = λ s id shows.
          subst (λ (z : CallState M). DoesAs Granted same s (with_call s id z) id (flight pin (at (Answer c) task)) env (report_of kind.Answer None 0 true) Going kind.Answer)
          (holding_as (record (flight pin (at (Answer c) task)) { remembered = spots_of next; asking = Given old answer }) (cursor_at next (key_of task.outline)) (reach_at next (key_of task.outline)) (given_at next) (cleaning_at next) (held_at next) (made_at next) (sym (plain_cursor next plain (key_of task.outline))) (sym (plain_reach next plain (key_of task.outline))) (sym (plain_given next plain)) (sym (plain_cleaning next plain)) (sym held) (sym made)) (
            inl waits.opened.undecided,
            record {
              asked = old;
              wanted = wants;
              is = refl;
              hears = record { next = record (flight pin (at (Answer c) task)) { remembered = spots_of next; asking = Given old answer }; is = rw is refl; remembered = within; after = refl };
            },
          );
      carries = λ s shows m content. refl;
    }

    -- what it stores if the key is present, and if it is absent
    present_writes : WaitsForAnswer Granted same task → (v : M) → seen_payload task.last ≡ Some v → (w : WritesAtKey Granted same (answered task old answer returns) (Some v)) × (w.value ≡ value_of task.op answer)
    unfolding given_open
    present_writes waits v seen =
        let o = waits.opened in
        let closure : HasClosure (outline_of o.op) = subst (λ (z : Outline). HasClosure z) (sym o.outline) waits.closure in
        let change = subst (λ (z : Option M). IsChange same o.op (Given z answer) (Some v) (value_of (Some o.op) answer)) (sym (asked_seen waits ∙ seen)) (change_answered same o.op v answer closure) in
        writes_by same Granted (answered task old answer returns) (Some v) (value_of task.op answer) (given_open waits)
        (subst (λ (z : Option (Op M)). IsChange same o.op (Given old answer) (Some v) (value_of z answer)) (sym o.op_is) change) (λ sees. seen) waits.read

    absent_writes : WaitsFor Granted same task → WritesAtKey Granted same (answered task old answer returns) None
    unfolding given_open
    absent_writes waits =
        let o = waits.waits.opened in
        let inserts : IsOrInsert (outline_of o.op) = subst (λ (z : Outline). IsOrInsert z) (sym o.outline) waits.inserts in
        let change = subst (λ (z : Option M). IsChange same o.op (Given z answer) None (value_of (Some o.op) answer)) (sym (asked_seen waits.waits ∙ waits.none)) (change_inserts same o.op answer inserts) in
        (writes_by same Granted (answered task old answer returns) None (value_of (Some o.op) answer) (given_open waits.waits) change (λ sees. waits.none) waits.waits.read).0

    -- THE KEY IS PRESENT
    module _ (pair : NodePair) (only : Bool) (facts : Facts Granted same t root pin (at (Answer (case.Present pair only)) task)) where
      waits_here : WaitsForAnswer Granted same task
      waits_here = facts.at.0

      on_here : OnPath t root pin (key_bytes task) (path_to pair)
      on_here = facts.at.1

      present_while : While t pair.here (IsPresent Granted same only task)
      present_while = facts.at.2

      -- it writes, whatever the current value is by then
      writing : (at_key : Option M) × WritesAtKey Granted same (answered task old answer returns) at_key
      writing = let seen = some_is (seen_payload task.last) facts.at.3 in (Some seen.0, (present_writes waits_here seen.0 seen.1).0)

      writes_here : (b : PlacedNode M) → IsPresent Granted same only task b → (w : WritesAtKey Granted same (answered task old answer returns) (payload_in (found b (key_bytes task)))) × (w.value ≡ value_of task.op answer)
      writes_here b p =
          subst (λ (z : Option (Child M)). (w : WritesAtKey Granted same (answered task old answer returns) (payload_in z)) × (w.value ≡ value_of task.op answer)) (sym p.at_key) (present_writes waits_here p.value p.seen)

      confirms : (v : M) → task.asking ≡ Wants (Some v) → value_of task.op answer ≡ Some v
          → IsRead Granted same t root pin (at (Answer (case.Present pair only)) task) env (at (Confirm pair.here) (answered task old answer returns)) (report_of kind.Answer None 0 true) Going
      confirms v asked stays =
          hears (case.Present pair only) (Confirm pair.here) refl refl tt waits_here (here_within pair)
          (record {
            small = facts.small;
            at = (
              given_open waits_here,
              on_here.here,
              on_here.way,
              λ b h e.
                  let p = present_while b h e in
                  let w = present_writes waits_here p.value p.seen in
                  record { closure = waits_here.closure; value = p.value; at_key = p.at_key; writes = w.0; stays = w.1 ∙ (stays ∙ (wants_same (Some v) (seen_payload task.last) (sym asked ∙ waits_here.wants) ∙ p.seen)) },
            );
          })
          (λ z h. elim h [ inl e ↦ inl e | inr never ↦ absurd never ]) (λ z h. h) (omega arith)

      puts : ((new v : M) → value_of task.op answer ≡ Some new → task.asking ≡ Wants (Some v) → same new v ≡ false)
          → IsRead Granted same t root pin (at (Answer (case.Present pair only)) task) env (at (Tail (Upgrade (path_to pair) Entry)) (answered task old answer returns)) (report_of kind.Answer None 0 true) Going
      puts differs =
          hears (case.Present pair only) (Tail (Upgrade (path_to pair) Entry)) refl refl refl waits_here (λ z w h. h)
          (record {
            small = facts.small;
            at = (
              given_open waits_here,
              on_here,
              λ b h e.
                  let p = present_while b h e in
                  let w = writes_here b p in
                  record {
                    writes = w.0;
                    is = (p.full, λ none. absurd (none_some (Payload p.value) (sym none ∙ p.at_key)));
                    differs = λ was new there stored.
                        subst (λ (z : M). same new z ≡ false) (payload_same p.value was (sym p.at_key ∙ there))
                        (differs new p.value (sym w.1 ∙ (sym w.0.stores ∙ stored)) (waits_here.wants ∙ ap (λ (z : Option M). Wants z) p.seen));
                  },
              writing,
            );
          })
          (λ z h. h) (λ z h. h) (omega arith)

      -- the leaf is removed with its only payload
      takes_out : only ≡ true → value_of task.op answer ≡ None
          → IsRead Granted same t root pin (at (Answer (case.Present pair only)) task) env (at (Tail (UpgradeAbove pair Detach)) (answered task old answer returns)) (report_of kind.Answer None 0 true) Going
      takes_out alone none =
          hears (case.Present pair only) (Tail (UpgradeAbove pair Detach)) refl refl refl waits_here (λ z w h. h)
          (record {
            small = facts.small;
            at = (
              record {
                opened = given_open waits_here;
                writing = writing;
                over = record { way = on_here.above.1; apart = on_here.apart pair.above refl };
                here = on_here.here;
                work = λ b h e.
                    let p = present_while b h e in
                    let w = writes_here b p in
                    record { writes = w.0; is = (on_here.way b h, p.full, (p.value, p.at_key), p.alone alone); may = w.1 ∙ none };
              },
              on_here.above.0,
              on_here.above.2,
            );
          })
          (λ z h. h) (λ z h. h) (omega arith)

    removes : (pair : NodePair) (only : Bool) → Facts Granted same t root pin (at (Answer (case.Present pair only)) task) → value_of task.op answer ≡ None
        → IsRead Granted same t root pin (at (Answer (case.Present pair only)) task) env (at (Tail (removing pair only)) (answered task old answer returns)) (report_of kind.Answer None 0 true) Going
    removes pair true facts none = takes_out pair true facts refl none
    removes pair false facts none = puts pair false facts (λ new v e asked. absurd (none_some new (sym none ∙ e)))

    says_present : (pair : NodePair) (only : Bool) (j : Judged) → IsJudgedAnswer same task.op task.asking answer j → Facts Granted same t root pin (at (Answer (case.Present pair only)) task)
        → IsRead Granted same t root pin (at (Answer (case.Present pair only)) task) env (at (stage_for pair only j) (answered task old answer returns)) (report_of kind.Answer None 0 true) Going
    says_present pair only Same h facts = confirms pair only facts h.0 h.1 h.2
    says_present pair only Stores h facts = puts pair only facts (λ new v e asked. subst (λ (z : M). same z v ≡ false) (value_same h.0 new (sym h.1 ∙ e)) (h.2 v asked))
    says_present pair only Removes h facts = removes pair only facts h
    says_present pair only Other h facts = absurd h

    -- THE KEY IS ABSENT
    says_small : (path : Path) (small : Small) → Facts Granted same t root pin (at (Answer (case.Small path small)) task)
        → IsRead Granted same t root pin (at (Answer (case.Small path small)) task) env (at (Tail (Upgrade path small)) (answered task old answer returns)) (report_of kind.Answer None 0 true) Going
    says_small path small facts =
        let waits : WaitsFor Granted same task = facts.at.0 in
        let while : While t path.here (SmallCase Granted same small task) = facts.at.2 in
        hears (case.Small path small) (Tail (Upgrade path small)) refl refl refl waits.waits (λ z w h. h)
        (record {
          small = facts.small;
          at = (
            given_open waits.waits,
            facts.at.1,
            λ b h e.
                let f = while b h e in
                record { writes = subst (λ (z : Option (Child M)). WritesAtKey Granted same (answered task old answer returns) (payload_in z)) (sym f.0) (absent_writes waits); is = f.1; differs = λ was new there stored. absurd (none_some (Payload was) (sym f.0 ∙ there)) },
            (None, absent_writes waits),
          );
        })
        (λ z h. h) (λ z h. h) (omega arith)

    says_large : (pair : NodePair) (large : Large) → Facts Granted same t root pin (at (Answer (case.Large pair large)) task)
        → IsRead Granted same t root pin (at (Answer (case.Large pair large)) task) env (at (Tail (UpgradeAbove pair large)) (answered task old answer returns)) (report_of kind.Answer None 0 true) Going
    says_large pair large facts =
        let waits : WaitsFor Granted same task = facts.at.0 in
        let while : While t pair.here (LargeCase Granted same large task) = facts.at.3 in
        hears (case.Large pair large) (Tail (UpgradeAbove pair large)) refl refl refl waits.waits (λ z w h. h)
        (record {
          small = facts.small;
          at = (
            record {
              opened = given_open waits.waits;
              writing = (None, absent_writes waits);
              over = facts.at.1;
              here = facts.at.2;
              work = λ b h e. let f = while b h e in work_of_large Granted same large (answered task old answer returns) b f.0 f.1 (absent_writes waits);
            },
            facts.at.4,
            facts.at.5,
          );
        })
        (λ z h. h) (λ z h. h) (omega arith)

    -- WHAT COMES AFTER IT
    pub answer_taken : (c : Case) (next : Stage) → IsAfterAnswer same task c answer next → Facts Granted same t root pin (at (Answer c) task)
        → IsRead Granted same t root pin (at (Answer c) task) env (at next (answered task old answer returns)) (report_of kind.Answer None 0 true) Going
    answer_taken (case.Present pair only) next h facts =
        subst (λ (z : Stage). IsRead Granted same t root pin (at (Answer (case.Present pair only)) task) env (at z (answered task old answer returns)) (report_of kind.Answer None 0 true) Going) (sym h.2)
        (says_present pair only h.0 h.1 facts)
    answer_taken (case.Small path small) next h facts =
        subst (λ (z : Stage). IsRead Granted same t root pin (at (Answer (case.Small path small)) task) env (at z (answered task old answer returns)) (report_of kind.Answer None 0 true) Going) (sym h)
        (says_small path small facts)
    answer_taken (case.Large pair large) next h facts =
        subst (λ (z : Stage). IsRead Granted same t root pin (at (Answer (case.Large pair large)) task) env (at z (answered task old answer returns)) (report_of kind.Answer None 0 true) Going) (sym h)
        (says_large pair large facts)

  -- ITS ANSWER IS THE CURRENT VALUE, if the node's word is the remembered one
  module _ (placed : IsPlaced t root) (spot : Spot) (a : PlacedNode M) (here : t spot.slot ≡ Some a) (facts : Facts Granted same t root pin (at (Confirm spot) task)) where
    spot_known : lookup (spots_of (Confirm spot)) spot.slot ≡ Some spot.word
    spot_known = rw (eq-eqb spot.slot spot.slot refl) refl

    pub confirm_restarts : a.word ≢ spot.word
        → IsRead Granted same t root pin (at (Confirm spot) task) env (at TakeRoot (restarted task)) (report_of kind.Check (Some spot.slot) 0 false) Going
    confirm_restarts other =
        restarts Granted same t root pin task env placed (record { above = None; here = spot }) a here (Confirm spot) refl refl tt facts.small facts.at.0 spot_known (inl refl) other

    module _ (word : a.word ≡ spot.word) where
      confirmed : IsConfirmed Granted same task a
      confirmed = facts.at.3 a here word

      there : (s : State M) → ShowsNodes t root s → (m : Pairs M) → IsContent s m → lookup m (key_of task.outline) ≡ Some confirmed.value
      there s shows m content =
          kept_there t root s placed shows m content (key_of task.outline) confirmed.value facts.small
          (present_here t root (key_bytes task) placed spot.slot a confirmed.value (known_linked t root (key_bytes task) placed pin spot a facts.at.1 here word) (facts.at.2 a here) confirmed.at_key)

      stays : IsChange same confirmed.writes.opened.op task.asking (Some confirmed.value) (Some confirmed.value)
      stays = subst (λ (z : Option M). IsChange same confirmed.writes.opened.op task.asking (Some confirmed.value) z) confirmed.stays confirmed.writes.change

      -- its last Read gave a payload
      ends_here : (s : State M) → ShowsNodes t root s → KeyEnds s (flight pin (at (Confirm spot) task))
      ends_here s shows =
          let sees : MaySee Granted same task = λ shares. absurd (closure_shares task.outline confirmed.closure shares) in
          ends_at_none s (flight pin (at (Confirm spot) task)) _ (seen_child task.last) (λ slot e. none_some confirmed.value (ap (λ z. payload_in z) (sym e) ∙ confirmed.writes.seen sees))

      pub confirm_ends : (old answer : Option M) → task.asking ≡ Given old answer
          → IsRead Granted same t root pin (at (Confirm spot) task) env (at Finish (closed progress.Decided task)) (report_of kind.Check (Some spot.slot) 0 true) (Decided (reply_with task.outline old task.returns))
      confirm_ends old answer given =
          let asked : (answer : Option M) × (task.asking ≡ Given (Some confirmed.value) answer) = confirm_given Granted same task a confirmed in
          let e : old ≡ Some confirmed.value = given_same old (Some confirmed.value) answer asked.0 (sym given ∙ asked.1) in
          subst (λ (z : Option M). IsRead Granted same t root pin (at (Confirm spot) task) env (at Finish (closed progress.Decided task)) (report_of kind.Check (Some spot.slot) 0 true) (Decided (reply_with task.outline z task.returns))) (sym e)
          (ends_changed Granted same t root pin task env placed (record { above = None; here = spot }) a here word (Confirm spot) refl refl tt facts.small spot_known (inl refl) (λ p. omega arith) confirmed.writes.read ends_here (Some confirmed.value) confirmed.writes.seen there
          confirmed.writes.opened stays)

-- THE SAME WITH PAYLOADS REPLACED BY THEIR MEANINGS
module _ {P M : Type 0} (meaning : P → M) where
  pub wants_meant : (asking : Asking P) (seen : Option M) → asking_of meaning asking ≡ Wants seen → (old : Option P) × (asking ≡ Wants old) × (in_some meaning old ≡ seen)
  wants_meant Fresh seen e = absurd (fresh_wants seen e)
  wants_meant (Wants old) seen e = (old, refl, wants_same (in_some meaning old) seen e)
  wants_meant (Given old answer) seen e = absurd (given_wants (in_some meaning old) (in_some meaning answer) seen e)

  pub given_meant : (asking : Asking P) (at_key answer : Option M) → asking_of meaning asking ≡ Given at_key answer → (old : Option P) × (given : Option P) × (asking ≡ Given old given) × (in_some meaning old ≡ at_key)
  given_meant Fresh at_key answer e = absurd (fresh_given at_key answer e)
  given_meant (Wants old) at_key answer e = absurd (given_wants at_key answer (in_some meaning old) (sym e))
  given_meant (Given old given) at_key answer e = (old, given, refl, given_same (in_some meaning old) at_key (in_some meaning given) answer e)
