-- That the events that write no node are events of their kinds.
use Rattle.std.proofs.Common.{◌≡◌, ◌≢◌, ℕ, Bool, true, false, IsTrue, if◌then◌else◌, ◌↔◌, List, [], Option, Some, None, inl, inr, refl, subst, ap}
use Rattle.spec_map.proofs.MapLaws.{lookup-put_same}
use Rattle.spec_map.specs.Map.{lookup, put}
use Rattle.spec_node.specs.TableNode.{TableNode, Child}
use Rattle.spec_node.specs.declared.child.Child.TheVariants.{Payload, Node as below_at}
use Rattle.spec_olc.specs.Calls.{IsPoint, Outline}
use Rattle.spec_olc.specs.Kinds.{NextIs, DoesAs, CheckOutcome, IsAtWork, failed, report_of}
use Rattle.spec_olc.specs.Local.{SharesNone, SeesPayloads}
use Rattle.spec_olc.specs.Reading.{EndsAt, HasNothing, IsReading, LooksOn, Remembered, child_for}
use Rattle.spec_olc.specs.State.{State, VersionedNode, CallState, with_call, back, settled, stopped}
use Rattle.spec_olc.specs.declared.types.Env.{Env}
use Rattle.spec_olc.specs.declared.types.Kind.TheVariants as kind
use Rattle.spec_olc.specs.declared.types.Op.TheVariants.{Range}
use Rattle.spec_olc.specs.declared.types.Outcome.{Outcome}
use Rattle.spec_olc.specs.declared.types.Outcome.TheVariants.{Going, Refused}
use Rattle.spec_olc.specs.declared.types.Progress.{Progress}
use Rattle.spec_olc.specs.declared.types.Progress.TheVariants as progress
use Rattle.spec_olc.specs.declared.types.Report.{Report}
use Rattle.spec_olc.specs.declared.types.Seen.{Seen}
use Rattle.spec_olc.specs.Lock.{IsFree}
use Rattle.olc_state.proofs.Options.{none_some}
use Rattle.olc_state.proofs.Unlike.{false_true, true_false}

pub test_false : (b : Bool) → b ≡ false → b ≡ true → ⊥
test_false b e f = cc

-- a test that fails, for a fact that doesn't hold; one that succeeds, for a fact that does
pub not_by : {Q : Type 0} → (Q → ⊥) → (IsTrue false ↔ Q)
not_by f = ((λ e. absurd (false_true e)), (λ q. absurd (f q)))

pub is_by : {Q : Type 0} → Q → (IsTrue true ↔ Q)
is_by q = ((λ e. q), (λ x. refl))

-- a call that has failed goes back to the root if it has no reply; else it cleans up no more
pub failed_open : {M : Type 0} (call : CallState M) → call.progress ≡ progress.Open → failed call.progress call ≡ back call
failed_open call undecided = ap (λ (p : Progress). failed p call) undecided

pub failed_decided : {M : Type 0} (call : CallState M) → call.progress ≡ progress.Decided → failed call.progress call ≡ stopped (back call)
failed_decided call decided = ap (λ (p : Progress). failed p call) decided

-- the words of the first are among those of the second
abbrev pub Within : List (ℕ × ℕ) → List (ℕ × ℕ) → Type 0
Within fewer remembered = (slot word : ℕ) → lookup fewer slot ≡ Some word → lookup remembered slot ≡ Some word

module _ {M : Type 0} (Granted : Type 0) (same : M → M → Bool) (s : State M) (id : ℕ) (call : CallState M) (env : Env M) (work : IsAtWork call) where
  -- an event after which the call is `next`
  abbrev Does : CallState M → Report → Outcome M → Type 0
  Does next report out = DoesAs Granted same s (with_call s id next) id call env report out report.kind

  -- the call is as planned, and has forgotten some of its words, or none
  abbrev becomes : {report : Report} {out : Outcome M} (planned : CallState M) (remembered : List (ℕ × ℕ)) → Within remembered planned.remembered
      → NextIs Granted same s (with_call s id (record planned { remembered = remembered })) id call env report out s planned
  becomes planned remembered within = record { next = record planned { remembered = remembered }; is = refl; remembered = within; after = refl }

  abbrev becomes_all : {report : Report} {out : Outcome M} (planned : CallState M) → NextIs Granted same s (with_call s id planned) id call env report out s planned
  becomes_all planned = record { next = planned; is = refl; remembered = λ slot word h. h; after = refl }

  -- after a Take
  abbrev taken : ℕ → VersionedNode M → Bool → CallState M
  taken slot a ok = if ok then (record call { remembered = put call.remembered slot a.word }) else failed call.progress call

  remembers : (slot : ℕ) (a : VersionedNode M) (ok : Bool) → IsTrue ok → lookup (taken slot a ok).remembered slot ≡ Some a.word
  remembers slot a true e = lookup-put_same call.remembered slot a.word
  remembers slot a false e = absurd (false_true e)

  taken_so : (slot : ℕ) (a : VersionedNode M) (ok : Bool) → lookup s.nodes slot ≡ Some a → (slot ≡ s.root → call ≡ back call) → (call.remembered ≡ [] → slot ≡ s.root) → (IsTrue ok ↔ IsFree a.word)
      → Does (taken slot a ok) (report_of kind.Take (Some slot) a.word ok) Going
  taken_so slot a ok here anew first free = (
    work,
    record { slot = slot; node = a; here = here; anew = anew; first = first; reports = (refl, refl); ok = free; becomes = becomes_all (taken slot a ok); remembers = remembers slot a ok },
  )

  pub take : (slot : ℕ) (a : VersionedNode M) → lookup s.nodes slot ≡ Some a → (slot ≡ s.root → call ≡ back call) → (call.remembered ≡ [] → slot ≡ s.root) → IsFree a.word
      → Does (record call { remembered = put call.remembered slot a.word }) (report_of kind.Take (Some slot) a.word true) Going
  take slot a here anew first free = taken_so slot a true here anew first (is_by free)

  -- a Take that fails
  pub take_fails : (next : CallState M) → failed call.progress call ≡ next → (slot : ℕ) (a : VersionedNode M) → lookup s.nodes slot ≡ Some a → (slot ≡ s.root → call ≡ back call) → (call.remembered ≡ [] → slot ≡ s.root) → (IsFree a.word → ⊥)
      → Does next (report_of kind.Take (Some slot) a.word false) Going
  take_fails next is slot a here anew first locked =
      subst (λ (n : CallState M). Does n (report_of kind.Take (Some slot) a.word false) Going) is (taken_so slot a false here anew first (not_by locked))

  module _ (slot word : ℕ) (a : VersionedNode M) (here : lookup s.nodes slot ≡ Some a) (known : lookup call.remembered slot ≡ Some word) where
    abbrev pub knows : Remembered s call
    knows = record { slot = slot; node = a; word = word; here = here; word_is = known }

    -- a Check that passes, after which the call may have forgotten some of its words
    pub check_ok : (planned : CallState M) (remembered : List (ℕ × ℕ)) (out : Outcome M) → a.word ≡ word → CheckOutcome Granted same s call knows planned out → Within remembered planned.remembered
        → Does (record planned { remembered = remembered }) (report_of kind.Check (Some slot) 0 true) out
    check_ok planned remembered out at_key finds within = (
      work,
      record { knows = knows; planned = planned; is = refl; ok = is_by at_key; passes = λ e. finds; fails = λ e. absurd (true_false e); becomes = becomes planned remembered within },
    )

    pub check_fails : (next : CallState M) → failed call.progress call ≡ next → a.word ≢ word → Does next (report_of kind.Check (Some slot) 0 false) Going
    check_fails next is other = subst (λ (n : CallState M). Does n (report_of kind.Check (Some slot) 0 false) Going) is (
      work,
      record { knows = knows; planned = failed call.progress call; is = refl; ok = not_by other; passes = λ e. absurd (false_true e); fails = λ e. (refl, refl); becomes = becomes_all (failed call.progress call) },
    )

    pub read_whole : (seen : Seen M) → a.word ≡ word → IsReading (SeesPayloads Granted same call) call a.node seen
        → Does (record call { seen = Some seen }) (report_of kind.Read (Some slot) 0 true) Going
    read_whole seen at_key reading = (work, record { knows = knows; whole = true; is = refl; whole_is = is_by at_key; sees = (seen, reading, becomes_all (record call { seen = Some seen })) })

    pub read_torn : a.word ≢ word → Does (record call { seen = Some env.torn }) (report_of kind.Read (Some slot) 0 true) Going
    read_torn other = (work, record { knows = knows; whole = false; is = refl; whole_is = not_by other; sees = becomes_all (record call { seen = Some env.torn }) })

    pub read_refused : (v : M) → a.word ≡ word → child_for call.outline call.cursor a.node ≡ Some (Payload v) → (SharesNone call.outline call.cleaning → ⊥) → (Granted → ⊥) → call.progress ≡ progress.Open
        → Does (record (settled progress.Refused call) { remembered = [] }) (report_of kind.Read (Some slot) 0 true) Refused
    read_refused v at_key there shares granted undecided = (
      work,
      record {
        knows = knows;
        whole = true;
        is = refl;
        whole_is = is_by at_key;
        sees = (v, there, shares, record { granted = granted; undecided = undecided; becomes = becomes (settled progress.Refused call) [] (λ slot word h. absurd (none_some word h)) });
      },
    )

module _ {M : Type 0} (s : State M) (call : CallState M) where
  -- a Check that decides nothing leaves a point call as it was
  pub looks_on : (outline : Outline) (here : Remembered s call) → IsPoint outline → LooksOn outline s call here call
  looks_on (Range a b n) here point = absurd point
  looks_on outline here point = inl refl

  -- nor does one that finds nothing more to clean up
  pub looks_off : (outline : Outline) (here : Remembered s call) → IsPoint outline → HasNothing s call here.node.node → LooksOn outline s call here (stopped call)
  looks_off (Range a b n) here point nothing = absurd point
  looks_off outline here point nothing = inr (refl, nothing)

  -- a way ends where no node was seen
  pub ends_at_none : (IsOff : TableNode M → Type 0) (child : Option (Child M)) → ((slot : ℕ) → child ≡ Some (below_at slot) → ⊥) → EndsAt s call IsOff child
  ends_at_none IsOff None none = tt
  ends_at_none IsOff (Some (Payload v)) none = tt
  ends_at_none IsOff (Some (below_at slot)) none = absurd (none slot refl)
