-- AN EVENT OF A CALL in its place, as a step of the machine.
use Rattle.std.proofs.Common.{◌≡◌, ℕ, ◌<◌, ◌^◌, Bool, true, false, List, Option, Some, None, IsSome, IsTrue, is_some, inl, inr, refl, sym, subst, ap, ◌∙◌}
use Rattle.std.proofs.lemmas.Bool.{false≢true}
use Rattle.std.specs.BTreeMap.{BTreeMap}
use Rattle.node_table.specs.Charge.{Charge}
use Rattle.spec_olc.specs.Meaning.{env_of, in_some, outcome_of}
use Rattle.spec_olc.specs.declared.types.Env.{Env}
use Rattle.spec_olc.specs.declared.types.Outcome.{Outcome}
use Rattle.spec_olc.specs.declared.types.Report.{Report}
use Rattle.olc_words.specs.Epoch.{PinsView, ChangesSeat, entry_at, is_seated, pin_of}
use Rattle.olc_state.specs.declared.stage.Record.{Record}
use Rattle.olc_state.specs.declared.stock.Stock.{Stock}
use Rattle.olc_state.specs.inner.Facts.{IsSoundWorld}
use Rattle.olc_state.specs.inner.Meant.{meant_record, meant_world}
use Rattle.olc_state.specs.inner.Places.{ChangesPlace}
use Rattle.olc_state.specs.inner.Stocks.{StockKnows, StockMoves}
use Rattle.olc_state.specs.inner.Turns.{IsTurn}
use Rattle.olc_state.specs.inner.World.{World, record_in, record_of}
use Rattle.olc_state.proofs.Options.{none_some, some_same}
use Rattle.olc_state.proofs.States.{meant_call}
use Rattle.olc_machine.specs.inner.Happening.{Happens}
use Rattle.olc_machine.specs.inner.Inside.{inside}
use Rattle.olc_machine.proofs.Inners.{goes_on, is_last}
use Rattle.olc_machine.proofs.Stocked.{moves_on}

-- a place in which nothing is found is empty
pub none_left : {X : Type 0} (x : Option X) → false ≡ is_some x → x ≡ None
none_left None e = refl
none_left (Some v) e = absurd (false≢true e)

module _ {P A M : Type 0} (meaning : P → M) (charge : A → Option Charge) (Granted : Type 0) (same : M → M → Bool) (stock : Stock P A) (calls : BTreeMap ℕ (Option (Record P)))
    (sound : IsSoundWorld Granted same (meant_world meaning (inside charge (record { stock = stock; calls = calls })))) (id : ℕ) (small : id < 2 ^ 64) (pin : ℕ) (pinned : pin_of stock.store.pins id ≡ Some pin)
    (place : Option (Record P)) (at : Some place ≡ entry_at calls.entries id) where
  -- the place has the number's record
  found : record_of (inside charge (record { stock = stock; calls = calls })) id ≡ place
  found = ap (λ (x : Option (Option (Record P))). record_in x) (sym at)

  -- what the call in the place knows
  pub knows : (call : Record P) → place ≡ Some call → StockKnows meaning charge Granted same stock pin call
  knows call is =
      sound.facts id pin (meant_record meaning call) (meant_call meaning (inside charge (record { stock = stock; calls = calls })) id ∙ ap (in_some (meant_record meaning)) (found ∙ is)) pinned

  module _ (flies : IsSome (record_of (inside charge (record { stock = stock; calls = calls })) id)) (env : Env P) (report : Report) (out : Outcome P) where
    -- the inside with other nodes and pins, and other places
    abbrev changed : Stock P A → PinsView → List (ℕ × Option (Record P)) → World P
    changed new pins places = record {
      slots = new.store.nodes.slots;
      root = new.store.root;
      pins = pins;
      calls = places;
      entries = new.entries;
      charge = charge new.budget;
    }

    abbrev Turns : World P → Type 0
    Turns after = IsTurn Granted same (meant_world meaning (inside charge (record { stock = stock; calls = calls }))) (meant_world meaning after) id (env_of meaning env) report (outcome_of meaning out)

    -- what the event does of the call that is in the place
    abbrev pub Made : Stock P A → Option (Record P) → Type 0
    Made new after = (call : Record P) → place ≡ Some call → Happens meaning charge Granted same stock new pin call env after report out

    no_record : (let none : Option (Record P) = None in IsSome none) → ⊥
    no_record h = cc

    call_there : (x : Option (Record P)) → x ≡ place → IsSome x → (call : Record P) × (place ≡ Some call)
    call_there None e h = absurd (no_record h)
    call_there (Some call) e h = (call, sym e)

    there : (call : Record P) × (place ≡ Some call)
    there = call_there _ found flies

    -- an event after which the call goes on
    pub turns_on : (new : Stock P A) (next : Record P) (after : BTreeMap ℕ (Option (Record P))) → Made new (Some next) → ChangesPlace calls.entries after.entries id (Some (Some next)) → Turns (changed new new.store.pins after.entries)
    turns_on new next after made changes =
        let call = there.0 in
        elim (made call there.1) [
          | inl wrote ↦
              moves_on meaning charge Granted same stock calls sound id small call next pin env report out (found ∙ there.1) pinned new after changes
              (subst (λ (r : Record P). StockMoves meaning charge Granted same stock new pin call env r report out) (sym (some_same next wrote.next wrote.after_is)) wrote.moves)
          | inr read ↦
              subst (λ (s : Stock P A). Turns (changed s s.store.pins after.entries)) (sym read.stays)
              (goes_on meaning Granted same (inside charge (record { stock = stock; calls = calls })) id small sound stock.store.pins after.entries call pin (env_of meaning env) report (outcome_of meaning out) (found ∙ there.1) pinned next read.held refl changes read.advance)
        ]

    -- its last event writes nothing
    pub last_stays : (new : Stock P A) → Made new None → new ≡ stock
    last_stays new made = elim (made there.0 there.1) [ inl wrote ↦ absurd (none_some wrote.next wrote.after_is) | inr read ↦ read.stays ]

    pub turns_last : (new : Stock P A) (pins : PinsView) (after : List (ℕ × Option (Record P))) (left : Option (Option (Record P))) → Made new None → ChangesSeat new.store.pins pins id (is_seated new.store.pins id) None
        → ChangesPlace calls.entries after id left → record_in left ≡ None → (is_seated new.store.pins id ≡ true → IsSome left) → Turns (changed new pins after)
    turns_last new pins after left made leaves changes gone room =
        let call = there.0 in
        elim (made call there.1) [
          | inl wrote ↦ absurd (none_some wrote.next wrote.after_is)
          | inr read ↦
              subst (λ (s : Stock P A). ChangesSeat s.store.pins pins id (is_seated s.store.pins id) None → (is_seated s.store.pins id ≡ true → IsSome left) → Turns (changed s pins after)) (sym read.stays)
              (λ leaves room.
              is_last meaning Granted same (inside charge (record { stock = stock; calls = calls })) id small sound pins after call pin (env_of meaning env) report (outcome_of meaning out) (found ∙ there.1) pinned left leaves changes gone room read.advance)
              leaves room
        ]

    -- the same by what is in the place after it
    pub turns_some : (new : Stock P A) (after : Option (Record P)) (places : BTreeMap ℕ (Option (Record P))) → IsTrue (is_some after) → Made new after → ChangesPlace calls.entries places.entries id (Some after) → Turns (changed new new.store.pins places.entries)
    turns_some new None places goes made changes = absurd (false≢true goes)
    turns_some new (Some next) places goes made changes = turns_on new next places made changes
