-- What an event that writes may rely on, and that the inside stays sound.
use Rattle.std.proofs.Common.{◌≡◌, ◌≢◌, ℕ, ◌+◌, ◌<◌, ◌≤◌, ◌^◌, Bool, List, [], ◌∷◌, length, Option, Some, None, refl, sym, subst, ap, ◌∙◌, arith}
use Rattle.std.specs.BTreeMap.{BTreeMap}
use Rattle.node_base.specs.Form.{stated_size}
use Rattle.spec_map.specs.Map.{Pairs, lookup}
use Rattle.spec_map.proofs.ByteMapLaws.{length-from_Rises}
use Rattle.node_table.specs.Charge.{Charge, Covers}
use Rattle.spec_olc.specs.Content.{IsContent}
use Rattle.spec_olc.specs.Meaning.{env_of, in_some, outcome_of}
use Rattle.spec_olc.specs.declared.types.Env.{Env}
use Rattle.spec_olc.specs.declared.types.Outcome.{Outcome}
use Rattle.spec_olc.specs.declared.types.Report.{Report}
use Rattle.olc_words.specs.Epoch.{pin_of}
use Rattle.olc_state.specs.declared.stage.Record.{Record}
use Rattle.olc_state.specs.declared.stage.Stored.{Stored}
use Rattle.olc_state.specs.declared.stock.Stock.{Stock}
use Rattle.olc_state.specs.declared.tail.Tail.{Tail as AnyTail}
use Rattle.olc_state.specs.inner.Facts.{IsSoundWorld, stored_sizes}
use Rattle.olc_state.specs.inner.Meant.{meant_record, meant_slots, meant_world}
use Rattle.olc_state.specs.inner.Places.{ChangesPlace}
use Rattle.olc_state.specs.inner.Shown.{state_of}
use Rattle.olc_state.specs.inner.Stocks.{CountsEntries, IsStoreSound, StockMoves}
use Rattle.olc_state.specs.inner.Turns.{IsTurn}
use Rattle.olc_state.specs.inner.World.{World, record_of, table_of}
use Rattle.olc_state.proofs.Contents.{kept_there}
use Rattle.olc_state.proofs.Options.{none_some}
use Rattle.olc_state.proofs.States.{meant_call, shows}
use Rattle.olc_state.proofs.Walked.{placed_content}
use Rattle.olc_machine.specs.inner.Inside.{inside}
use Rattle.olc_machine.proofs.Inners.{meant_changes}
use Rattle.olc_machine.proofs.Moving.{moved_turn}

-- the sizes of nodes are those of their meanings
pub meant_sizes : {P M : Type 0} (meaning : P → M) (slots : List (Option (Stored P))) → stored_sizes (meant_slots meaning slots) ≡ stored_sizes slots
meant_sizes meaning [] = refl
meant_sizes meaning (None ∷ slots) = meant_sizes meaning slots
meant_sizes meaning (Some n ∷ slots) = ap (λ size. stated_size n.node.form + size) (meant_sizes meaning slots)

-- a list in which something is found isn't empty
found_some : {X : Type 0} (m : Pairs X) (key : ℕ) (v : X) → lookup m key ≡ Some v → 1 ≤ length m
found_some [] key v e = absurd (none_some v e)
found_some (x ∷ m) key v e = omega arith

some_there : {X : Type 0} (x : Option X) → x ≢ None → (a : X) × (x ≡ Some a)
some_there None h = absurd (h refl)
some_there (Some a) h = (a, refl)

module _ {P A M : Type 0} (meaning : P → M) (charge : A → Option Charge) (Granted : Type 0) (same : M → M → Bool) (stock : Stock P A) (calls : BTreeMap ℕ (Option (Record P)))
    (sound : IsSoundWorld Granted same (meant_world meaning (inside charge (record { stock = stock; calls = calls })))) where
  abbrev before : World M
  before = meant_world meaning (inside charge (record { stock = stock; calls = calls }))

  -- the nodes are sound, there is a content, and it is small
  pub sound_kept : IsStoreSound meaning charge stock
  sound_kept = record {
    placed = sound.placed;
    admitted = sound.admitted;
    narrow = λ s some. let a = some_there (table_of before s) some in sound.narrow s a.0 a.1;
    covered = subst (λ size. Covers (charge stock.budget) size) (meant_sizes meaning stock.store.nodes.slots) sound.charged;
  }

  sound_content : (m : Pairs M) × IsContent (state_of before) m
  sound_content = placed_content meaning stock.store.nodes.slots stock.store.pins.slots stock.store.root sound.placed (state_of before) (shows before)

  -- the number of pairs is that of a content
  pub sound_counted : CountsEntries meaning charge stock
  sound_counted = record {
    few =
        let counted = sound.counted sound_content.0 sound_content.1 in
        let few = length-from_Rises 0 (2 ^ 64) sound_content.0 (omega arith) sound_content.1.map in omega (arith, counted, few);
    some = λ key v small keeps.
        let there = kept_there (table_of before) before.root (state_of before) sound.placed (shows before) sound_content.0 sound_content.1 key v small keeps in
        subst (λ n. 1 ≤ n) (sym (sound.counted sound_content.0 sound_content.1)) (found_some sound_content.0 key v there);
  }

  -- AN EVENT that writes, after which its call goes on
  module _ (id : ℕ) (small : id < 2 ^ 64) (r next : Record P) (pin : ℕ) (env : Env P) (report : Report) (out : Outcome P)
      (found : record_of (inside charge (record { stock = stock; calls = calls })) id ≡ Some r) (pinned : pin_of stock.store.pins id ≡ Some pin) where
    pub moves_on : (now : Stock P A) (after : BTreeMap ℕ (Option (Record P))) → ChangesPlace calls.entries after.entries id (Some (Some next))
        → StockMoves meaning charge Granted same stock now pin r env next report out
        → IsTurn Granted same before (meant_world meaning (inside charge (record { stock = now; calls = after }))) id (env_of meaning env) report (outcome_of meaning out)
    moves_on now after changes moves =
        moved_turn Granted same before (meant_world meaning (inside charge (record { stock = now; calls = after }))) id pin small (meant_record meaning r) (meant_record meaning next)
        (env_of meaning env) report (outcome_of meaning out) sound
        (meant_call meaning (inside charge (record { stock = stock; calls = calls })) id ∙ ap (in_some (meant_record meaning)) found) pinned
        (record {
          places = meant_changes meaning calls.entries after.entries id (Some (Some next)) changes;
          seats = moves.seats;
          root = moves.root;
          placed = moves.kept.placed;
          admitted = moves.kept.admitted;
          narrow = moves.kept.narrow;
          covered = subst (λ size. Covers (charge now.budget) size) (sym (meant_sizes meaning now.store.nodes.slots)) moves.kept.covered;
        })
        moves.move sound_content
