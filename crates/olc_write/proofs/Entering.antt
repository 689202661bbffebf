-- WRITE INTO A LEAF: the held leaf has the call's payload under the key's byte, a new one or in another's place, or has
-- none there any more.
use Rattle.std.proofs.Common.{◌≡◌, ◌≢◌, ℕ, ◌≤◌, Bool, true, false, List, [], ◌∷◌, length, Option, Some, None, IsSome, inl, inr, refl, sym, subst, ap, ◌∙◌, arith, ◌<◌}
use Rattle.node_base.specs.Form.{Fits, Within, limit}
use Rattle.spec_map.specs.Map.{Rises, with_answer, without}
use Rattle.spec_map.proofs.ByteMapLaws.{length-without_present}
use Rattle.spec_map.proofs.MapLaws.{without-absent}
use Rattle.spec_node.specs.Key.{Begins}
use Rattle.spec_node.specs.TableNode.{Child, MayHave}
use Rattle.spec_node.specs.declared.child.Child.TheVariants.{Payload, Node as below_at}
use Rattle.spec_olc.specs.Calls.{key_of, stored}
use Rattle.spec_olc.specs.Kinds.{report_of}
use Rattle.spec_olc.specs.Local.{payload_in}
use Rattle.spec_olc.specs.State.{CallState, State}
use Rattle.spec_olc.specs.Writing.{IsChanged, IsOwn, TakesOut}
use Rattle.spec_olc.specs.declared.types.Env.{Env}
use Rattle.spec_olc.specs.declared.types.Kind.TheVariants as kind
use Rattle.spec_olc.specs.declared.types.Outcome.TheVariants.{Decided}
use Rattle.olc_state.specs.declared.stage.Spot.{Spot}
use Rattle.olc_state.specs.declared.stage.Stage.TheVariants.{Tail}
use Rattle.olc_state.specs.declared.stage.Task.{Task}
use Rattle.olc_state.specs.declared.tail.Tail.TheVariants.{Write, Unlock}
use Rattle.olc_state.specs.inner.Effects.{IsChange, reply_with}
use Rattle.olc_state.specs.inner.Facts.{Facts, Holding}
use Rattle.olc_state.specs.inner.Moves.{StoreCounts, IsMove}
use Rattle.olc_state.specs.inner.Shown.{flight, shown}
use Rattle.olc_state.specs.inner.Tables.{IsBelow, IsLinked, IsPlaced, byte_at}
use Rattle.olc_state.specs.inner.TailFacts.{HasRoom, IsHeld, WritesAtKey, found, UnlocksWith}
use Rattle.olc_state.specs.inner.Tasks.{key_bytes}
use Rattle.olc_state.specs.inner.World.{PlacedNode, NodeMap, entry}
use Rattle.olc_state.proofs.Options.{none_some, some_same}
use Rattle.olc_state.proofs.Reaching.{one, seen_at}
use Rattle.olc_state.proofs.Ways.{absent_here, present_here, longer-begins}
use Rattle.olc_state.proofs.Unlike.{decided_open}
use Rattle.olc_state.proofs.Records.{at}
use Rattle.olc_state.proofs.Replies.{change_enters}
use Rattle.olc_state.proofs.Members.{listed, told}
use Rattle.olc_laws.proofs.Effects.{Effect, beside_one}
use Rattle.olc_laws.proofs.Entries.{WritesPayload, entry_effect, entry_puts, entry_takes, payload}
use Rattle.olc_laws.proofs.Writing.{answered}
use Rattle.olc_write.proofs.Deciding.{AnswersPair, StandsAt, becomes_of, entries_after, held_locked, nodes_written, put_fits, takes_none, with_reply, write_course, writes_answer}
use Rattle.olc_state.specs.declared.cleanup.Cleanup.{Cleanup}
use Rattle.olc_state.specs.inner.Tails.{left_in, unlock_work}
use Rattle.olc_state.specs.inner.Turns.{cleanup_work, work_of}
use Rattle.spec_olc.specs.declared.types.Progress.TheVariants as progress
use Rattle.olc_write.specs.inner.Leaving.{IsLeftBy}
use Rattle.olc_write.proofs.Leftovers.{ends_with, is_left_by, left_short, may_have_removed, removing_work}

-- what fits leaves room for fewer
fewer_within : (most : Option ℕ) (m n : ℕ) → m ≤ n → Within most n → Within most m
fewer_within None m n less fits = tt
fewer_within (Some most) m n less fits = omega (arith, less, fits)

module _ {M : Type 0} where
  -- a leaf has no nodes below it
  no_node_below : (t : NodeMap M) (root : ℕ) → IsPlaced t root → (s : ℕ) (a : PlacedNode M) → IsLinked t s a → length a.node.prefix ≡ 7 → (x c : ℕ) → entry a x ≡ Some (below_at c) → ⊥
  no_node_below t root placed s a linked full x c e =
      let below : IsBelow t a x c = placed.below s a linked x c e in
      let longer = longer-begins a.node.prefix below.node.node.prefix x below.begins in
      let short = placed.short c below.node below.linked in
      omega (arith, longer, short, full)

  -- the payload under a key's byte of a linked leaf is the key's value
  pub leaf_stands : (t : NodeMap M) (root : ℕ) (k : List ℕ) → IsPlaced t root → (s : ℕ) (a : PlacedNode M) → IsLinked t s a → Begins a.node.prefix k → length a.node.prefix ≡ 7
      → (e : Option (Child M)) → found a k ≡ e → StandsAt t k (payload_in e)
  leaf_stands t root k placed s a linked begins full None e = absent_here t root k placed s a linked begins e
  leaf_stands t root k placed s a linked begins full (Some (Payload v)) e = present_here t root k placed s a v linked begins e
  leaf_stands t root k placed s a linked begins full (Some (below_at c)) e =
      absurd (no_node_below t root placed s a linked full (byte_at a k) c e)

  -- what happens to the key's pair
  entry_answers : (t t' : NodeMap M) (s key : ℕ) (a : PlacedNode M) (value : Option M) → WritesPayload t t' s key a value → (root : ℕ) → IsPlaced t root → AnswersPair t t' key value
  entry_answers t t' s key a None w root placed = entry_takes w root placed refl
  entry_answers t t' s key a (Some v) w root placed = entry_puts w root placed v refl

  -- the entry that is put there is the call's own, may be in a leaf, has room there, and takes nothing out
  own_payload : (call : CallState M) (value : Option M) → stored call.op call.asking ≡ value → IsOwn call (payload value)
  own_payload call None e = e
  own_payload call (Some v) e = e

  payload_shaped : (prefix : List ℕ) (value : Option M) → length prefix ≡ 7 → (c : Child M) → payload value ≡ Some c → MayHave prefix c
  payload_shaped prefix None full c e = absurd (none_some c e)
  payload_shaped prefix (Some v) full c e = subst (λ (z : Child M). MayHave prefix z) (some_same (Payload v) c e) full

  less_fits : (a : PlacedNode M) (x : ℕ) (e : Option (Child M)) → entry a x ≡ e → Rises 0 256 a.node.children → Fits a.node.form (length a.node.children) → Fits a.node.form (length (without a.node.children x))
  less_fits a x None e rises fits = subst (λ (z : List (ℕ × Child M)). Fits a.node.form (length z)) (sym (without-absent a.node.children x e)) fits
  less_fits a x (Some c) e rises fits =
      let less = length-without_present 0 256 a.node.children x rises (subst (λ z. IsSome z) (sym e) refl) in
      fewer_within (limit a.node.form) (length (without a.node.children x)) (length a.node.children) (omega (arith, less)) fits

  payload_fits : (a : PlacedNode M) (x : ℕ) (value : Option M) → Rises 0 256 a.node.children → Fits a.node.form (length a.node.children) → (entry a x ≡ None → HasRoom a)
      → Fits a.node.form (length (with_answer a.node.children x (payload value)))
  payload_fits a x None rises fits room = less_fits a x (entry a x) refl rises fits
  payload_fits a x (Some v) rises fits room = put_fits a x (Payload v) rises fits room

  takes_payload : (s : State M) (call : CallState M) (was : Option (Child M)) (value : Option M) → ((c : ℕ) → was ≡ Some (below_at c) → ⊥) → TakesOut s call was (payload value) None
  takes_payload s call None None leaf = refl
  takes_payload s call (Some (Payload v)) None leaf = refl
  takes_payload s call (Some (below_at c)) None leaf = absurd (leaf c refl)
  takes_payload s call was (Some v) leaf = takes_none s call was (Payload v)

  -- the entry is another one than before
  is_changed : (same : M → M → Bool) (was : Option (Child M)) (value : Option M) → (was ≡ None → value ≡ None → ⊥) → ((old new : M) → was ≡ Some (Payload old) → value ≡ Some new → same new old ≡ false) → IsChanged same was (payload value)
  is_changed same None None some other = some refl refl
  is_changed same None (Some v) some other = tt
  is_changed same (Some (Payload u)) None some other = tt
  is_changed same (Some (Payload u)) (Some v) some other = other u v refl refl
  is_changed same (Some (below_at c)) None some other = tt
  is_changed same (Some (below_at c)) (Some v) some other = tt

-- If `Granted` holds, a share is always granted. `same` compares two payloads.
module _ {M : Type 0} (Granted : Type 0) (same : M → M → Bool) (t t' : NodeMap M) (root pin : ℕ) (task : Task M) (env : Env M) (spot : Spot) (placed : IsPlaced t root)
    (facts : Facts Granted same t root pin (at (Tail (Write spot)) task)) where
  -- the node that is held, and its key
  abbrev pub leaf_held : PlacedNode M
  leaf_held = facts.at.held.node

  abbrev pub leaf_key : ℕ
  leaf_key = key_of task.outline

  abbrev pub leaf_value : Option M
  leaf_value = facts.at.work.writes.value

  abbrev pub leaf_after : PlacedNode M
  leaf_after = answered leaf_held (byte_at leaf_held (key_bytes task)) (payload leaf_value)

  begins : Begins leaf_held.node.prefix (key_bytes task)
  begins = facts.at.way leaf_held facts.at.held.linked.here

  module _ (after : t' spot.slot ≡ Some leaf_after) (others : (o : ℕ) → o ≢ spot.slot → t' o ≡ t o) where
    entry_written : WritesPayload t t' spot.slot leaf_key leaf_held leaf_value
    entry_written = record {
      write = record {
        here = facts.at.held.linked;
        locked = held_locked leaf_held.word spot.word facts.at.held.word facts.at.held.free;
        begins = begins;
        after = after;
      };
      full = facts.at.work.is.0;
      small = facts.small;
      others = beside_one t t' spot.slot others;
    }

    still_held : IsHeld t' spot
    still_held = record {
      node = leaf_after;
      linked = record { here = after; lifetime = facts.at.held.linked.lifetime };
      word = facts.at.held.word;
      free = facts.at.held.free;
      room = facts.at.held.room;
    }

    mine : Holding (Tail (Write spot)) spot.slot
    mine = inl (listed spot.slot (spot.slot ∷ []) (inl refl))

    pub entry_placed : IsPlaced t' root
    entry_placed = (entry_effect entry_written root placed (Holding (Tail (Write spot))) (λ p. Unit {0}) mine).placed

    unlocks_with : (value : Option M) → leaf_value ≡ value → (left : Option Cleanup) → IsLeftBy value leaf_after.node left → UnlocksWith Granted same (with_reply task) left
    unlocks_with value is None leaves = inr decided_open
    unlocks_with (Some v) is (Some c) leaves = absurd (none_some c (sym leaves))
    unlocks_with None is (Some c) leaves =
        let short : length leaf_after.node.prefix ≤ 7 = omega (arith, facts.at.work.is.0) in
        ends_with Granted same task facts.at.work.writes.opened leaf_after.node (Some c) (may_have_removed same Granted task _ facts.at.work.writes is) short leaves

    -- a cleanup follows only if the key was removed
    ends_sooner : (value : Option M) → leaf_value ≡ value → (left : Option Cleanup) → IsLeftBy value leaf_after.node left
        → work_of t' (at (Tail (Unlock spot left)) (with_reply task)) < work_of t (at (Tail (Write spot)) task)
    ends_sooner (Some v) is left leaves = rw leaves (omega arith)
    ends_sooner None is left leaves =
        let more : cleanup_work task.progress task.outline ≡ 70 = removing_work same Granted task _ facts.at.work.writes is in
        let short : length leaf_after.node.prefix ≤ 7 = omega (arith, facts.at.work.is.0) in
        let rest : unlock_work progress.Decided left ≤ 72 = left_short leaf_after.node left leaves short in
        omega (arith, more, rest)

    -- THE EVENT
    pub entry_move : (left : Option Cleanup) → IsLeftBy leaf_value leaf_after.node left → (books books' : StoreCounts) (at_key : Option M) → Fits leaf_held.node.form (length leaf_held.node.children) → at_key ≡ payload_in (found leaf_held (key_bytes task))
        → books'.count ≡ books.count → books'.charge ≡ books.charge → books'.entries ≡ entries_after at_key leaf_value books.entries
        → IsMove Granted same t t' root pin books books' (at (Tail (Write spot)) task) env (at (Tail (Unlock spot left)) (with_reply task)) (report_of kind.Write (Some spot.slot) 0 true) (Decided (reply_with task.outline at_key task.returns))
    entry_move left leaves books books' at_key fits stands_is count charge entries =
        let a : PlacedNode M = leaf_held in
        let w = facts.at.work.writes in
        let writes : WritesAtKey Granted same task at_key =
        record {
          opened = w.opened;
          value = w.value;
          stores = w.stores;
          change = subst (λ (z : Option M). IsChange same w.opened.op task.asking z w.value) (sym stands_is) w.change;
          read = w.read;
          seen = λ sees. w.seen sees ∙ sym stands_is;
        } in
        let effect : Effect t t' root (Holding (Tail (Write spot))) (λ p. p ≤ books.count) (spot.slot ∷ []) (spot.slot ∷ []) =
        entry_effect entry_written root placed (Holding (Tail (Write spot))) (λ p. p ≤ books.count) mine in
        let there : StandsAt t (key_bytes task) at_key =
        subst (λ (z : Option M). StandsAt t (key_bytes task) z) (sym stands_is)
        (leaf_stands t root (key_bytes task) placed spot.slot a facts.at.held.linked begins facts.at.work.is.0 (found a (key_bytes task)) refl) in
        record {
          facts = record { small = facts.small; at = (still_held, unlocks_with w.value refl left leaves) };
          counts = omega (arith, count);
          others = effect.others;
          privates = effect.privates;
          holds = λ s h. inl h;
          holders = λ s need. elim (effect.needs s need) [
            | inl named ↦ inl (inl (listed s (spot.slot ∷ []) named))
            | inr more ↦ inr (more.0, (λ h. elim h [ inl held ↦ more.1 (told s (spot.slot ∷ []) held) | inr made ↦ told s [] made ]))
          ];
          course = write_course t t' root task env (Write spot) (Unlock spot left) spot.slot _ (inl refl) refl refl (ends_sooner w.value refl left leaves);
          does = λ s s' id shows shows' map map' step.
              writes_answer Granted same task (Write spot) refl pin at_key writes s s' id env (flight pin (at (Tail (Unlock spot left)) (with_reply task))) books books' step count charge
              (record { slot = spot.slot; node = one a; mine = listed spot.slot (spot.slot ∷ []) (inl refl); here = seen_at t root s shows spot.slot a facts.at.held.linked.here })
              (payload w.value)
              None
              (nodes_written t t' root s s' [] spot.slot (one leaf_after) shows shows' map map' (record {
                was = a;
                here = facts.at.held.linked.here;
                there = ap shown after;
                apart = refl;
                published = λ o e. absurd (told o [] e);
                others = λ o far e. ap shown (others o far);
              }))
              (own_payload (flight pin (at (Tail (Write spot)) task)) w.value w.stores)
              (is_changed same (found a (key_bytes task)) w.value
              (λ none gone. let enters = change_enters same w.opened.op task.asking w.value (subst (λ (z : Option M). IsChange same w.opened.op task.asking z w.value) (ap (λ z. payload_in z) none) w.change) in none_some enters.0 (sym gone ∙ enters.1))
              (λ old new there stored. facts.at.work.differs old new there (w.stores ∙ stored)))
              (payload_shaped a.node.prefix w.value facts.at.work.is.0)
              (payload_fits a (byte_at a (key_bytes task)) w.value (placed.ordered spot.slot a facts.at.held.linked) fits facts.at.work.is.1)
              (takes_payload s (flight pin (at (Tail (Write spot)) task)) (found a (key_bytes task)) w.value (no_node_below t root placed spot.slot a facts.at.held.linked facts.at.work.is.0 (byte_at a (key_bytes task))))
              (left_in left) (is_left_by w.value leaf_after.node left leaves)
              refl (λ slot word h. absurd (none_some word h));
          carries = λ s s' shows shows' m content.
              becomes_of Granted same task (Write spot) refl pin at_key writes t t' root books books' placed effect.placed facts.small there (entry_answers t t' spot.slot leaf_key a w.value entry_written root placed) entries
              s s' shows shows' m content;
        }
