-- A LEAF IS TAKEN OUT of the tree: the write at its held parent, which removes its only payload and decides the call.
use Rattle.std.proofs.Common.{◌≡◌, ◌≢◌, ℕ, ◌+◌, ◌-◌, ◌^◌, ◌<◌, ◌≤◌, Bool, true, List, [], ◌∷◌, length, Option, Some, None, inl, inr, refl, sym, subst, ap, ◌∙◌, if◌then◌else◌, arith}
use Rattle.std.proofs.lemmas.Bool.{eq-eqb}
use Rattle.std.proofs.lemmas.Bool.Decides.{eqb_tells}
use Rattle.node_base.specs.Form.{Fits, Within}
use Rattle.spec_map.specs.Map.{IsMap, Rises, lookup, put, without}
use Rattle.spec_map.proofs.ByteMapLaws.{length-without_present}
use Rattle.spec_node.specs.TableNode.{Child}
use Rattle.spec_node.specs.declared.child.Child.TheVariants.{Payload, Node as below_at}
use Rattle.spec_olc.specs.Calls.{key_of}
use Rattle.spec_olc.specs.Kinds.{DoesAs, report_of}
use Rattle.spec_olc.specs.Local.{payload_in}
use Rattle.spec_olc.specs.State.{State, CallState}
use Rattle.spec_olc.specs.State as state
use Rattle.spec_olc.specs.Writing.{HeldNode, IsChanged, TakesOut, emptied, linked, with_children}
use Rattle.spec_olc.specs.declared.types.Env.{Env}
use Rattle.spec_olc.specs.declared.types.Kind.TheVariants as kind
use Rattle.spec_olc.specs.declared.types.Outcome.TheVariants.{Decided}
use Rattle.olc_state.specs.declared.stage.Stage.TheVariants.{Tail}
use Rattle.olc_state.specs.declared.stage.Task.{Task}
use Rattle.olc_state.specs.declared.tail.Large.TheVariants as large
use Rattle.olc_state.specs.declared.tail.NodePair.{NodePair}
use Rattle.olc_state.specs.declared.tail.Tail.TheVariants.{Detach, Obsolete}
use Rattle.olc_state.specs.inner.Effects.{reply_with}
use Rattle.olc_state.specs.inner.Facts.{Holding}
use Rattle.olc_state.specs.inner.Moves.{StoreCounts, IsAfter, IsMove}
use Rattle.olc_state.specs.inner.Shown.{flight}
use Rattle.olc_state.specs.inner.Tables.{IsPlaced, Keeps, byte_at}
use Rattle.olc_state.specs.inner.TailFacts.{AtPair, found}
use Rattle.olc_state.specs.inner.Tails.{both_slots, left_in, unlock_work}
use Rattle.olc_state.specs.inner.Tasks.{key_bytes}
use Rattle.olc_state.specs.inner.Turns.{ShowsNodes, cleanup_work}
use Rattle.olc_state.specs.inner.World.{PlacedNode, NodeMap, entry, is_linked, is_detached}
use Rattle.olc_state.proofs.Options.{none_some, some_same}
use Rattle.olc_state.proofs.Reaching.{one, seen_at}
use Rattle.olc_state.proofs.Records.{at}
use Rattle.olc_state.proofs.Members.{first_in, next_in}
use Rattle.olc_laws.proofs.Detaching.{TakesOut as Takes, taken_effect, taken_takes}
use Rattle.olc_laws.proofs.Effects.{Effect, OthersStay}
use Rattle.olc_laws.proofs.Writing.{IsLeafFor, answered, leaf_nodes}
use Rattle.olc_write.proofs.Deciding.{AnswersPair, StandsAt, becomes_of, entries_after, held_locked, with_reply, write_course, writes_answer}
use Rattle.olc_write.proofs.Parents.{holders_of}
use Rattle.olc_write.proofs.Showing.{ShownBy, linked_shown, linked_there, nodes_are, put_map, put_shown, Rises-linked, with_here, with_others, with_slot}
use Rattle.olc_state.specs.declared.cleanup.Cleanup.{Cleanup}
use Rattle.spec_olc.specs.declared.types.Progress.TheVariants as progress
use Rattle.olc_write.specs.inner.Leaving.{IsLeftOf}
use Rattle.olc_write.proofs.Leftovers.{ends_with, is_left, left_short, may_have_removed, removing_work}

module _ {V : Type 0} where
  -- a list with one entry, that of this key
  only_entry : (es : List (ℕ × V)) (k : ℕ) (v : V) → length es ≡ 1 → lookup es k ≡ Some v → es ≡ (k, v) ∷ []
  only_entry [] k v single e = absurd (none_some v e)
  only_entry (x ∷ []) k v single e =
      elim (eqb_tells x.0 k) [
        | inl is ↦
            let value : x.1 ≡ v = some_same x.1 v (subst (λ b. (if b then Some x.1 else None) ≡ Some v) is.0 e) in
            ap (λ (n : ℕ). (n, x.1) ∷ []) is.1 ∙ ap (λ (w : V). (k, w) ∷ []) value
        | inr far ↦ absurd (none_some v (subst (λ b. (if b then Some x.1 else None) ≡ Some v) far.0 e))
      ]
  only_entry (x ∷ y ∷ es) k v single e = absurd (omega (arith, single))

  without_itself : (k : ℕ) (v : V) → without ((k, v) ∷ []) k ≡ []
  without_itself k v = rw (eq-eqb k k refl) refl

  -- without it nothing is left
  pub none_left : (es : List (ℕ × V)) (k : ℕ) (v : V) → length es ≡ 1 → lookup es k ≡ Some v → without es k ≡ []
  none_left es k v single e = subst (λ (z : List (ℕ × V)). without z k ≡ []) (sym (only_entry es k v single e)) (without_itself k v)

-- fewer children fit too
within_fewer : (most : Option ℕ) (fewer n : ℕ) → fewer ≤ n → Within most n → Within most fewer
within_fewer None fewer n less h = tt
within_fewer (Some most) fewer n less h = omega (arith, less, h)

module _ {M : Type 0} where
  pub without_fits : (a : PlacedNode M) (x : ℕ) (c : Child M) → Rises 0 256 a.node.children → entry a x ≡ Some c → Fits a.node.form (length a.node.children) → Fits a.node.form (length (without a.node.children x))
  without_fits a x c rises e fits =
      let fewer : length (without a.node.children x) + 1 ≡ length a.node.children = length-without_present 0 256 a.node.children x rises (rw e refl) in
      within_fewer _ (length (without a.node.children x)) (length a.node.children) (omega (arith, fewer)) fits

  -- a leaf whose only payload was removed
  abbrev pub drained : PlacedNode M → PlacedNode M
  drained b = record b { node = record b.node { children = [] }; lifetime = is_detached }

  drained_shown : (b : PlacedNode M) → b.lifetime ≡ is_linked → one (drained b) ≡ with_children (one b) []
  drained_shown b e = rw e refl

  none_linked : (s : ℕ) (x : Option (PlacedNode M)) → x ≡ linked_there [] s x
  none_linked s None = refl
  none_linked s (Some a) = refl

  -- what a reader sees of the nodes
  pub nodes_taken : (t t' : NodeMap M) (root : ℕ) (s s' : State M) (p q : ℕ) (a b : PlacedNode M) → ShowsNodes t root s → ShowsNodes t' root s' → IsMap s.nodes → IsMap s'.nodes
      → t' p ≡ Some a → b.lifetime ≡ is_linked → t' q ≡ Some (drained b) → OthersStay t t' (p ∷ q ∷ [])
      → s'.nodes ≡ emptied (Some (q, one b)) (linked [] (put s.nodes p (one a)))
  nodes_taken t t' root s s' p q a b shows shows' map map' above current gone others =
      let first : NodeMap M = with_slot t p (Some a) in
      let written : List (ℕ × state.VersionedNode M) = put s.nodes p (one a) in
      let by : ShownBy first written = put_shown t first s.nodes p a shows.nodes (with_here t p (Some a)) (with_others t p (Some a)) in
      let still : ShownBy first (linked [] written) = linked_shown first first [] written by (λ o. none_linked o (first o)) in
      let rises : IsMap (linked [] written) = Rises-linked 0 (2 ^ 64) [] written (put_map t' root s' shows' map' s.nodes p a map above) in
      let rest : (o : ℕ) → o ≢ q → t' o ≡ first o = λ o far. elim (eqb_tells o p) [
        | inl e ↦ subst (λ z. t' z ≡ first z) (sym e.1) (above ∙ sym (with_here t p (Some a)))
        | inr off ↦ others o (λ h. elim h [ inl e ↦ off.1 (sym e) | inr (inl e) ↦ far (sym e) | inr (inr none) ↦ none ]) ∙ sym (with_others t p (Some a) o off.1)
      ] in
      nodes_are t' root s' shows' map' (put (linked [] written) q (one (drained b))) (put_map t' root s' shows' map' (linked [] written) q (drained b) rises gone)
      (put_shown first t' (linked [] written) q (drained b) still gone rest)
      ∙ ap (λ (n : state.VersionedNode M). put (linked [] written) q n) (drained_shown b current)

-- If `Granted` holds, a share is always granted. `same` compares two payloads. The leaf's payload is the key's value.
pub leaf_keeps : {M : Type 0} (Granted : Type 0) (same : M → M → Bool) (t : NodeMap M) (task : Task M) (pair : NodePair) (own : AtPair Granted same t task pair large.Detach) → Keeps t (key_bytes task) own.work.is.2.0
leaf_keeps Granted same t task pair own = record {
  slot = pair.here.slot;
  leaf = own.held.here.node;
  linked = own.held.here.linked;
  full = own.work.is.1;
  begins = own.work.is.0;
  payload = own.work.is.2.1;
}

module _ {M : Type 0} (Granted : Type 0) (same : M → M → Bool) (t t' : NodeMap M) (root pin : ℕ) (task : Task M) (pair : NodePair) (placed : IsPlaced t root) (small : key_of task.outline < 2 ^ 64)
    (books books' : StoreCounts) (env : Env M) (count : books'.count ≡ books.count) (charge : books'.charge ≡ books.charge) (entries : books'.entries ≡ books.entries - 1)
    (own : AtPair Granted same t task pair large.Detach) where
  abbrev k : List ℕ
  k = key_bytes task

  abbrev p : ℕ
  p = pair.above.slot

  abbrev q : ℕ
  q = pair.here.slot

  abbrev a : PlacedNode M
  a = own.held.above.node

  abbrev b : PlacedNode M
  b = own.held.here.node

  abbrev at_key : Option M
  at_key = payload_in (found b k)

  -- the parent leads nowhere there
  abbrev pub above_after : PlacedNode M
  above_after = answered a (byte_at a k) None

  leaf_is : IsLeafFor b.node (key_of task.outline) own.work.is.2.0
  leaf_is = record { full = own.work.is.1; begins = own.work.is.0; children = only_entry b.node.children (byte_at b k) (Payload own.work.is.2.0) own.work.is.3 own.work.is.2.1 }

  module _ (fits : Fits a.node.form (length a.node.children)) (above : t' p ≡ Some above_after) (gone : t' q ≡ Some (drained b)) (others : OthersStay t t' (p ∷ q ∷ [])) where
    takes : Takes t t' p q (key_of task.outline) a b (drained b).node
    takes = record {
      write = record {
        here = own.held.above.linked;
        locked = held_locked a.word pair.above.word own.held.above.word own.held.above.free;
        begins = own.held.over.way a own.held.above.linked.here;
        after = above;
      };
      child = own.held.leads;
      old = record {
        here = own.held.here.linked;
        locked = held_locked b.word pair.here.word own.held.here.word own.held.here.free;
        prefix = refl;
        after = gone;
      };
      leaf = leaf_nodes leaf_is;
      others = others;
    }

    taken : Effect t t' root (Holding (Tail (Detach pair))) (λ z. z ≤ books.count) (p ∷ q ∷ []) (p ∷ q ∷ [])
    taken = taken_effect takes root placed (Holding (Tail (Detach pair))) (λ z. z ≤ books.count) (inl (next_in q p (p ∷ []) (first_in p []))) (inl (first_in q (p ∷ [])))

    pub taken_placed : IsPlaced t' root
    taken_placed = taken.placed

    -- AS A PUBLIC EVENT
    does_taken : (left : Option Cleanup) → IsLeftOf true above_after.node left → (s s' : State M) (id : ℕ) → ShowsNodes t root s → ShowsNodes t' root s' → IsMap s.nodes → IsMap s'.nodes → IsAfter s s' id (flight pin (at (Tail (Obsolete pair left)) (with_reply task))) books books'
        → DoesAs Granted same s s' id (flight pin (at (Tail (Detach pair)) task)) env (report_of kind.Write (Some p) 0 true) (Decided (reply_with task.outline at_key task.returns)) kind.Write
    does_taken left leaves s s' id shows shows' map map' after =
        let call : CallState M = flight pin (at (Tail (Detach pair)) task) in
        let mine : HeldNode s call = record { slot = p; node = one a; mine = next_in q p (p ∷ []) (first_in p []); here = seen_at t root s shows p a own.held.above.linked.here } in
        let leaf : HeldNode s call = record { slot = q; node = one b; mine = first_in q (p ∷ []); here = seen_at t root s shows q b own.held.here.linked.here } in
        writes_answer Granted same task (Detach pair) refl pin at_key own.work.writes s s' id env (flight pin (at (Tail (Obsolete pair left)) (with_reply task))) books books' after count charge
        mine None (Some (q, one b))
        (nodes_taken t t' root s s' p q above_after b shows shows' map map' above own.held.here.linked.lifetime gone others)
        (own.work.writes.stores ∙ own.work.may) (subst (λ (z : Option (Child M)). IsChanged same z None) (sym own.held.leads) tt) (λ c e. absurd (none_some c e))
        (without_fits a (byte_at a k) (below_at q) (placed.ordered p a own.held.above.linked) own.held.leads fits)
        (subst (λ (z : Option (Child M)). TakesOut s call z None (Some (q, one b))) (sym own.held.leads) (leaf, refl, refl))
        (left_in left) (is_left above_after.node left leaves) refl (λ slot word h. absurd (none_some word h))

    -- THE EVENT
    pub taken_moves : (left : Option Cleanup) → IsLeftOf true above_after.node left → IsMove Granted same t t' root pin books books' (at (Tail (Detach pair)) task) env (at (Tail (Obsolete pair left)) (with_reply task)) (report_of kind.Write (Some p) 0 true)
        (Decided (reply_with task.outline at_key task.returns))
    taken_moves left leaves =
        let w = own.work.writes in
        let found_is : at_key ≡ Some own.work.is.2.0 = ap payload_in own.work.is.2.1 in
        record {
          facts = record {
            small = small;
            at = (
              ends_with Granted same task w.opened above_after.node left (may_have_removed same Granted task at_key w own.work.may) (placed.short p a own.held.above.linked) leaves,
              record {
                node = above_after;
                linked = record { here = above; lifetime = own.held.above.linked.lifetime };
                word = own.held.above.word;
                free = own.held.above.free;
                room = own.held.above.room;
              },
              record { node = drained b; here = gone; lifetime = refl; word = own.held.here.word; free = own.held.here.free },
              own.held.over.apart,
            );
          };
          counts = omega (arith, count);
          others = taken.others;
          privates = taken.privates;
          holds = λ s h. inl h;
          holders = holders_of t t' (both_slots pair) [] (p ∷ q ∷ []) (p ∷ q ∷ []) taken.needs
              (λ s h. elim h [ inl e ↦ inr (inl e) | inr (inl e) ↦ inl e | inr (inr none) ↦ absurd none ]) (λ s h. absurd h);
          course = write_course t t' root task env (Detach pair) (Obsolete pair left) p _ (inr (inl refl)) refl refl
              (let more : cleanup_work task.progress task.outline ≡ 70 = removing_work same Granted task at_key w own.work.may in
              let rest : unlock_work progress.Decided left ≤ 72 = left_short above_after.node left leaves (placed.short p a own.held.above.linked) in
              omega (arith, more, rest));
          does = does_taken left leaves;
          carries = becomes_of Granted same task (Detach pair) refl pin at_key w t t' root books books' placed taken.placed small
              (subst (λ (z : Option M). StandsAt t k z) (sym found_is) (leaf_keeps Granted same t task pair own))
              (subst (λ (z : Option M). AnswersPair t t' (key_of task.outline) z) (sym own.work.may) (taken_takes takes root placed own.work.is.2.0 leaf_is small))
              (subst (λ (z : Option M). books'.entries ≡ entries_after at_key z books.entries) (sym own.work.may)
              (subst (λ (z : Option M). books'.entries ≡ entries_after z None books.entries) (sym found_is) entries));
        }
