-- LINK: the call's new leaf is put below the held inner node, under a byte that had no child.
use Rattle.std.proofs.Common.{◌≡◌, ◌≢◌, ℕ, ◌+◌, ◌≤◌, Bool, true, false, [], ◌∷◌, length, take, drop, Option, Some, None, inl, inr, refl, sym, subst, ap, ◌∙◌, arith}
use Rattle.std.proofs.lemmas.Bool.{ne_eqb}
use Rattle.std.proofs.lemmas.List.{take-append-drop}
use Rattle.node_base.specs.Form.{Fits}
use Rattle.spec_node.specs.Key.{Begins}
use Rattle.spec_node.specs.TableNode.{TableNode}
use Rattle.spec_node.specs.declared.child.Child.TheVariants.{Node as below_at}
use Rattle.node_table.proofs.BeginLaws.{begins_by}
use Rattle.spec_olc.specs.Calls.{bytes_of, key_of}
use Rattle.spec_olc.specs.Kinds.{report_of}
use Rattle.spec_olc.specs.Local.{payload_in}
use Rattle.spec_olc.specs.declared.types.Env.{Env}
use Rattle.spec_olc.specs.declared.types.Kind.TheVariants as kind
use Rattle.spec_olc.specs.declared.types.Outcome.TheVariants.{Decided}
use Rattle.spec_olc.specs.Lock.{IsFree}
use Rattle.olc_state.specs.declared.stage.Spot.{Spot}
use Rattle.olc_state.specs.declared.stage.Stage.TheVariants.{Tail}
use Rattle.olc_state.specs.declared.stage.Task.{Task}
use Rattle.olc_state.specs.declared.tail.Tail.TheVariants.{Link, Unlock}
use Rattle.olc_state.specs.inner.Effects.{IsChange, reply_with}
use Rattle.olc_state.specs.inner.Facts.{Facts, Holding}
use Rattle.olc_state.specs.inner.Moves.{StoreCounts, IsMove}
use Rattle.olc_state.specs.inner.Shown.{flight, shown}
use Rattle.olc_state.specs.inner.Tables.{IsPlaced, byte_at}
use Rattle.olc_state.specs.inner.TailFacts.{HasLeaf, IsHeld, WritesAtKey, found, leaf_of, stores}
use Rattle.olc_state.specs.inner.Tasks.{key_bytes}
use Rattle.olc_state.specs.inner.World.{PlacedNode, NodeMap, is_linked}
use Rattle.olc_state.proofs.Options.{none_some, some_same}
use Rattle.olc_state.proofs.Reaching.{one, seen_at}
use Rattle.olc_state.proofs.Replies.{change_enters}
use Rattle.olc_state.proofs.Ways.{absent_here}
use Rattle.olc_state.proofs.Unlike.{decided_open}
use Rattle.olc_state.proofs.Records.{at}
use Rattle.olc_state.proofs.Members.{listed, told}
use Rattle.olc_laws.proofs.Effects.{Effect, beside_two}
use Rattle.olc_laws.proofs.Linking.{Links, link_effect, link_puts}
use Rattle.olc_laws.proofs.Writing.{IsLeafFor, Publishes, answered, published_new}
use Rattle.olc_write.proofs.Deciding.{AnswersPair, becomes_of, changed_node, held_locked, nodes_written, put_fits, with_reply, write_course, writes_child}

not_both : {b : Bool} → b ≡ false → b ≡ true → ⊥
not_both e f = cc

module _ {M : Type 0} where
  -- the leaf of a key is a leaf for it
  pub is_leaf_of : (key : ℕ) (v : M) → IsLeafFor (leaf_of (bytes_of key) v) key v
  is_leaf_of key v = record {
    full = refl;
    begins = begins_by (take 7 (bytes_of key)) (drop 7 (bytes_of key)) (bytes_of key) (sym (take-append-drop 7 (bytes_of key)));
    children = refl;
  }

  -- a leaf that the call has made has the payload that it stores
  pub made_leaf : (t t' : NodeMap M) (task : Task M) (leaf : ℕ) (v : M) → stores task ≡ Some v → (h : HasLeaf t task leaf) → IsLeafFor h.made.node.node (key_of task.outline) v
  made_leaf t t' task leaf v is h =
      let value : h.value ≡ v = some_same h.value v (sym h.stores ∙ is) in
      subst (λ (n : TableNode M). IsLeafFor n (key_of task.outline) v) (sym h.made.is)
      (subst (λ (x : M). IsLeafFor (leaf_of (key_bytes task) h.value) (key_of task.outline) x) value (is_leaf_of (key_of task.outline) h.value))

  -- it is linked, if nothing else happens to it
  pub made_published : (t t' : NodeMap M) (task : Task M) (leaf : ℕ) (h : HasLeaf t task leaf) → t' leaf ≡ Some (record h.made.node { lifetime = is_linked }) → Publishes t t' leaf h.made.node
  made_published t t' task leaf h after = record {
    made = h.made.here;
    private = h.made.lifetime;
    free = subst (λ n. IsFree n) (sym h.made.word) refl;
    after = after;
  }

-- If `Granted` holds, a share is always granted. `same` compares two payloads.
module _ {M : Type 0} (Granted : Type 0) (same : M → M → Bool) (t t' : NodeMap M) (root pin : ℕ) (task : Task M) (env : Env M) (spot : Spot) (leaf : ℕ) (placed : IsPlaced t root)
    (facts : Facts Granted same t root pin (at (Tail (Link spot leaf)) task)) where
  -- the node that is held, the leaf, and the key
  abbrev pub inner_held : PlacedNode M
  inner_held = facts.at.0.held.node

  abbrev pub leaf_made : PlacedNode M
  leaf_made = facts.at.1.made.node

  abbrev pub link_key : ℕ
  link_key = key_of task.outline

  -- if the key is absent the call stores a value
  enters : (v : M) × (facts.at.0.work.writes.value ≡ Some v)
  enters =
      let w = facts.at.0.work.writes in
      change_enters same w.opened.op task.asking w.value (subst (λ (z : Option M). IsChange same w.opened.op task.asking z w.value) (ap payload_in facts.at.0.work.is.1) w.change)

  abbrev pub inner_after : PlacedNode M
  inner_after = answered inner_held (byte_at inner_held (key_bytes task)) (Some (below_at leaf))

  begins : Begins inner_held.node.prefix (key_bytes task)
  begins = facts.at.0.way inner_held facts.at.0.held.linked.here

  module _ (after : t' spot.slot ≡ Some inner_after) (after_leaf : t' leaf ≡ Some (record leaf_made { lifetime = is_linked }))
      (others : (o : ℕ) → o ≢ spot.slot → o ≢ leaf → t' o ≡ t o) where
    publishes : Publishes t t' leaf leaf_made
    publishes = made_published t t' task leaf facts.at.1 after_leaf

    apart : spot.slot ≢ leaf
    apart = published_new publishes spot.slot inner_held facts.at.0.held.linked

    links : Links t t' spot.slot leaf link_key inner_held leaf_made enters.0
    links = record {
      write = record {
        here = facts.at.0.held.linked;
        locked = held_locked inner_held.word spot.word facts.at.0.held.word facts.at.0.held.free;
        begins = begins;
        after = after;
      };
      inner = facts.at.0.work.is.0;
      empty = facts.at.0.work.is.1;
      new = publishes;
      leaf = made_leaf t t' task leaf enters.0 (facts.at.0.work.writes.stores ∙ enters.1) facts.at.1;
      small = facts.small;
      others = beside_two t t' spot.slot leaf others;
    }

    still_held : IsHeld t' spot
    still_held = record {
      node = inner_after;
      linked = record { here = after; lifetime = facts.at.0.held.linked.lifetime };
      word = facts.at.0.held.word;
      free = facts.at.0.held.free;
      room = facts.at.0.held.room;
    }

    pub link_placed : IsPlaced t' root
    link_placed = (link_effect links root placed (Holding (Tail (Link spot leaf))) (λ p. Unit {0}) (inl (listed spot.slot (spot.slot ∷ []) (inl refl))) (inr (listed leaf (leaf ∷ []) (inl refl)))).placed

    -- THE EVENT
    pub link_move : (books books' : StoreCounts) → Fits inner_held.node.form (length inner_held.node.children) → books'.count ≡ books.count → books'.charge ≡ books.charge → books'.entries ≡ books.entries + 1
        → IsMove Granted same t t' root pin books books' (at (Tail (Link spot leaf)) task) env (at (Tail (Unlock spot None)) (with_reply task)) (report_of kind.Write (Some spot.slot) 0 true) (Decided (reply_with task.outline None task.returns))
    link_move books books' fits count charge entries =
        let a : PlacedNode M = inner_held in
        let w = facts.at.0.work.writes in
        let empty : found a (key_bytes task) ≡ None = facts.at.0.work.is.1 in
        let writes : WritesAtKey Granted same task None =
        record {
          opened = w.opened;
          value = w.value;
          stores = w.stores;
          change = subst (λ (z : Option M). IsChange same w.opened.op task.asking z w.value) (ap payload_in empty) w.change;
          read = w.read;
          seen = λ sees. w.seen sees ∙ ap payload_in empty;
        } in
        let effect : Effect t t' root (Holding (Tail (Link spot leaf))) (λ p. p ≤ books.count) (spot.slot ∷ leaf ∷ []) (spot.slot ∷ []) =
        link_effect links root placed (Holding (Tail (Link spot leaf))) (λ p. p ≤ books.count) (inl (listed spot.slot (spot.slot ∷ []) (inl refl))) (inr (listed leaf (leaf ∷ []) (inl refl))) in
        record {
          facts = record { small = facts.small; at = (still_held, inr decided_open) };
          counts = omega (arith, count);
          others = effect.others;
          privates = effect.privates;
          holds = λ s h. elim h [ inl held ↦ inl (inl held) | inr made ↦ absurd (told s [] made) ];
          holders = λ s need. elim (effect.needs s need) [
            | inl named ↦ inl (inl (listed s (spot.slot ∷ []) named))
            | inr more ↦ inr (
              more.0,
              (λ h. elim h [
                | inl held ↦ more.1 (elim (told s (spot.slot ∷ []) held) [ inl e ↦ inl e | inr none ↦ absurd none ])
                | inr made ↦ more.1 (inr (told s (leaf ∷ []) made))
              ]),
            )
          ];
          course = write_course t t' root task env (Link spot leaf) (Unlock spot None) spot.slot _ (inl refl) refl refl (omega arith);
          does = λ s s' id shows shows' map map' step.
              writes_child Granted same task (Link spot leaf) refl pin None writes s s' id env (flight pin (at (Tail (Unlock spot None)) (with_reply task))) books books' step count charge
              (record { slot = spot.slot; node = one a; mine = listed spot.slot (spot.slot ∷ []) (inl refl); here = seen_at t root s shows spot.slot a facts.at.0.held.linked.here })
              (below_at leaf)
              (nodes_written t t' root s s' (leaf ∷ []) spot.slot (one inner_after) shows shows' map map' (record {
                was = a;
                here = facts.at.0.held.linked.here;
                there = ap shown after;
                apart = rw (ne_eqb leaf spot.slot (λ e. apart (sym e))) refl;
                published = λ o e. elim (told o (leaf ∷ []) e) [
                  | inl one ↦ (leaf_made, subst (λ z. t z ≡ Some leaf_made) one facts.at.1.made.here, subst (λ z. t' z ≡ Some (record leaf_made { lifetime = is_linked })) one after_leaf)
                  | inr none ↦ absurd none
                ];
                others = λ o far off. ap shown (others o far (λ e. not_both off (listed o (leaf ∷ []) (inl (sym e)))));
              }))
              (listed leaf (leaf ∷ []) (inl refl)) (changed_node same (found a (key_bytes task)) leaf) facts.at.0.work.is.0
              (put_fits a (byte_at a (key_bytes task)) (below_at leaf) (placed.ordered spot.slot a facts.at.0.held.linked) fits (λ e. facts.at.0.work.is.2))
              refl (λ slot word h. absurd (none_some word h));
          carries = λ s s' shows shows' m content.
              becomes_of Granted same task (Link spot leaf) refl pin None writes t t' root books books' placed effect.placed facts.small
              (absent_here t root (key_bytes task) placed spot.slot a facts.at.0.held.linked begins empty) (subst (λ (z : Option M). AnswersPair t t' link_key z) (sym enters.1) (link_puts links root placed))
              (entries ∙ rw enters.1 refl)
              s s' shows shows' m content;
        }
