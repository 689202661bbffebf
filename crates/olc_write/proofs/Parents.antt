-- WRITES AT THE PARENT as events of a call: the copy or the middle node takes the place of the call's node, which
-- decides the call.
use Rattle.std.proofs.Common.{◌≡◌, ◌≢◌, ℕ, ◌+◌, ◌^◌, ◌<◌, ◌≤◌, Bool, true, false, IsTrue, List, [], ◌∷◌, length, Option, Some, None, ◌⊎◌, inl, inr, refl, sym, subst, ap, ◌∙◌, arith}
use Rattle.std.proofs.lemmas.Bool.Decides.{eqb_tells}
use Rattle.node_base.specs.Form.{Fits}
use Rattle.spec_map.specs.Map.{IsMap, lookup, put}
use Rattle.spec_map.proofs.ByteMapLaws.{length-put_some}
use Rattle.spec_node.specs.declared.child.Child.TheVariants.{Node as below_at}
use Rattle.spec_olc.specs.Calls.{key_of}
use Rattle.spec_olc.specs.Kinds.{DoesAs, report_of}
use Rattle.spec_olc.specs.Lists.{is_in}
use Rattle.spec_olc.specs.State.{State, CallState, settled}
use Rattle.spec_olc.specs.declared.types.Env.{Env}
use Rattle.spec_olc.specs.declared.types.Kind.TheVariants as kind
use Rattle.spec_olc.specs.declared.types.Outcome.TheVariants.{Decided}
use Rattle.spec_olc.specs.declared.types.Progress.TheVariants as progress
use Rattle.olc_state.specs.declared.tail.Tail as tails
use Rattle.olc_state.specs.declared.stage.Stage.TheVariants.{Tail}
use Rattle.olc_state.specs.declared.stage.Task.{Task}
use Rattle.olc_state.specs.declared.tail.Large.TheVariants.{Split}
use Rattle.olc_state.specs.declared.tail.NodePair.{NodePair}
use Rattle.olc_state.specs.declared.tail.Tail.TheVariants.{Replace, Insert, Obsolete, UnlockBelow}
use Rattle.olc_state.specs.inner.Effects.{reply_with}
use Rattle.olc_state.specs.inner.Facts.{Holding}
use Rattle.olc_state.specs.inner.Moves.{StoreCounts, IsAfter, IsMove}
use Rattle.olc_state.specs.inner.Shown.{flight, shown, held_at, made_at}
use Rattle.olc_state.specs.inner.Tables.{IsIn, IsLinked, IsPlaced, NeedsHolder, byte_at}
use Rattle.olc_state.specs.inner.TailFacts.{IsHeld, AreHeld, AtPair, HasLeaf, HasCopy, HasMiddle, WritesAtKey, found, is_for}
use Rattle.olc_state.specs.inner.Tails.{both_slots, one_more, cleaning_in}
use Rattle.olc_state.specs.inner.Tasks.{key_bytes}
use Rattle.olc_state.specs.inner.Turns.{ShowsNodes}
use Rattle.olc_state.specs.inner.World.{PlacedNode, NodeMap, is_private, is_linked, is_detached}
use Rattle.olc_state.proofs.Options.{none_some, some_same}
use Rattle.olc_state.proofs.Reaching.{one, seen_at}
use Rattle.olc_state.proofs.Unlike.{linked_private, decided_open}
use Rattle.olc_state.proofs.Records.{at}
use Rattle.olc_state.proofs.Replies.{change_enters}
use Rattle.olc_state.proofs.Members.{first_in, listed, next_in, told, true_or_false}
use Rattle.olc_laws.proofs.Effects.{OthersStay, Effect, Beside}
use Rattle.olc_laws.proofs.Growing.{grown_leaf_effect, grown_leaf_puts, grown_inner_effect, grown_inner_puts}
use Rattle.olc_laws.proofs.Pairs.{PutsPair}
use Rattle.olc_laws.proofs.Splitting.{split_effect, split_puts}
use Rattle.olc_laws.proofs.Writing.{answered}
use Rattle.olc_write.proofs.Deciding.{AnswersPair, ShowsWrite, StandsAt, becomes_of, changed_node, entries_after, nodes_written, with_reply, write_course, writes_child}
use Rattle.olc_write.proofs.Growths.{BecomesLinked, LeadsNow, IsPrivate, copy_private, middle_private, above_inner, grows_leaf, grows_inner, splits, copied_absent, split_absent}

pub not_in : (b : Bool) → b ≡ false → IsTrue b → ⊥
not_in b e h = cc

out_list : (n : ℕ) (xs : List ℕ) → (IsIn n xs → ⊥) → is_in n xs ≡ false
out_list n xs out =
    elim (true_or_false (is_in n xs)) [
      | inl e ↦ absurd (out (told n xs e))
      | inr e ↦ e
    ]

module _ {M : Type 0} where
  -- WHO HOLDS WHAT where a call keeps what it holds, and what it had made is linked
  pub holders_of : (t t' : NodeMap M) (held made written named : List ℕ) → ((s : ℕ) → NeedsHolder t' s → IsIn s named ⊎ (NeedsHolder t s × Beside s written))
      → ((s : ℕ) → IsIn s named → IsIn s held) → ((s : ℕ) → IsIn s made → IsIn s written)
      → (s : ℕ) → NeedsHolder t' s → (IsTrue (is_in s held) ⊎ IsTrue (is_in s [])) ⊎ (NeedsHolder t s × ((IsTrue (is_in s held) ⊎ IsTrue (is_in s made)) → ⊥))
  holders_of t t' held made written named needs to_held to_written s need =
      elim (true_or_false (is_in s held)) [
        | inl e ↦ inl (inl e)
        | inr e ↦
            elim (needs s need) [
              | inl one ↦ absurd (not_in (is_in s held) e (listed s held (to_held s one)))
              | inr rest ↦ inr (
                rest.0,
                (λ mine. elim mine [
                  | inl h ↦ not_in (is_in s held) e h
                  | inr h ↦ rest.1 (to_written s (told s made h))
                ]),
              )
            ]
      ]

  -- a private node of a call, which is linked now
  pub record IsPublished (t t' : NodeMap M) (s : ℕ) : Type 0 where
    pub node : PlacedNode M
    pub made : t s ≡ Some node
    pub private : node.lifetime ≡ is_private
    pub after : t' s ≡ Some (record node { lifetime = is_linked })

  published_off : (t t' : NodeMap M) (s p : ℕ) (a : PlacedNode M) → IsPublished t t' s → IsLinked t p a → p ≢ s
  published_off t t' s p a h l e =
      let same : h.node ≡ a = some_same h.node a (sym h.made ∙ subst (λ z. t z ≡ Some a) e l.here) in
      linked_private (sym l.lifetime ∙ (ap (λ (z : PlacedNode M). z.lifetime) (sym same) ∙ h.private))

  -- what a reader sees of a linked node that is detached
  detached_shown : (b : PlacedNode M) → b.lifetime ≡ is_linked → shown (Some (record b { lifetime = is_detached })) ≡ shown (Some b)
  detached_shown b e = rw e refl

-- THE PARENT of a node that another one replaces
module _ {M : Type 0} (t t' : NodeMap M) (task : Task M) (pair : NodePair) where
  -- what a reader sees of the nodes
  pub shows_above : (new : ℕ) (made : List ℕ) (held : AreHeld t pair (key_bytes task)) → LeadsNow t' pair.above.slot held.above.node (key_bytes task) new → ((s : ℕ) → IsIn s made → IsPublished t t' s)
      → ((o : ℕ) → o ≢ pair.above.slot → (IsIn o made → ⊥) → shown (t' o) ≡ shown (t o))
      → ShowsWrite t t' made pair.above.slot (one (answered held.above.node (byte_at held.above.node (key_bytes task)) (Some (below_at new))))
  shows_above new made held above published others = record {
    was = held.above.node;
    here = held.above.linked.here;
    there = ap shown above;
    apart = out_list pair.above.slot made (λ h. published_off t t' pair.above.slot pair.above.slot held.above.node (published pair.above.slot h) held.above.linked refl);
    published = λ o h. let x = published o (told o made h) in (x.node, x.made, x.after);
    others = λ o far out. others o far (λ h. not_in (is_in o made) out (listed o made h));
  }

  -- the parent is still held
  pub above_held : (new : ℕ) (held : AreHeld t pair (key_bytes task)) → LeadsNow t' pair.above.slot held.above.node (key_bytes task) new → IsHeld t' pair.above
  above_held new held above = record {
    node = answered held.above.node (byte_at held.above.node (key_bytes task)) (Some (below_at new));
    linked = record { here = above; lifetime = held.above.linked.lifetime };
    word = held.above.word;
    free = held.above.free;
    room = held.above.room;
  }

  -- what a reader sees beside the parent, where a node is detached
  pub others_shown : (made : List ℕ) (held : AreHeld t pair (key_bytes task)) → t' pair.here.slot ≡ Some (record held.here.node { lifetime = is_detached }) → OthersStay t t' (pair.above.slot ∷ pair.here.slot ∷ made)
      → (o : ℕ) → o ≢ pair.above.slot → (IsIn o made → ⊥) → shown (t' o) ≡ shown (t o)
  others_shown made held here others o far out =
      elim (eqb_tells o pair.here.slot) [
        | inl same_slot ↦
            subst (λ z. shown (t' z) ≡ shown (t z)) (sym same_slot.1)
            (ap shown here ∙ (detached_shown held.here.node held.here.linked.lifetime ∙ sym (ap shown held.here.linked.here)))
        | inr off ↦ ap shown (others o (λ h. elim h [ inl e ↦ far (sym e) | inr (inl e) ↦ off.1 (sym e) | inr (inr later) ↦ out later ]))
      ]

module _ {M : Type 0} (t : NodeMap M) (root : ℕ) (task : Task M) (pair : NodePair) (placed : IsPlaced t root) where
  -- another child in a child's place leaves their number
  pub still_fits : (new : ℕ) (held : AreHeld t pair (key_bytes task)) → Fits held.above.node.node.form (length held.above.node.node.children)
      → Fits held.above.node.node.form (length (put held.above.node.node.children (byte_at held.above.node (key_bytes task)) (below_at new)))
  still_fits new held fits =
      let a : PlacedNode M = held.above.node in
      subst (λ n. Fits a.node.form n) (sym (length-put_some 0 256 a.node.children (byte_at a (key_bytes task)) (below_at new) (placed.ordered pair.above.slot a held.above.linked) (rw held.leads refl))) fits

module _ {M : Type 0} (t t' : NodeMap M) where
  pub published_by : (made : List ℕ) → ((s : ℕ) → IsIn s made → IsPrivate t s) → ((s : ℕ) → IsIn s made → BecomesLinked t t' s) → (s : ℕ) → IsIn s made → IsPublished t t' s
  published_by made private linked s h =
      let x = private s h in
      record { node = x.node; made = x.here; private = x.lifetime; after = linked s h x.node x.here }

module _ {M : Type 0} (Granted : Type 0) (same : M → M → Bool) (t t' : NodeMap M) (root pin : ℕ) (task : Task M) (pair : NodePair) (placed : IsPlaced t root) (small : key_of task.outline < 2 ^ 64)
    (books books' : StoreCounts) (env : Env M) (count : books'.count ≡ books.count) (charge : books'.charge ≡ books.charge) (entries : books'.entries ≡ books.entries + 1) where
  abbrev k : List ℕ
  k = key_bytes task

  abbrev p : ℕ
  p = pair.above.slot

  abbrev q : ℕ
  q = pair.here.slot

  -- a call whose key is absent stores a value
  entered : (w : WritesAtKey Granted same task None) → (v : M) × (w.value ≡ Some v)
  entered w = change_enters same w.opened.op task.asking w.value w.change

  answers_entered : (value : Option M) (v : M) → value ≡ Some v → PutsPair t t' (key_of task.outline) v → AnswersPair t t' (key_of task.outline) value
  answers_entered value v is puts = subst (λ (z : Option M). AnswersPair t t' (key_of task.outline) z) (sym is) puts

  entries_entered : (value : Option M) (v : M) → value ≡ Some v → books'.entries ≡ entries_after None value books.entries
  entries_entered value v is = subst (λ (z : Option M). books'.entries ≡ entries_after None z books.entries) (sym is) entries

  -- AS A PUBLIC EVENT
  does_above : (tail next : tails.Tail) → cleaning_in tail ≡ None → (new : ℕ) (held : AreHeld t pair k) (w : WritesAtKey Granted same task None) → IsTrue (is_in p (held_at (Tail tail))) → IsTrue (is_in new (made_at (Tail tail)))
      → (let call : CallState M = flight pin (at (Tail tail) task) in let after : CallState M = flight pin (at (Tail next) (with_reply task)) in after ≡ record (settled progress.Decided (record call { made = []; cleaning = None })) { remembered = after.remembered })
      → (let after : CallState M = flight pin (at (Tail next) (with_reply task)) in after.remembered ≡ [])
      → Fits held.above.node.node.form (length held.above.node.node.children)
      → ShowsWrite t t' (made_at (Tail tail)) p (one (answered held.above.node (byte_at held.above.node k) (Some (below_at new))))
      → (s s' : State M) (id : ℕ) → ShowsNodes t root s → ShowsNodes t' root s' → IsMap s.nodes → IsMap s'.nodes → IsAfter s s' id (flight pin (at (Tail next) (with_reply task))) books books'
      → DoesAs Granted same s s' id (flight pin (at (Tail tail) task)) env (report_of kind.Write (Some p) 0 true) (Decided (reply_with task.outline None task.returns)) kind.Write
  does_above tail next quiet new held w mine own is no_spots fits written s s' id shows shows' map map' after =
      writes_child Granted same task tail quiet pin None w s s' id env (flight pin (at (Tail next) (with_reply task))) books books' after count charge
      (record { slot = p; node = one held.above.node; mine = mine; here = seen_at t root s shows p held.above.node held.above.linked.here })
      (below_at new)
      (nodes_written t t' root s s' (made_at (Tail tail)) p (one (answered held.above.node (byte_at held.above.node k) (Some (below_at new)))) shows shows' map map' written)
      own (changed_node same (found held.above.node k) new) (above_inner t root task pair placed held) (still_fits t root task pair placed new held fits) is
      (λ slot word e. absurd (none_some word (subst (λ (z : List (ℕ × ℕ)). lookup z slot ≡ Some word) no_spots e)))

  both_in : (s : ℕ) → IsIn s (p ∷ q ∷ []) → IsIn s (both_slots pair)
  both_in s h = elim h [ inl e ↦ inr (inl e) | inr (inl e) ↦ inl e | inr (inr none) ↦ absurd none ]

  -- THE COPY takes the node's place
  replaced_by : (copy : ℕ) (leaf : Option ℕ) (held : AreHeld t pair k) (w : WritesAtKey Granted same task None) → Fits held.above.node.node.form (length held.above.node.node.children)
      → LeadsNow t' p held.above.node k copy → t' q ≡ Some (record held.here.node { lifetime = is_detached }) → ((s : ℕ) → IsIn s (copy ∷ one_more leaf) → IsPublished t t' s)
      → OthersStay t t' (p ∷ q ∷ copy ∷ one_more leaf)
      → Effect t t' root (Holding (Tail (Replace pair copy leaf))) (λ z. z ≤ books.count) (p ∷ q ∷ copy ∷ one_more leaf) (p ∷ q ∷ [])
      → (v : M) → w.value ≡ Some v → StandsAt t k None → PutsPair t t' (key_of task.outline) v
      → IsMove Granted same t t' root pin books books' (at (Tail (Replace pair copy leaf)) task) env (at (Tail (Obsolete pair None)) (with_reply task)) (report_of kind.Write (Some p) 0 true) (Decided (reply_with task.outline None task.returns))
  replaced_by copy leaf held w fits above here published others effect v is absent puts = record {
    facts = record {
      small = small;
      at = (
        decided_open,
        above_held t t' task pair copy held above,
        record { node = record held.here.node { lifetime = is_detached }; here = here; lifetime = refl; word = held.here.word; free = held.here.free },
        held.over.apart,
      );
    };
    counts = omega (arith, count);
    others = effect.others;
    privates = effect.privates;
    holds = λ s h. elim h [ inl mine ↦ inl (inl mine) | inr none ↦ absurd (not_in false refl none) ];
    holders = holders_of t t' (both_slots pair) (copy ∷ one_more leaf) (p ∷ q ∷ copy ∷ one_more leaf) (p ∷ q ∷ []) effect.needs both_in (λ s h. inr (inr h));
    course = write_course t t' root task env (Replace pair copy leaf) (Obsolete pair None) p _ (inr (inl refl)) refl refl (omega arith);
    does = does_above (Replace pair copy leaf) (Obsolete pair None) refl copy held w (next_in q p (p ∷ []) (first_in p [])) (first_in copy (one_more leaf)) refl refl fits
        (shows_above t t' task pair copy (copy ∷ one_more leaf) held above published (others_shown t t' task pair (copy ∷ one_more leaf) held here others));
    carries = becomes_of Granted same task (Replace pair copy leaf) refl pin None w t t' root books books' placed effect.placed small absent (answers_entered w.value v is puts) (entries_entered w.value v is);
  }

  -- THE MIDDLE NODE is put between
  inserted_by : (middle leaf : ℕ) (held : AreHeld t pair k) (w : WritesAtKey Granted same task None) → Fits held.above.node.node.form (length held.above.node.node.children)
      → LeadsNow t' p held.above.node k middle → ((s : ℕ) → IsIn s (middle ∷ leaf ∷ []) → IsPublished t t' s)
      → OthersStay t t' (p ∷ middle ∷ leaf ∷ [])
      → Effect t t' root (Holding (Tail (Insert pair middle leaf))) (λ z. z ≤ books.count) (p ∷ middle ∷ leaf ∷ []) (p ∷ [])
      → (v : M) → w.value ≡ Some v → StandsAt t k None → PutsPair t t' (key_of task.outline) v
      → IsMove Granted same t t' root pin books books' (at (Tail (Insert pair middle leaf)) task) env (at (Tail (UnlockBelow pair)) (with_reply task)) (report_of kind.Write (Some p) 0 true) (Decided (reply_with task.outline None task.returns))
  inserted_by middle leaf held w fits above published others effect v is absent puts =
      let off : (o : ℕ) → o ≢ p → (IsIn o (middle ∷ leaf ∷ []) → ⊥) → t' o ≡ t o = λ o far out. others o (λ h. elim h [ inl e ↦ far (sym e) | inr later ↦ out later ]) in
      let here : t' q ≡ Some held.here.node =
      off q (λ e. held.over.apart (sym e)) (λ h. published_off t t' q q held.here.node (published q h) held.here.linked refl) ∙ held.here.linked.here in
      record {
        facts = record {
          small = small;
          at = (
            decided_open,
            above_held t t' task pair middle held above,
            record {
              node = held.here.node;
              linked = record { here = here; lifetime = held.here.linked.lifetime };
              word = held.here.word;
              free = held.here.free;
              room = held.here.room;
            },
            held.over.apart,
          );
        };
        counts = omega (arith, count);
        others = effect.others;
        privates = effect.privates;
        holds = λ s h. elim h [ inl mine ↦ inl (inl mine) | inr none ↦ absurd (not_in false refl none) ];
        holders = holders_of t t' (both_slots pair) (middle ∷ leaf ∷ []) (p ∷ middle ∷ leaf ∷ []) (p ∷ []) effect.needs
            (λ s h. elim h [ inl e ↦ inr (inl e) | inr none ↦ absurd none ]) (λ s h. inr h);
        course = write_course t t' root task env (Insert pair middle leaf) (UnlockBelow pair) p _ (inr (inl refl)) refl refl (omega arith);
        does = does_above (Insert pair middle leaf) (UnlockBelow pair) refl middle held w (next_in q p (p ∷ []) (first_in p [])) (first_in middle (leaf ∷ [])) refl refl fits
            (shows_above t t' task pair middle (middle ∷ leaf ∷ []) held above published (λ o far out. ap shown (off o far out)));
        carries = becomes_of Granted same task (Insert pair middle leaf) refl pin None w t t' root books books' placed effect.placed small absent (answers_entered w.value v is puts) (entries_entered w.value v is);
      }

  -- A REPLACE
  pub copy_moves : (copy : ℕ) (leaf : Option ℕ) (own : AtPair Granted same t task pair (is_for leaf)) (has : HasCopy t task own.held.here.node copy leaf)
      → Fits own.held.above.node.node.form (length own.held.above.node.node.children)
      → LeadsNow t' p own.held.above.node k copy → t' q ≡ Some (record own.held.here.node { lifetime = is_detached }) → ((s : ℕ) → IsIn s (copy ∷ one_more leaf) → BecomesLinked t t' s)
      → OthersStay t t' (p ∷ q ∷ copy ∷ one_more leaf)
      → IsPlaced t' root × IsMove Granted same t t' root pin books books' (at (Tail (Replace pair copy leaf)) task) env (at (Tail (Obsolete pair None)) (with_reply task)) (report_of kind.Write (Some p) 0 true) (Decided (reply_with task.outline None task.returns))
  copy_moves copy None own has fits above here linked others =
      let mine : ℕ → Type 0 = Holding (Tail (Replace pair copy None)) in
      let value = entered own.work.writes in
      let g = grows_leaf Granted same t t' root task pair placed small copy own has value.0 (own.work.writes.stores ∙ value.1) above here (linked copy (inl refl)) others in
      let effect = grown_leaf_effect g root placed mine (λ z. z ≤ books.count) (inl (next_in q p (p ∷ []) (first_in p []))) (inl (first_in q (p ∷ []))) (inr (first_in copy [])) in (
        effect.placed,
        replaced_by copy None own.held own.work.writes fits above here (published_by t t' (copy ∷ []) (copy_private t task own.held.here.node copy None has) linked) others effect value.0 value.1
            (copied_absent Granted same t t' root task pair placed small own.held own.work.is.0 own.work.is.2)
            (grown_leaf_puts g root placed),
      )
  copy_moves copy (Some leaf) own has fits above here linked others =
      let mine : ℕ → Type 0 = Holding (Tail (Replace pair copy (Some leaf))) in
      let value = entered own.work.writes in
      let g = grows_inner Granted same t t' root task pair placed small copy leaf own has value.0 (own.work.writes.stores ∙ value.1) above here (linked copy (inl refl)) (linked leaf (inr (inl refl))) others in
      let effect = grown_inner_effect g root placed mine (λ z. z ≤ books.count) (inl (next_in q p (p ∷ []) (first_in p []))) (inl (first_in q (p ∷ []))) (inr (first_in copy (leaf ∷ [])))
      (inr (next_in copy leaf (leaf ∷ []) (first_in leaf []))) in (
        effect.placed,
        replaced_by copy (Some leaf) own.held own.work.writes fits above here (published_by t t' (copy ∷ leaf ∷ []) (copy_private t task own.held.here.node copy (Some leaf) has) linked) others effect value.0 value.1
            (copied_absent Granted same t t' root task pair placed small own.held own.work.is.0 own.work.is.2)
            (grown_inner_puts g root placed),
      )

  -- AN INSERT of a node between
  pub middle_moves : (middle leaf : ℕ) (own : AtPair Granted same t task pair Split) (has_leaf : HasLeaf t task leaf) (has : HasMiddle t task own.held.here.node q middle leaf)
      → Fits own.held.above.node.node.form (length own.held.above.node.node.children)
      → LeadsNow t' p own.held.above.node k middle → ((s : ℕ) → IsIn s (middle ∷ leaf ∷ []) → BecomesLinked t t' s)
      → OthersStay t t' (p ∷ middle ∷ leaf ∷ [])
      → IsPlaced t' root × IsMove Granted same t t' root pin books books' (at (Tail (Insert pair middle leaf)) task) env (at (Tail (UnlockBelow pair)) (with_reply task)) (report_of kind.Write (Some p) 0 true) (Decided (reply_with task.outline None task.returns))
  middle_moves middle leaf own has_leaf has fits above linked others =
      let mine : ℕ → Type 0 = Holding (Tail (Insert pair middle leaf)) in
      let value = entered own.work.writes in
      let g = splits Granted same t t' root task pair placed small middle leaf own has_leaf has value.0 (own.work.writes.stores ∙ value.1) above (linked middle (inl refl)) (linked leaf (inr (inl refl))) others in
      let effect = split_effect g root placed mine (λ z. z ≤ books.count) (inl (next_in q p (p ∷ []) (first_in p []))) (inr (first_in middle (leaf ∷ [])))
      (inr (next_in middle leaf (leaf ∷ []) (first_in leaf []))) in (
        effect.placed,
        inserted_by middle leaf own.held own.work.writes fits above (published_by t t' (middle ∷ leaf ∷ []) (middle_private t task q own.held.here.node middle leaf has_leaf has) linked) others effect value.0 value.1
            (split_absent Granted same t t' root task pair placed small own.held own.work.is)
            (split_puts g root placed),
      )
