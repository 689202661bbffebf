-- THE WRITES OF A CLEANUP at the held parent, over the table: the empty node is taken out, or the smaller copy takes
-- its node's place. No pair changes.
use Rattle.std.proofs.Common.{◌≡◌, ◌≢◌, ℕ, ◌+◌, ◌^◌, ◌<◌, ◌≤◌, Bool, true, false, IsTrue, List, [], ◌∷◌, length, Option, Some, None, inl, inr, refl, sym, subst, ap, ◌∙◌, arith}
use Rattle.node_base.specs.Form.{Fits, few_in}
use Rattle.spec_map.specs.Map.{lookup, put}
use Rattle.spec_node.specs.TableNode.{MayHave, TableNode, Child}
use Rattle.spec_node.specs.declared.child.Child.TheVariants.{Node as below_at}
use Rattle.spec_olc.specs.Calls.{key_of, stored}
use Rattle.spec_olc.specs.Due.{IsDue, IsLeft}
use Rattle.spec_olc.specs.Kinds.{DoesAs, report_of}
use Rattle.spec_olc.specs.Lists.{is_in}
use Rattle.spec_olc.specs.State.{State, CallState, Cleaning, settled}
use Rattle.spec_olc.specs.State as state
use Rattle.spec_olc.specs.Writing.{HeldNode, IsChanged, IsOwn, TakesOut, changed, emptied, entry_below, linked}
use Rattle.spec_olc.specs.declared.types.Asking.{Asking}
use Rattle.spec_olc.specs.declared.types.Asking.TheVariants.{Fresh}
use Rattle.spec_olc.specs.declared.types.Env.{Env}
use Rattle.spec_olc.specs.declared.types.Kind.TheVariants as kind
use Rattle.spec_olc.specs.declared.types.Op.{Op}
use Rattle.spec_olc.specs.declared.types.Outcome.TheVariants.{Going}
use Rattle.spec_olc.specs.declared.types.Progress.{Progress}
use Rattle.spec_olc.specs.declared.types.Progress.TheVariants as progress
use Rattle.olc_state.specs.declared.cleanup.Cleanup.{Cleanup}
use Rattle.olc_state.specs.declared.cleanup.Tidy.TheVariants as tidy
use Rattle.olc_state.specs.declared.cleanup.Tidy.{Tidy as TidyStep}
use Rattle.olc_state.specs.declared.stage.Stage.TheVariants.{Tail, Tidy}
use Rattle.olc_state.specs.declared.stage.Task.{Task}
use Rattle.olc_state.specs.declared.tail.NodePair.{NodePair}
use Rattle.olc_state.specs.declared.tail.Tail.TheVariants.{Obsolete}
use Rattle.olc_state.specs.inner.CleanupFacts.{CleansAt, smaller_of}
use Rattle.olc_state.specs.inner.CleanupStages.{held_tidying, named_tidying}
use Rattle.olc_state.specs.inner.Facts.{Holding}
use Rattle.olc_state.specs.inner.Moves.{IsAfter, IsMove, StoreCounts}
use Rattle.olc_state.specs.inner.Shown.{flight}
use Rattle.olc_state.specs.inner.Tables.{IsBelow, IsIn, IsPlaced, byte_at}
use Rattle.olc_state.specs.inner.TailFacts.{EndsWith, IsPrivateOf, found}
use Rattle.olc_state.specs.inner.Tails.{both_slots, cleaning_of, left_in, more_work, unlock_work}
use Rattle.olc_state.specs.inner.Tasks.{CleansUp, key_bytes}
use Rattle.olc_state.specs.inner.Turns.{IsCourse, ShowsNodes, work_of}
use Rattle.olc_state.specs.inner.World.{PlacedNode, NodeMap, is_detached}
use Rattle.olc_state.proofs.Holding.{none_of}
use Rattle.olc_state.proofs.Members.{first_in, listed, next_in, told}
use Rattle.olc_state.proofs.Options.{none_some, some_same}
use Rattle.olc_state.proofs.Unlike.{false_true}
use Rattle.olc_state.proofs.Reaching.{one, seen_at}
use Rattle.olc_state.proofs.Records.{at}
use Rattle.olc_state.proofs.Ways.{longer-begins}
use Rattle.olc_laws.proofs.Detaching.{TakesOut as IsTakenOut, taken_effect}
use Rattle.olc_laws.proofs.Effects.{Effect, OthersStay}
use Rattle.olc_laws.proofs.Shrinking.{ShrinksNode, cleared_same, shrunk_effect, shrunk_same}
use Rattle.olc_laws.proofs.Writing.{answered}
use Rattle.olc_write.proofs.Deciding.{changed_node, held_locked, nodes_written, takes_none}
use Rattle.olc_write.proofs.Detached.{drained, nodes_taken, without_fits}
use Rattle.olc_write.proofs.Frees.{work_over}
use Rattle.olc_write.proofs.Growths.{BecomesLinked, IsPrivate, LeadsNow, above_inner, new_free}
use Rattle.olc_write.proofs.Showing.{Among}
use Rattle.olc_write.proofs.Moving.{Does, quiet_move}
use Rattle.olc_write.proofs.Parents.{above_held, others_shown, published_by, shows_above, still_fits}
use Rattle.olc_tidy.proofs.Upgrades.{decided_over}
use Rattle.olc_tidy.specs.inner.Tidying.{IsLeftAgain}

module _ {M : Type 0} where
  -- what it leaves to clean up again, as a reader sees it
  left_again : (c : Cleanup) (again : Bool) → c.again ≡ again → (a : TableNode M) (left : Option Cleanup) → IsLeftAgain again a left → IsLeft (Some (cleaning_of c)) None a (left_in left)
  left_again c true is a None h = λ may none. h
  left_again c true is a (Some d) h = (is, refl, h.0, h.1, ((λ again. absurd (false_true (sym h.2 ∙ again))), (λ none. absurd (none_some (cleaning_of c) (sym none)))))
  left_again c false is a left h = subst (λ (l : Option Cleanup). IsLeft (Some (cleaning_of c)) None a (left_in l)) (sym h) (λ may none due. false_true (sym is ∙ may))

  -- a call that cleans up has nothing that a decided one hasn't
  settled_is : (call : CallState M) → call.op ≡ None → call.asking ≡ Fresh → call.progress ≡ progress.Decided → call ≡ settled progress.Decided call
  settled_is call op asking decided =
      ap (λ (x : Option (Op M)). record call { op = x }) op
      ∙ (ap (λ (x : Asking M). record call { op = None; asking = x }) asking
      ∙ ap (λ (x : Progress). record call { op = None; asking = Fresh; progress = x }) decided)

  none_stored : (op : Option (Op M)) (asking : Asking M) → op ≡ None → stored op asking ≡ None
  none_stored op asking e = rw e refl

  ends_with : (Granted : Type 0) (same : M → M → Bool) (task : Task M) (c : Cleanup) → CleansUp task c → (again : Bool) (a : TableNode M) (left : Option Cleanup) → length a.prefix ≤ 7 → IsLeftAgain again a left → EndsWith Granted same task left
  ends_with Granted same task c cleans again a None short h = decided_over task.progress cleans.decided
  ends_with Granted same task c cleans true a (Some d) short h =
      let same_length : d.length ≡ length a.prefix = h.1 in
      record { decided = cleans.decided; op = cleans.op; fresh = cleans.fresh; point = cleans.point; removes = cleans.removes; below_root = omega (arith, same_length, h.0.below_root); short = omega (arith, same_length, short) }
  ends_with Granted same task c cleans false a (Some d) short h = absurd (none_some d (sym h))

  no_nodes : (es : List (ℕ × Child M)) → es ≡ [] → (y x : ℕ) → lookup es y ≡ Some (below_at x) → ⊥
  no_nodes es e y x h = none_some (below_at x) (sym (ap (λ z. lookup z y) e) ∙ h)

-- a second cleanup, which is for a shorter prefix, has fewer events left than the first
take_less : (c : Cleanup) (again : Bool) → c.again ≡ again → (p : Progress) → p ≡ progress.Decided → {M : Type 0} → (a : TableNode M) (left : Option Cleanup) → length a.prefix < c.length → IsLeftAgain again a left
    → 1 + unlock_work p left < 4 + more_work c
take_less c false is p decided a left shorter h = rw (h, decided) (omega arith)
take_less c true is p decided a None shorter h = rw decided (omega arith)
take_less c true is p decided a (Some d) shorter h = let same : d.length ≡ length a.prefix = h.1 in rw (decided, h.2, is) (omega (arith, same, shorter))

-- A WRITE of a call that cleans up
module _ {M : Type 0} (Granted : Type 0) (same : M → M → Bool) (task : Task M) (c : Cleanup) (cleans : CleansUp task c) (pin : ℕ) (x : TidyStep) where
  abbrev call : CallState M
  call = flight pin (at (Tidy c x) task)

  writes : (s s' : State M) (id : ℕ) (env : Env M) (next : CallState M) (books books' : StoreCounts) → IsAfter s s' id next books books' → books'.count ≡ books.count → books'.charge ≡ books.charge
      → (held : HeldNode s call) (child : Option (Child M)) (gone : Option (ℕ × state.VersionedNode M))
      → s'.nodes ≡ emptied gone (linked call.made (put s.nodes held.slot (changed call held.node child)))
      → IsOwn call child → IsChanged same (entry_below call held.node) child
      → (due : HeldNode s call) → entry_below call held.node ≡ Some (below_at due.slot) → length due.node.node.prefix ≡ c.length → IsDue due.node.node
      → ((d : Child M) → child ≡ Some d → MayHave held.node.node.prefix d) → Fits held.node.node.form (length (changed call held.node child).node.children)
      → TakesOut s call (entry_below call held.node) child gone
      → (left : Option Cleaning) → IsLeft (Some (cleaning_of c)) child (changed call held.node child).node left
      → next ≡ record (settled progress.Decided (record call { made = []; cleaning = left })) { remembered = next.remembered }
      → Among next.remembered call.remembered
      → DoesAs Granted same s s' id call env (report_of kind.Write (Some held.slot) 0 true) Going kind.Write
  writes s s' id env next books books' after count charge held child gone nodes own changes due entry deep is_due shape fits takes left leaves is within =
      let count_is : books'.count ≡ s.count = count ∙ sym (ap (λ (b : StoreCounts). b.count) after.was) in
      let charge_is : books'.charge ≡ s.charge = charge ∙ sym (ap (λ (b : StoreCounts). b.charge) after.was) in (
        inr (cleans.decided, refl),
        record {
          held = held;
          child = child;
          gone = gone;
          entries = books'.entries;
          is = refl;
          own = own;
          changes = changes;
          cleans = λ d cleaning. (due, entry, deep ∙ ap (λ (z : Cleaning). z.depth) (some_same (cleaning_of c) d cleaning), is_due);
          shape = shape;
          fits = fits;
          takes_out = takes;
          left = left;
          leaves = leaves;
          reports = cleans.decided;
          becomes = record { next = next; is = is; remembered = within; after = after.is ∙ rw (nodes, count_is, charge_is) refl };
        },
      )

module _ {M : Type 0} (Granted : Type 0) (same : M → M → Bool) (t t' : NodeMap M) (root pin : ℕ) (task : Task M) (pair : NodePair) (placed : IsPlaced t root) (small : key_of task.outline < 2 ^ 64)
    (books books' : StoreCounts) (env : Env M) (count : books'.count ≡ books.count) (charge : books'.charge ≡ books.charge) (entries : books'.entries ≡ books.entries) (c : Cleanup) (cleans_at : CleansAt t task c pair) where
  abbrev k : List ℕ
  k = key_bytes task

  abbrev p : ℕ
  p = pair.above.slot

  abbrev q : ℕ
  q = pair.here.slot

  abbrev a : PlacedNode M
  a = cleans_at.held.above.node

  abbrev b : PlacedNode M
  b = cleans_at.held.here.node

  -- the parent, as a reader sees it held
  abbrev above_seen : (x : TidyStep) → IsTrue (is_in p (held_tidying x)) → (s : State M) → ShowsNodes t root s → HeldNode s (flight pin (at (Tidy c x) task))
  above_seen x mine s shows = record { slot = p; node = one a; mine = mine; here = seen_at t root s shows p a cleans_at.held.above.linked.here }

  -- the course of a Write, after which the node is marked obsolete
  course : (x : TidyStep) (left : Option Cleanup) → named_tidying x ≡ both_slots pair → work_of t' (at (Tail (Obsolete pair left)) task) < work_of t (at (Tidy c x) task)
      → IsCourse t t' root (at (Tidy c x) task) env (at (Tail (Obsolete pair left)) task) (report_of kind.Write (Some p) 0 true) Going
  course x left named less = record {
    touches = λ z e make. inr (subst (λ (l : List ℕ). IsIn z l) (sym named) (inr (inl (some_same p z e))));
    names = λ z h. inr (inl (subst (λ (l : List ℕ). IsIn z l) (sym named) h));
    reads = λ z h. absurd h;
    outline = refl;
    keeps = λ current z w h. absurd (none_some w h);
    falls = λ served. inr less;
  }

  -- the node's prefix is longer than the parent's
  shorter : length a.node.prefix < c.length
  shorter =
      let below : IsBelow t a (byte_at a k) q = placed.below p a cleans_at.held.above.linked (byte_at a k) q cleans_at.held.leads in
      let same_node : below.node ≡ b = some_same below.node b (sym below.linked.here ∙ cleans_at.held.here.linked.here) in
      let longer : length a.node.prefix < length below.node.node.prefix = longer-begins a.node.prefix below.node.node.prefix (byte_at a k) below.begins in
      let is : length below.node.node.prefix ≡ length b.node.prefix = ap (λ (z : PlacedNode M). length z.node.prefix) same_node in
      let most : length b.node.prefix ≡ c.length = cleans_at.reaches.1 in
      omega (arith, longer, is, most)

  -- the node is due if it has few children
  due_by : length b.node.children ≤ few_in b.node.form → IsDue b.node
  due_by few = let most : length b.node.prefix ≡ c.length = cleans_at.reaches.1 in record { below_root = omega (arith, most, cleans_at.cleans.below_root); few = few }

  -- THE EMPTY NODE IS TAKEN OUT
  module _ (empty : b.node.children ≡ []) (fits : Fits a.node.form (length a.node.children)) (above : t' p ≡ Some (answered a (byte_at a k) None)) (gone : t' q ≡ Some (record b { lifetime = is_detached })) (others : OthersStay t t' (p ∷ q ∷ [])) where
    out_here : t' q ≡ Some (drained b)
    out_here = gone ∙ ap (λ (es : List (ℕ × Child M)). Some (record b { node = record b.node { children = es }; lifetime = is_detached })) empty

    taken_out : IsTakenOut t t' p q (key_of task.outline) a b (drained b).node
    taken_out = record {
      write = record {
        here = cleans_at.held.above.linked;
        locked = held_locked a.word pair.above.word cleans_at.held.above.word cleans_at.held.above.free;
        begins = cleans_at.held.over.way a cleans_at.held.above.linked.here;
        after = above;
      };
      child = cleans_at.held.leads;
      old = record {
        here = cleans_at.held.here.linked;
        locked = held_locked b.word pair.here.word cleans_at.held.here.word cleans_at.held.here.free;
        prefix = refl;
        after = out_here;
      };
      leaf = no_nodes b.node.children empty;
      others = others;
    }

    away : Effect t t' root (Holding (Tidy c (tidy.TakeAway pair))) (λ z. z ≤ books.count) (p ∷ q ∷ []) (p ∷ q ∷ [])
    away = taken_effect taken_out root placed (Holding (Tidy c (tidy.TakeAway pair))) (λ z. z ≤ books.count) (inl (next_in q p (p ∷ []) (first_in p []))) (inl (first_in q (p ∷ [])))

    pub away_placed : IsPlaced t' root
    away_placed = away.placed

    away_does : (left : Option Cleanup) → IsLeftAgain c.again (answered a (byte_at a k) None).node left
        → Does Granted same t t' root pin books books' (at (Tidy c (tidy.TakeAway pair)) task) env (at (Tail (Obsolete pair left)) task) (report_of kind.Write (Some p) 0 true) Going
    away_does left leaves s s' id shows shows' map map' after =
        let was : CallState M = flight pin (at (Tidy c (tidy.TakeAway pair)) task) in
        let here : HeldNode s was = record { slot = q; node = one b; mine = first_in q (p ∷ []); here = seen_at t root s shows q b cleans_at.held.here.linked.here } in
        writes Granted same task c cleans_at.cleans pin (tidy.TakeAway pair) s s' id env (flight pin (at (Tail (Obsolete pair left)) task)) books books' after count charge
        (above_seen (tidy.TakeAway pair) (next_in q p (p ∷ []) (first_in p [])) s shows) None (Some (q, one b))
        (nodes_taken t t' root s s' p q (answered a (byte_at a k) None) b shows shows' map map' above cleans_at.held.here.linked.lifetime out_here others)
        (none_stored task.op task.asking cleans_at.cleans.op) (subst (λ (z : Option (Child M)). IsChanged same z None) (sym cleans_at.held.leads) tt)
        here cleans_at.held.leads cleans_at.reaches.1 (due_by (subst (λ (es : List (ℕ × Child M)). length es ≤ few_in b.node.form) (sym empty) (omega arith)))
        (λ d e. absurd (none_some d e))
        (without_fits a (byte_at a k) (below_at q) (placed.ordered p a cleans_at.held.above.linked) cleans_at.held.leads fits)
        (subst (λ (z : Option (Child M)). TakesOut s was z None (Some (q, one b))) (sym cleans_at.held.leads) (here, refl, refl))
        (left_in left) (left_again c c.again refl _ left leaves)
        (settled_is (flight pin (at (Tail (Obsolete pair left)) task)) cleans_at.cleans.op cleans_at.cleans.fresh cleans_at.cleans.decided) (λ slot word h. absurd (none_some word h))

    pub away_moves : (left : Option Cleanup) → IsLeftAgain c.again (answered a (byte_at a k) None).node left
        → IsMove Granted same t t' root pin books books' (at (Tidy c (tidy.TakeAway pair)) task) env (at (Tail (Obsolete pair left)) task) (report_of kind.Write (Some p) 0 true) Going
    away_moves left leaves =
        quiet_move Granted same t t' root pin books books' (at (Tidy c (tidy.TakeAway pair)) task) env (at (Tail (Obsolete pair left)) task) (report_of kind.Write (Some p) 0 true) Going
        (p ∷ q ∷ []) (p ∷ q ∷ []) placed away (cleared_same taken_out root placed empty)
        (record {
          small = small;
          at = (
            ends_with Granted same task c cleans_at.cleans c.again (answered a (byte_at a k) None).node left (placed.short p a cleans_at.held.above.linked) leaves,
            record {
              node = answered a (byte_at a k) None;
              linked = record { here = above; lifetime = cleans_at.held.above.linked.lifetime };
              word = cleans_at.held.above.word;
              free = cleans_at.held.above.free;
              room = cleans_at.held.above.room;
            },
            record { node = record b { lifetime = is_detached }; here = gone; lifetime = refl; word = cleans_at.held.here.word; free = cleans_at.held.here.free },
            cleans_at.held.over.apart,
          );
        })
        (omega (arith, count)) entries (λ s h. inl h)
        (λ s h. inl (listed s (both_slots pair) (elim h [ inl e ↦ inr (inl e) | inr (inl e) ↦ inl e | inr (inr none) ↦ absurd none ])))
        (λ s h beside. h)
        (course (tidy.TakeAway pair) left refl (let less = take_less c c.again refl task.progress cleans_at.cleans.decided (answered a (byte_at a k) None).node left shorter leaves in omega (arith, less)))
        (away_does left leaves) (λ m. refl)

  -- THE SMALLER COPY TAKES ITS PLACE
  module _ (copy : ℕ) (made : IsPrivateOf t copy (smaller_of b.node)) (few : length b.node.children ≤ few_in b.node.form) (fits : Fits a.node.form (length a.node.children)) (above : LeadsNow t' p a k copy) (gone : t' q ≡ Some (record b { lifetime = is_detached }))
      (linked_now : (s : ℕ) → IsIn s (copy ∷ []) → BecomesLinked t t' s) (others : OthersStay t t' (p ∷ q ∷ copy ∷ [])) where
    shrinks : ShrinksNode t t' p q copy (key_of task.outline) a b made.node
    shrinks = record {
      write = record {
        here = cleans_at.held.above.linked;
        locked = held_locked a.word pair.above.word cleans_at.held.above.word cleans_at.held.above.free;
        begins = cleans_at.held.over.way a cleans_at.held.above.linked.here;
        after = above;
      };
      under = cleans_at.held.leads;
      old = record {
        here = cleans_at.held.here.linked;
        locked = held_locked b.word pair.here.word cleans_at.held.here.word cleans_at.held.here.free;
        prefix = refl;
        after = gone;
      };
      new = record { made = made.here; private = made.lifetime; free = new_free made.node.word made.word; after = linked_now copy (inl refl) made.node made.here };
      prefix = ap (λ (n : TableNode M). n.prefix) made.is;
      children = ap (λ (n : TableNode M). n.children) made.is;
      others = others;
    }

    put_effect : Effect t t' root (Holding (Tidy c (tidy.PutSmaller pair copy))) (λ z. z ≤ books.count) (p ∷ q ∷ copy ∷ []) (p ∷ q ∷ [])
    put_effect =
        shrunk_effect shrinks root placed (Holding (Tidy c (tidy.PutSmaller pair copy))) (λ z. z ≤ books.count) (inl (next_in q p (p ∷ []) (first_in p []))) (inl (first_in q (p ∷ []))) (inr (first_in copy []))

    pub put_placed : IsPlaced t' root
    put_placed = put_effect.placed

    private_copy : (s : ℕ) → IsIn s (copy ∷ []) → IsPrivate t s
    private_copy s h = elim h [ inl e ↦ subst (λ z. IsPrivate t z) e (record { node = made.node; here = made.here; lifetime = made.lifetime }) | inr none ↦ absurd none ]

    put_does : Does Granted same t t' root pin books books' (at (Tidy c (tidy.PutSmaller pair copy)) task) env (at (Tail (Obsolete pair None)) task) (report_of kind.Write (Some p) 0 true) Going
    put_does s s' id shows shows' map map' after =
        let was : CallState M = flight pin (at (Tidy c (tidy.PutSmaller pair copy)) task) in
        writes Granted same task c cleans_at.cleans pin (tidy.PutSmaller pair copy) s s' id env (flight pin (at (Tail (Obsolete pair None)) task)) books books' after count charge
        (above_seen (tidy.PutSmaller pair copy) (next_in q p (p ∷ []) (first_in p [])) s shows) (Some (below_at copy)) None
        (nodes_written t t' root s s' (copy ∷ []) p (one (answered a (byte_at a k) (Some (below_at copy)))) shows shows' map map'
        (shows_above t t' task pair copy (copy ∷ []) cleans_at.held above (published_by t t' (copy ∷ []) private_copy linked_now) (others_shown t t' task pair (copy ∷ []) cleans_at.held gone others)))
        (first_in copy []) (changed_node same (found a k) copy)
        (record { slot = q; node = one b; mine = first_in q (p ∷ []); here = seen_at t root s shows q b cleans_at.held.here.linked.here }) cleans_at.held.leads cleans_at.reaches.1 (due_by few)
        (λ d e. subst (λ (z : Child M). MayHave a.node.prefix z) (some_same (below_at copy) d e) (above_inner t root task pair placed cleans_at.held))
        (still_fits t root task pair placed copy cleans_at.held fits) (takes_none s was (entry_below was (one a)) (below_at copy))
        None (λ may none. absurd (none_some (below_at copy) (sym none)))
        (settled_is (flight pin (at (Tail (Obsolete pair None)) task)) cleans_at.cleans.op cleans_at.cleans.fresh cleans_at.cleans.decided) (λ slot word h. absurd (none_some word h))

    pub put_moves : IsMove Granted same t t' root pin books books' (at (Tidy c (tidy.PutSmaller pair copy)) task) env (at (Tail (Obsolete pair None)) task) (report_of kind.Write (Some p) 0 true) Going
    put_moves =
        let over : task.progress ≢ progress.Open = decided_over task.progress cleans_at.cleans.decided in
        quiet_move Granted same t t' root pin books books' (at (Tidy c (tidy.PutSmaller pair copy)) task) env (at (Tail (Obsolete pair None)) task) (report_of kind.Write (Some p) 0 true) Going
        (p ∷ q ∷ copy ∷ []) (p ∷ q ∷ []) placed put_effect (shrunk_same shrinks root placed)
        (record {
          small = small;
          at = (
            over,
            above_held t t' task pair copy cleans_at.held above,
            record { node = record b { lifetime = is_detached }; here = gone; lifetime = refl; word = cleans_at.held.here.word; free = cleans_at.held.here.free },
            cleans_at.held.over.apart,
          );
        })
        (omega (arith, count)) entries (λ s h. elim h [ inl x ↦ inl (inl x) | inr none ↦ none_of s none ])
        (λ s h. inl (listed s (both_slots pair) (elim h [ inl e ↦ inr (inl e) | inr (inl e) ↦ inl e | inr (inr none) ↦ absurd none ])))
        (λ s h beside. elim h [ inl x ↦ inl x | inr x ↦ absurd (beside (inr (inr (told s (copy ∷ []) x)))) ])
        (course (tidy.PutSmaller pair copy) None refl (let rest : unlock_work task.progress None ≡ 2 = work_over task.progress over in omega (arith, rest)))
        put_does (λ m. refl)
