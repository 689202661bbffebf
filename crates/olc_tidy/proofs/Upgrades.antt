-- EACH UPGRADE of a cleanup, and the unlock of a node for which nothing is due.
use Rattle.std.proofs.Common.{◌≡◌, ◌≢◌, ℕ, ◌+◌, Bool, true, false, List, [], ◌∷◌, length, Some, None, inl, inr, refl, sym, subst, ap, ◌∙◌, arith}
use Rattle.spec_map.proofs.MapLaws.{lookup-put_same, lookup-put_other}
use Rattle.spec_map.specs.Map.{lookup}
use Rattle.spec_olc.specs.Kinds.{not_locked, report_of, unlocked}
use Rattle.spec_olc.specs.Due.{IsDue}
use Rattle.spec_olc.specs.Lists.{off}
use Rattle.spec_olc.specs.Lock.{MayUpgrade}
use Rattle.spec_olc.specs.State.{CallState, Cleaning, back, stopped}
use Rattle.spec_olc.specs.declared.types.Env.{Env}
use Rattle.spec_olc.specs.declared.types.Kind.TheVariants as kind
use Rattle.spec_olc.specs.declared.types.Outcome.TheVariants.{Going}
use Rattle.spec_olc.specs.declared.types.Progress.{Progress}
use Rattle.spec_olc.specs.declared.types.Progress.TheVariants as progress
use Rattle.olc_state.specs.declared.cleanup.Cleanup.{Cleanup}
use Rattle.olc_state.specs.declared.cleanup.Tidy.{Tidy as TidyStep}
use Rattle.olc_state.specs.declared.cleanup.Tidy.TheVariants as tidy
use Rattle.olc_state.specs.declared.stage.Stage.{Stage}
use Rattle.olc_state.specs.declared.stage.Stage.TheVariants.{Finish, Tail, Tidy}
use Rattle.olc_state.specs.declared.stage.Task.{Task}
use Rattle.olc_state.specs.declared.tail.NodePair.{NodePair}
use Rattle.olc_state.specs.declared.tail.Tail.TheVariants.{Unlock}
use Rattle.olc_state.specs.inner.CleanupFacts.{CleansAt, HasDepth}
use Rattle.olc_state.specs.inner.Facts.{Facts, Holding}
use Rattle.olc_state.specs.inner.Moves.{StoreCounts, IsMove}
use Rattle.olc_state.specs.inner.Shown.{flight}
use Rattle.olc_state.specs.inner.Tables.{IsPlaced}
use Rattle.olc_state.specs.inner.TailFacts.{AreHeld}
use Rattle.olc_state.specs.inner.Tails.{cleaning_of, pair_spots, unlock_work}
use Rattle.olc_state.specs.inner.Tasks.{CleansUp, key_bytes, restarted}
use Rattle.olc_state.specs.inner.World.{PlacedNode, NodeMap}
use Rattle.olc_state.proofs.Holding.{first_or, none_of}
use Rattle.olc_state.proofs.Members.{first_in, next_in}
use Rattle.olc_state.proofs.Options.{none_some, some_same}
use Rattle.olc_state.proofs.Records.{at}
use Rattle.olc_state.proofs.Unlike.{decided_open}
use Rattle.olc_write.proofs.Freed.{frees, held_still as held_after}
use Rattle.olc_write.proofs.Frees.{off_two, unlocks, work_over}
use Rattle.olc_write.proofs.Locks.{fails, locks}
use Rattle.olc_write.proofs.Showing.{among_last, among_none}
use Rattle.olc_write.proofs.Upgraded.{held_still, is_held, known_still, on_way, one_known, upgrades, way_still}
use Rattle.olc_tidy.specs.inner.Tidying.{IsDueAs}

-- a decided call whose upgrade fails cleans up no more
stops_at : {M : Type 0} (p : Progress) (held : List ℕ) (call : CallState M) → p ≡ progress.Decided → not_locked p held call ≡ stopped (back call)
stops_at progress.Open held call e = absurd (decided_open (sym e))
stops_at progress.Decided held call e = refl
stops_at progress.Refused held call e = refl

-- nor does one that unlocks a node while it holds another
stops_held : {M : Type 0} (p : Progress) (c : Cleaning) (held : List ℕ) (slot : ℕ) (call : CallState M) → p ≡ progress.Decided → held ≡ slot ∷ [] → unlocked p (Some c) held call ≡ stopped call
stops_held p c held slot call e one = rw (e, one) refl

pub decided_over : (p : Progress) → p ≡ progress.Decided → p ≢ progress.Open
decided_over p e o = decided_open (sym e ∙ o)

module _ {M : Type 0} (Granted : Type 0) (same : M → M → Bool) (t : NodeMap M) (root pin : ℕ) (books : StoreCounts) (task : Task M) (env : Env M) (placed : IsPlaced t root) (c : Cleanup) (pair : NodePair) where
  abbrev k : List ℕ
  k = key_bytes task

  -- the event between these stages
  abbrev MovesTo : NodeMap M → TidyStep → Stage → Task M → Bool → ℕ → Type 0
  MovesTo t' x next then ok slot =
      IsMove Granted same t t' root pin books books (at (Tidy c x) task) env (at next then) (report_of kind.Upgrade (Some slot) 0 ok) Going

  -- a node whose prefix is as it was
  depth_still : (t' : NodeMap M) (slot : ℕ) → t' slot ≡ t slot → HasDepth t slot k c.length → HasDepth t' slot k c.length
  depth_still t' slot same_node f b there = f b (sym same_node ∙ there)

  -- THE PARENT
  module _ (facts : Facts Granted same t root pin (at (Tidy c (tidy.UpgradeAbove pair)) task)) (a : PlacedNode M) (here : t pair.above.slot ≡ Some a) where
    above_known : lookup (pair_spots pair) pair.above.slot ≡ Some pair.above.word
    above_known =
        lookup-put_other ((pair.above.slot, pair.above.word) ∷ []) pair.here.slot pair.here.word pair.above.slot facts.at.1.apart
        ∙ lookup-put_same [] pair.above.slot pair.above.word

    pub above_locks : (t' : NodeMap M) → MayUpgrade a.word pair.above.word → env.fail ≡ false → t' pair.above.slot ≡ Some (record a { word = a.word + 2 }) → ((o : ℕ) → o ≢ pair.above.slot → t' o ≡ t o)
        → MovesTo t' (tidy.UpgradeAbove pair) (Tidy c (tidy.UpgradeBelow pair)) task true pair.above.slot
    above_locks t' may whole after others =
        let f = facts.at in
        let cleans : CleansUp task c = f.0 in
        let far : pair.here.slot ≢ pair.above.slot = λ e. f.1.apart (sym e) in
        locks Granted same t root pin books task env placed (Tidy c (tidy.UpgradeAbove pair)) (inr (cleans.decided, refl)) cleans.point (inl refl) pair.above.slot pair.above.word a here above_known (inr (inl refl)) refl
        t' (upgrades Granted same t root pin books task env placed t' pair.above a here f.2 may after others) may whole (Tidy c (tidy.UpgradeBelow pair)) (record {
          small = facts.small;
          at = (
            cleans,
            record { way = on_way Granted same t root pin books task env placed t' pair.above a here f.2 may after others f.1.way; apart = f.1.apart },
            (is_held Granted same t root pin books task env placed t' pair.above a here f.2 may after others, f.3 a here may.same),
            known_still Granted same t root pin books task env placed t' pair.above a here f.2 may after others pair.here far f.4,
            depth_still t' pair.here.slot (others pair.here.slot far) f.5,
          );
        })
        refl refl refl
        (among_last ((pair.above.slot, pair.above.word) ∷ []) pair.here.slot pair.here.word)
        (λ s w h e. far (one_known pair.here.slot pair.here.word s w h ∙ e))
        (λ s h. h) (λ s h. h) (omega arith)

    pub above_fails : (MayUpgrade a.word pair.above.word → env.fail ≡ false → ⊥) → MovesTo t (tidy.UpgradeAbove pair) Finish (restarted task) false pair.above.slot
    above_fails cannot =
        let cleans : CleansUp task c = facts.at.0 in
        fails Granted same t root pin books task env placed (Tidy c (tidy.UpgradeAbove pair)) (inr (cleans.decided, refl)) cleans.point (inl refl) pair.above.slot pair.above.word a here above_known (inr (inl refl)) refl
        facts.at.2.free cannot (at Finish (restarted task))
        (ap (λ (z : CallState M). record z { remembered = [] }) (sym (stops_at task.progress [] (flight pin (at (Tidy c (tidy.UpgradeAbove pair)) task)) cleans.decided)))
        refl (record { small = facts.small; at = decided_over task.progress cleans.decided }) refl
        (λ s h. elim h [ inl x ↦ none_of s x | inr x ↦ none_of s x ]) (λ s h. elim h [ inl x ↦ none_of s x | inr x ↦ none_of s x ])
        (λ s h. absurd h) (λ s h. h) (inr (omega arith))

  -- THE NODE BELOW A HELD PARENT
  module _ (facts : Facts Granted same t root pin (at (Tidy c (tidy.UpgradeBelow pair)) task)) (a : PlacedNode M) (here : t pair.here.slot ≡ Some a) where
    below_known : lookup ((pair.here.slot, pair.here.word) ∷ []) pair.here.slot ≡ Some pair.here.word
    below_known = lookup-put_same [] pair.here.slot pair.here.word

    module _ (t' : NodeMap M) (may : MayUpgrade a.word pair.here.word) (whole : env.fail ≡ false) (after : t' pair.here.slot ≡ Some (record a { word = a.word + 2 })) (others : (o : ℕ) → o ≢ pair.here.slot → t' o ≡ t o) where
      abbrev both : AreHeld t' pair k
      both = record {
        over = record { way = way_still Granted same t root pin books task env placed t' pair.here a here facts.at.3 may after others pair.above facts.at.1.apart facts.at.1.way; apart = facts.at.1.apart };
        above = held_still Granted same t root pin books task env placed t' pair.here a here facts.at.3 may after others pair.above facts.at.1.apart facts.at.2.0;
        here = is_held Granted same t root pin books task env placed t' pair.here a here facts.at.3 may after others;
        leads = facts.at.2.1;
      }

      abbrev cleans_at : CleansAt t' task c pair
      cleans_at = record { cleans = facts.at.0; held = both; reaches = facts.at.4 a here }

      pub below_locks : (x : TidyStep) → IsDueAs a.node pair x → MovesTo t' (tidy.UpgradeBelow pair) (Tidy c x) task true pair.here.slot
      below_locks (tidy.TakeAway p) due =
          subst (λ (z : NodePair). MovesTo t' (tidy.UpgradeBelow pair) (Tidy c (tidy.TakeAway z)) task true pair.here.slot) (sym due.0)
          (locks Granted same t root pin books task env placed (Tidy c (tidy.UpgradeBelow pair)) (inr (facts.at.0.decided, refl)) facts.at.0.point (inl refl) pair.here.slot pair.here.word a here below_known (inl refl) refl
          t' (upgrades Granted same t root pin books task env placed t' pair.here a here facts.at.3 may after others) may whole (Tidy c (tidy.TakeAway pair))
          (record { small = facts.small; at = (cleans_at, due.1) })
          refl refl refl (among_none ((pair.here.slot, pair.here.word) ∷ [])) (λ s w h. absurd (none_some w h)) (λ s h. h) (λ s h. h) (omega arith))
      below_locks (tidy.MakeSmaller p) due =
          subst (λ (z : NodePair). MovesTo t' (tidy.UpgradeBelow pair) (Tidy c (tidy.MakeSmaller z)) task true pair.here.slot) (sym due.0)
          (locks Granted same t root pin books task env placed (Tidy c (tidy.UpgradeBelow pair)) (inr (facts.at.0.decided, refl)) facts.at.0.point (inl refl) pair.here.slot pair.here.word a here below_known (inl refl) refl
          t' (upgrades Granted same t root pin books task env placed t' pair.here a here facts.at.3 may after others) may whole (Tidy c (tidy.MakeSmaller pair))
          (record { small = facts.small; at = (cleans_at, due.1) })
          refl refl refl (among_none ((pair.here.slot, pair.here.word) ∷ [])) (λ s w h. absurd (none_some w h)) (λ s h. h) (λ s h. h) (omega arith))
      below_locks (tidy.UnlockBelow p) due =
          subst (λ (z : NodePair). MovesTo t' (tidy.UpgradeBelow pair) (Tidy c (tidy.UnlockBelow z)) task true pair.here.slot) (sym due.0)
          (locks Granted same t root pin books task env placed (Tidy c (tidy.UpgradeBelow pair)) (inr (facts.at.0.decided, refl)) facts.at.0.point (inl refl) pair.here.slot pair.here.word a here below_known (inl refl) refl
          t' (upgrades Granted same t root pin books task env placed t' pair.here a here facts.at.3 may after others) may whole (Tidy c (tidy.UnlockBelow pair))
          (record { small = facts.small; at = (cleans_at, due.1) })
          refl refl refl (among_none ((pair.here.slot, pair.here.word) ∷ [])) (λ s w h. absurd (none_some w h)) (λ s h. h) (λ s h. h) (omega arith))
      below_locks x due = absurd due

    pub below_fails : (MayUpgrade a.word pair.here.word → env.fail ≡ false → ⊥) → MovesTo t (tidy.UpgradeBelow pair) (Tail (Unlock pair.above None)) (restarted task) false pair.here.slot
    below_fails cannot =
        let cleans : CleansUp task c = facts.at.0 in
        let over : unlock_work task.progress None ≡ 2 = work_over task.progress (decided_over task.progress cleans.decided) in
        fails Granted same t root pin books task env placed (Tidy c (tidy.UpgradeBelow pair)) (inr (cleans.decided, refl)) cleans.point (inl refl) pair.here.slot pair.here.word a here below_known (inl refl) refl
        facts.at.3.free cannot (at (Tail (Unlock pair.above None)) (restarted task))
        (ap (λ (z : CallState M). record z { remembered = [] }) (sym (stops_at task.progress (pair.above.slot ∷ []) (flight pin (at (Tidy c (tidy.UpgradeBelow pair)) task)) cleans.decided)))
        refl (record { small = facts.small; at = (facts.at.2.0, inr (decided_over task.progress cleans.decided)) }) refl
        (λ s h. h) (λ s h. h) (λ s h. elim h [ inl e ↦ inr (inl e) | inr never ↦ absurd never ]) (λ s h. h) (inr (omega (arith, over)))

  -- NOTHING IS DUE at the node, which is unlocked
  module _ (facts : Facts Granted same t root pin (at (Tidy c (tidy.UnlockBelow pair)) task)) (t' : NodeMap M) (after : t' pair.here.slot ≡ Some (record facts.at.0.held.here.node { word = facts.at.0.held.here.node.word + 2 })) (others : (o : ℕ) → o ≢ pair.here.slot → t' o ≡ t o) where
    below_is : flight pin (at (Tail (Unlock pair.above None)) task)
        ≡ record (unlocked task.progress (Some (cleaning_of c)) (off pair.here.slot (pair.here.slot ∷ pair.above.slot ∷ [])) (record (flight pin (at (Tidy c (tidy.UnlockBelow pair)) task)) { held = off pair.here.slot (pair.here.slot ∷ pair.above.slot ∷ []) })) { remembered = [] }
    below_is =
        let two = off_two pair.here.slot pair.above.slot facts.at.0.held.over.apart in
        ap (λ (z : List ℕ). record (flight pin (at (Tail (Unlock pair.above None)) task)) { held = z }) (sym two)
        ∙ ap (λ (z : CallState M). record z { remembered = [] })
        (sym (stops_held task.progress (cleaning_of c) (off pair.here.slot (pair.here.slot ∷ pair.above.slot ∷ [])) pair.above.slot
        (record (flight pin (at (Tidy c (tidy.UnlockBelow pair)) task)) { held = off pair.here.slot (pair.here.slot ∷ pair.above.slot ∷ []) }) facts.at.0.cleans.decided two))

    finds : (d : Cleaning) → Some (cleaning_of c) ≡ Some d → off pair.here.slot (pair.here.slot ∷ pair.above.slot ∷ []) ≢ [] → (length facts.at.0.held.here.node.node.prefix ≡ d.depth) × (IsDue facts.at.0.held.here.node.node → ⊥)
    finds d is more = (
      facts.at.0.reaches.1 ∙ ap (λ (x : Cleaning). x.depth) (some_same (cleaning_of c) d is),
      (λ due. let few = due.few in let many = facts.at.1 in omega (arith, few, many)),
    )

    pub below_unlocks : IsMove Granted same t t' root pin books books (at (Tidy c (tidy.UnlockBelow pair)) task) env (at (Tail (Unlock pair.above None)) task) (report_of kind.Unlock (Some pair.here.slot) 0 true) Going
    below_unlocks =
        let over : unlock_work task.progress None ≡ 2 = work_over task.progress (decided_over task.progress facts.at.0.cleans.decided) in
        unlocks Granted same t root pin books task env placed facts.small (Tidy c (tidy.UnlockBelow pair)) pair.here.slot facts.at.0.held.here.node facts.at.0.held.here.linked.here (first_in pair.here.slot (pair.above.slot ∷ [])) (inl refl)
        t' (frees Granted same t root pin books task env placed t' pair.here facts.at.0.held.here after others) finds (at (Tail (Unlock pair.above None)) task) below_is
        (record { small = facts.small; at = (held_after Granted same t root pin books task env placed t' pair.here pair.above others facts.at.0.held.over.apart facts.at.0.held.above, inr (decided_over task.progress facts.at.0.cleans.decided)) })
        refl refl (λ s h. elim h [ inl x ↦ inl (next_in pair.here.slot s (pair.above.slot ∷ []) x) | inr x ↦ none_of s x ])
        (λ s h ne. elim h [
          | inl x ↦ first_or (λ z. z ≢ pair.here.slot → Holding (Tail (Unlock pair.above None)) z) pair.here.slot s (pair.above.slot ∷ []) (λ far. absurd (far refl)) (λ y far. inl y) x ne
          | inr x ↦ none_of s x
        ])
        (λ s h. inr h) (λ s h. h) (omega (arith, over))
