-- EACH UNLOCK of a tail, and the end of a node that is no longer in the tree.
use Rattle.std.proofs.Common.{◌≡◌, ◌≢◌, ℕ, ◌+◌, ◌*◌, Bool, true, IsTrue, List, [], ◌∷◌, Option, Some, None, inl, inr, refl, sym, ap, ◌∙◌, arith}
use Rattle.spec_olc.specs.Kinds.{report_of, unlocked}
use Rattle.spec_olc.specs.Lists.{is_in, off}
use Rattle.spec_olc.specs.State.{CallState}
use Rattle.spec_olc.specs.declared.types.Env.{Env}
use Rattle.spec_olc.specs.declared.types.Kind.TheVariants as kind
use Rattle.spec_olc.specs.declared.types.Outcome.TheVariants.{Going}
use Rattle.spec_olc.specs.Retirement.{count_after, stamp_at}
use Rattle.olc_state.specs.declared.cleanup.Cleanup.{Cleanup}
use Rattle.olc_state.specs.declared.cleanup.Seek.TheVariants as seek
use Rattle.olc_state.specs.declared.stage.Spot.{Spot}
use Rattle.olc_state.specs.declared.stage.Stage.{Stage}
use Rattle.olc_state.specs.declared.stage.Stage.TheVariants.{TakeRoot, Finish, Seek, Tail as tail_at}
use Rattle.olc_state.specs.declared.stage.Task.{Task}
use Rattle.olc_state.specs.declared.tail.NodePair.{NodePair}
use Rattle.olc_state.specs.declared.tail.Tail.TheVariants.{Obsolete, Unlock, UnlockBelow}
use Rattle.olc_state.specs.inner.Facts.{Facts, Holding}
use Rattle.olc_state.specs.inner.Moves.{StoreCounts, IsMove}
use Rattle.olc_state.specs.inner.Shown.{flight}
use Rattle.olc_state.specs.inner.Tables.{IsPlaced}
use Rattle.olc_state.specs.inner.TailFacts.{EndsWith, IsHeld, IsOver, UnlocksWith}
use Rattle.olc_state.specs.inner.Tails.{cleaning_of, more_work, unlock_work}
use Rattle.olc_state.specs.inner.Tasks.{CleansUp, IsOpen, restarted}
use Rattle.olc_state.specs.inner.World.{NodeMap, is_retired}
use Rattle.olc_state.proofs.Holding.{first_or, locked_now, none_of}
use Rattle.olc_state.proofs.Options.{none_some}
use Rattle.olc_state.proofs.Records.{at}
use Rattle.olc_state.proofs.Replies.{returned_fresh}
use Rattle.olc_state.proofs.Members.{first_in, next_in}
use Rattle.olc_laws.proofs.Effects.{beside_one}
use Rattle.olc_laws.proofs.Words.{Retires, Unlocks}
use Rattle.olc_write.proofs.Frees.{none_back, none_kept, off_one, off_two, retires, unlocked_decided, unlocked_open, unlocked_over, unlocks, work_decided, work_open, work_over}

-- what a call holds beside the node that it lets go
alone_held : (next : Stage) (spot : Spot) (left : Option Cleanup) (s : ℕ) → Holding (tail_at (Unlock spot left)) s → s ≢ spot.slot → Holding next s
alone_held next spot left s h =
    elim h [
      | inl x ↦ first_or (λ z. z ≢ spot.slot → Holding next z) spot.slot s [] (λ ne. absurd (ne refl)) (none_of s) x
      | inr x ↦ none_of s x
    ]

above_held : (pair : NodePair) (left : Option Cleanup) (s : ℕ) → IsTrue (is_in s (pair.here.slot ∷ pair.above.slot ∷ [])) → s ≢ pair.here.slot → Holding (tail_at (Unlock pair.above left)) s
above_held pair left s h = first_or (λ z. z ≢ pair.here.slot → Holding (tail_at (Unlock pair.above left)) z) pair.here.slot s (pair.above.slot ∷ []) (λ ne. absurd (ne refl)) (λ x ne. inl x) h

both_held : (pair : NodePair) (left : Option Cleanup) (s : ℕ) → Holding (tail_at (Unlock pair.above left)) s → IsTrue (is_in s (pair.here.slot ∷ pair.above.slot ∷ []))
both_held pair left s h = elim h [ inl x ↦ next_in pair.here.slot s (pair.above.slot ∷ []) x | inr x ↦ none_of s x ]

module _ {M : Type 0} (Granted : Type 0) (same : M → M → Bool) (t : NodeMap M) (root pin : ℕ) (books : StoreCounts) (task : Task M) (env : Env M) (placed : IsPlaced t root) (t' : NodeMap M) where
  pub held_still : (spot other : Spot) → ((o : ℕ) → o ≢ spot.slot → t' o ≡ t o) → other.slot ≢ spot.slot → IsHeld t other → IsHeld t' other
  held_still spot other others apart h = record { node = h.node; linked = record { here = others other.slot apart ∙ h.linked.here; lifetime = h.linked.lifetime }; word = h.word; free = h.free; room = h.room }

  pub frees : (spot : Spot) (held : IsHeld t spot) → t' spot.slot ≡ Some (record held.node { word = held.node.word + 2 }) → ((o : ℕ) → o ≢ spot.slot → t' o ≡ t o) → Unlocks t t' spot.slot held.node
  frees spot held after others = record { here = held.linked; locked = locked_now held.node.word spot.word held.word held.free; after = after; others = beside_one t t' spot.slot others }

  -- THE LAST NODE
  module _ (spot : Spot) (facts : Facts Granted same t root pin (at (tail_at (Unlock spot None)) task)) (after : t' spot.slot ≡ Some (record facts.at.0.node { word = facts.at.0.node.word + 2 })) (others : (o : ℕ) → o ≢ spot.slot → t' o ≡ t o) where
    restarts_is : IsOpen task → flight pin (at TakeRoot (restarted task)) ≡ record (unlocked task.progress None (off spot.slot (spot.slot ∷ [])) (record (flight pin (at (tail_at (Unlock spot None)) task)) { held = off spot.slot (spot.slot ∷ []) })) { remembered = [] }
    restarts_is opened =
        ap (λ (z : List ℕ). record (flight pin (at TakeRoot (restarted task))) { held = z }) (sym (off_one spot.slot))
        ∙ ap (λ (z : CallState M). record z { remembered = [] }) (sym (unlocked_open task.progress (off spot.slot (spot.slot ∷ [])) (record (flight pin (at (tail_at (Unlock spot None)) task)) { held = off spot.slot (spot.slot ∷ []) }) opened.undecided))

    pub unlock_restarts : IsOpen task → IsMove Granted same t t' root pin books books (at (tail_at (Unlock spot None)) task) env (at TakeRoot (restarted task)) (report_of kind.Unlock (Some spot.slot) 0 true) Going
    unlock_restarts opened =
        let more : 40 ≡ unlock_work task.progress None = sym (work_open task.progress opened.undecided) in
        unlocks Granted same t root pin books task env placed facts.small (tail_at (Unlock spot None)) spot.slot facts.at.0.node facts.at.0.linked.here (first_in spot.slot []) (inl refl)
        t' (frees spot facts.at.0 after others) (λ c cleans. absurd (none_some c cleans)) (at TakeRoot (restarted task)) (restarts_is opened)
        (record { small = facts.small; at = (record { opened = record { undecided = opened.undecided; op = opened.op; op_is = opened.op_is; outline = opened.outline; point = opened.point; returned = returned_fresh opened.op task.asking task.returns opened.returned }; fresh = refl }, refl) })
        refl refl (λ s h. absurd (none_back s h)) (alone_held TakeRoot spot None) (λ s h. absurd h) (λ s h. h) (omega (arith, more))

    ends_is : IsOver Granted same task → flight pin (at Finish task) ≡ record (unlocked task.progress None (off spot.slot (spot.slot ∷ [])) (record (flight pin (at (tail_at (Unlock spot None)) task)) { held = off spot.slot (spot.slot ∷ []) })) { remembered = [] }
    ends_is over =
        ap (λ (z : List ℕ). record (flight pin (at Finish task)) { held = z }) (sym (off_one spot.slot))
        ∙ ap (λ (z : CallState M). record z { remembered = [] }) (sym (unlocked_over task.progress (off spot.slot (spot.slot ∷ [])) (record (flight pin (at (tail_at (Unlock spot None)) task)) { held = off spot.slot (spot.slot ∷ []) }) over))

    pub unlock_ends : IsOver Granted same task → IsMove Granted same t t' root pin books books (at (tail_at (Unlock spot None)) task) env (at Finish task) (report_of kind.Unlock (Some spot.slot) 0 true) Going
    unlock_ends over =
        let more : 2 ≡ unlock_work task.progress None = sym (work_over task.progress over) in
        unlocks Granted same t root pin books task env placed facts.small (tail_at (Unlock spot None)) spot.slot facts.at.0.node facts.at.0.linked.here (first_in spot.slot []) (inl refl)
        t' (frees spot facts.at.0 after others) (λ c cleans. absurd (none_some c cleans)) (at Finish task) (ends_is over)
        (record { small = facts.small; at = over })
        refl refl (λ s h. absurd (none_kept s h)) (alone_held Finish spot None) (λ s h. absurd h) (λ s h. h) (omega (arith, more))

  -- THE LAST NODE before a cleanup
  module _ (spot : Spot) (c : Cleanup) (facts : Facts Granted same t root pin (at (tail_at (Unlock spot (Some c))) task)) (after : t' spot.slot ≡ Some (record facts.at.0.node { word = facts.at.0.node.word + 2 })) (others : (o : ℕ) → o ≢ spot.slot → t' o ≡ t o) where
    cleans_is : flight pin (at (Seek c seek.TakeRoot) (restarted task)) ≡ record (unlocked task.progress (Some (cleaning_of c)) (off spot.slot (spot.slot ∷ [])) (record (flight pin (at (tail_at (Unlock spot (Some c))) task)) { held = off spot.slot (spot.slot ∷ []) })) { remembered = [] }
    cleans_is =
        ap (λ (z : List ℕ). record (flight pin (at (Seek c seek.TakeRoot) (restarted task))) { held = z }) (sym (off_one spot.slot))
        ∙ ap (λ (z : CallState M). record z { remembered = [] })
        (sym (unlocked_decided task.progress (cleaning_of c) (off spot.slot (spot.slot ∷ [])) (record (flight pin (at (tail_at (Unlock spot (Some c))) task)) { held = off spot.slot (spot.slot ∷ []) }) facts.at.1.decided (off_one spot.slot)))

    pub unlock_cleans : IsMove Granted same t t' root pin books books (at (tail_at (Unlock spot (Some c))) task) env (at (Seek c seek.TakeRoot) (restarted task)) (report_of kind.Unlock (Some spot.slot) 0 true) Going
    unlock_cleans =
        let cleans : CleansUp task c = facts.at.1 in
        let more : unlock_work task.progress (Some c) ≡ 4 * c.length + 11 + more_work c = work_decided task.progress c cleans.decided in
        unlocks Granted same t root pin books task env placed facts.small (tail_at (Unlock spot (Some c))) spot.slot facts.at.0.node facts.at.0.linked.here (first_in spot.slot []) (inl refl)
        t' (frees spot facts.at.0 after others) (λ d cleaning more. absurd (more (off_one spot.slot))) (at (Seek c seek.TakeRoot) (restarted task)) cleans_is
        (record { small = facts.small; at = (record { decided = cleans.decided; op = cleans.op; fresh = refl; point = cleans.point; removes = cleans.removes; below_root = cleans.below_root; short = cleans.short }, refl) })
        refl refl (λ s h. elim h [ inl x ↦ none_of s x | inr x ↦ none_of s x ]) (alone_held (Seek c seek.TakeRoot) spot (Some c)) (λ s h. absurd h) (λ s h. h) (omega (arith, more))

  -- THE NODE, while the parent is held
  module _ (pair : NodePair) (facts : Facts Granted same t root pin (at (tail_at (UnlockBelow pair)) task)) (after : t' pair.here.slot ≡ Some (record facts.at.2.node { word = facts.at.2.node.word + 2 })) (others : (o : ℕ) → o ≢ pair.here.slot → t' o ≡ t o) where
    below_is : flight pin (at (tail_at (Unlock pair.above None)) task) ≡ record (unlocked task.progress None (off pair.here.slot (pair.here.slot ∷ pair.above.slot ∷ [])) (record (flight pin (at (tail_at (UnlockBelow pair)) task)) { held = off pair.here.slot (pair.here.slot ∷ pair.above.slot ∷ []) })) { remembered = [] }
    below_is =
        ap (λ (z : List ℕ). record (flight pin (at (tail_at (Unlock pair.above None)) task)) { held = z }) (sym (off_two pair.here.slot pair.above.slot facts.at.3))
        ∙ ap (λ (z : CallState M). record z { remembered = [] })
        (sym (unlocked_over task.progress (off pair.here.slot (pair.here.slot ∷ pair.above.slot ∷ [])) (record (flight pin (at (tail_at (UnlockBelow pair)) task)) { held = off pair.here.slot (pair.here.slot ∷ pair.above.slot ∷ []) }) facts.at.0))

    pub below_unlocks : IsMove Granted same t t' root pin books books (at (tail_at (UnlockBelow pair)) task) env (at (tail_at (Unlock pair.above None)) task) (report_of kind.Unlock (Some pair.here.slot) 0 true) Going
    below_unlocks =
        let rest : unlock_work task.progress None ≡ 2 = work_over task.progress facts.at.0 in
        unlocks Granted same t root pin books task env placed facts.small (tail_at (UnlockBelow pair)) pair.here.slot facts.at.2.node facts.at.2.linked.here (first_in pair.here.slot (pair.above.slot ∷ [])) (inl refl)
        t' (frees pair.here facts.at.2 after others) (λ c cleans. absurd (none_some c cleans)) (at (tail_at (Unlock pair.above None)) task) below_is
        (record { small = facts.small; at = (held_still pair.here pair.above others facts.at.3 facts.at.1, inr facts.at.0) })
        refl refl (λ s h. inl (both_held pair None s h))
        (λ s h ne. elim h [ inl x ↦ above_held pair None s x ne | inr x ↦ none_of s x ])
        (λ s h. inr h) (λ s h. h) (omega (arith, rest))

  -- THE NODE that is no longer in the tree
  module _ (pair : NodePair) (left : Option Cleanup) (facts : Facts Granted same t root pin (at (tail_at (Obsolete pair left)) task)) (after : t' pair.here.slot ≡ Some (record facts.at.2.node { word = facts.at.2.node.word + 1; lifetime = is_retired (stamp_at books.count) }))
      (others : (o : ℕ) → o ≢ pair.here.slot → t' o ≡ t o) where
    pub retiring : Retires t t' pair.here.slot facts.at.2.node (stamp_at books.count)
    retiring = record {
      here = facts.at.2.here;
      detached = facts.at.2.lifetime;
      locked = locked_now facts.at.2.node.word pair.here.word facts.at.2.word facts.at.2.free;
      after = after;
      others = beside_one t t' pair.here.slot others;
    }

    out_is : flight pin (at (tail_at (Unlock pair.above left)) task) ≡ record (flight pin (at (tail_at (Obsolete pair left)) task)) { held = off pair.here.slot (pair.here.slot ∷ pair.above.slot ∷ []); remembered = [] }
    out_is = ap (λ (z : List ℕ). record (flight pin (at (tail_at (Unlock pair.above left)) task)) { held = z }) (sym (off_two pair.here.slot pair.above.slot facts.at.3))

    unlocks_with : (after : Option Cleanup) → EndsWith Granted same task after → UnlocksWith Granted same task after
    unlocks_with None over = inr over
    unlocks_with (Some c) cleans = cleans

    pub obsoletes : IsMove Granted same t t' root pin books (record books { count = count_after books.count }) (at (tail_at (Obsolete pair left)) task) env (at (tail_at (Unlock pair.above left)) task) (report_of kind.Obsolete (Some pair.here.slot) 0 true) Going
    obsoletes =
        retires Granted same t root pin books task env placed facts.small (tail_at (Obsolete pair left)) pair.here.slot facts.at.2.node facts.at.2.here (first_in pair.here.slot (pair.above.slot ∷ [])) (inl refl)
        t' retiring (at (tail_at (Unlock pair.above left)) task) out_is
        (record { small = facts.small; at = (held_still pair.here pair.above others facts.at.3 facts.at.1, unlocks_with left facts.at.0) })
        refl refl (λ s h. inl (both_held pair left s h))
        (λ s h ne. elim h [ inl x ↦ above_held pair left s x ne | inr x ↦ none_of s x ])
        (λ s h. inr h) (λ s h. h) (omega arith)
