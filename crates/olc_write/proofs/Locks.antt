-- AN UPGRADE as an event of its call: it locks a node, or fails and locks none.
use Rattle.std.proofs.Common.{◌≡◌, ◌≢◌, ℕ, ◌+◌, ◌^◌, ◌<◌, ◌≤◌, Bool, true, false, IsTrue, List, [], ◌∷◌, Some, ◌⊎◌, inl, inr, refl, sym, subst, ap, ◌∙◌, arith, None, Option}
use Rattle.spec_map.specs.Map.{lookup, put}
use Rattle.spec_olc.specs.Calls.{IsPoint, key_of}
use Rattle.spec_olc.specs.Kinds.{IsAtWork, not_locked, report_of}
use Rattle.spec_olc.specs.Local.{MayLock}
use Rattle.spec_olc.specs.State.{CallState, Cleaning, back}
use Rattle.spec_olc.specs.declared.types.Env.{Env}
use Rattle.spec_olc.specs.declared.types.Kind.TheVariants as kind
use Rattle.spec_olc.specs.declared.types.Outcome.TheVariants.{Going}
use Rattle.spec_olc.specs.Lists.{is_in}
use Rattle.spec_olc.specs.declared.types.Progress.{Progress}
use Rattle.spec_olc.specs.declared.types.Progress.TheVariants as progress
use Rattle.olc_state.specs.declared.stage.Record.{Record}
use Rattle.olc_state.specs.declared.stage.Spot.{Spot}
use Rattle.olc_state.specs.declared.stage.Stage.{Stage}
use Rattle.olc_state.specs.declared.stage.Stage.TheVariants.{TakeRoot, Tail as tail_at}
use Rattle.olc_state.specs.declared.stage.Task.{Task}
use Rattle.olc_state.specs.declared.tail.Tail.{Tail}
use Rattle.olc_state.specs.declared.tail.Tail.TheVariants.{Unlock}
use Rattle.olc_state.specs.inner.Facts.{Facts, Holding, named_at}
use Rattle.olc_state.specs.inner.Moves.{StoreCounts, IsMove, NewlyHeld}
use Rattle.olc_state.specs.inner.Shown.{flight, held_at, made_at, spots_of}
use Rattle.olc_state.specs.inner.Tables.{IsIn, IsPlaced}
use Rattle.olc_state.specs.inner.TailFacts.{IsHeld}
use Rattle.olc_state.specs.inner.Tails.{unlock_work, held_in, made_in, named_in, spots_in, tail_work, cleaning_in}
use Rattle.olc_state.specs.inner.Tasks.{IsOpen, restarted}
use Rattle.olc_state.specs.inner.Turns.{AllCurrent, IsUndisturbed, MayFollow, work_of}
use Rattle.olc_state.specs.inner.World.{PlacedNode, NodeMap}
use Rattle.olc_state.proofs.Holding.{first_or, none_of}
use Rattle.olc_state.proofs.Options.{none_some, some_same}
use Rattle.olc_state.proofs.Reaching.{one, seen_at}
use Rattle.olc_state.proofs.Unlike.{decided_open, false_true, refused_open, true_false}
use Rattle.olc_state.proofs.Records.{at}
use Rattle.olc_state.proofs.Replies.{returned_fresh}
use Rattle.olc_state.proofs.Members.{first_in, next_in}
use Rattle.spec_olc.specs.Lock.{IsFree, MayUpgrade}
use Rattle.olc_laws.proofs.Words.{Upgrades, upgraded_effect, upgraded_pairs}
use Rattle.olc_write.proofs.Moving.{Does, no_effect, quiet_move, same_pairs_here}
use Rattle.olc_write.proofs.Showing.{Among, after_nodes, nodes_put, nodes_same}

-- a call without a reply goes back at once only if it holds nothing
goes_back : {M : Type 0} (p : Progress) (held : List ℕ) (call : CallState M) → p ≡ progress.Open → held ≡ [] → not_locked p held call ≡ back call
goes_back progress.Open [] call undecided none = refl
goes_back progress.Open (slot ∷ held) call undecided none = absurd (cc)
goes_back progress.Decided held call undecided none = absurd (decided_open undecided)
goes_back progress.Refused held call undecided none = absurd (refused_open undecided)

stays_held : {M : Type 0} (p : Progress) (held : List ℕ) (slot : ℕ) (rest : List ℕ) (call : CallState M) → p ≡ progress.Open → held ≡ slot ∷ rest → not_locked p held call ≡ call
stays_held progress.Open [] slot rest call undecided e = absurd (cc)
stays_held progress.Open (x ∷ held) slot rest call undecided e = refl
stays_held progress.Decided held slot rest call undecided e = absurd (decided_open undecided)
stays_held progress.Refused held slot rest call undecided e = absurd (refused_open undecided)

none_at_root : (s : ℕ) → Holding TakeRoot s → ⊥
none_at_root s h = elim h [ inl x ↦ none_of s x | inr x ↦ none_of s x ]

module _ {M : Type 0} (Granted : Type 0) (same : M → M → Bool) (t : NodeMap M) (root pin : ℕ) (books : StoreCounts) (task : Task M) (env : Env M) (placed : IsPlaced t root) (stage : Stage)
    (work : IsAtWork (flight pin (at stage task))) (point : IsPoint task.outline) (locking : MayLock Granted same (flight pin (at stage task))) (slot word : ℕ) (a : PlacedNode M) (here : t slot ≡ Some a) (known : lookup (spots_of stage) slot ≡ Some word)
    (named : IsIn slot (named_at stage)) (made : made_at stage ≡ []) where
  touches : (s : ℕ) → Some slot ≡ Some s → IsIn s (named_at stage)
  touches s e = subst (λ x. IsIn x (named_at stage)) (some_same slot s e) named

  -- IT IS LOCKED
  module _ (t' : NodeMap M) (u : Upgrades t t' slot a) (may : MayUpgrade a.word word) (whole : env.fail ≡ false) (next : Stage) (facts : Facts Granted same t' root pin (at next task))
      (alike : flight pin (at next task) ≡ record (flight pin (at stage task)) { held = slot ∷ held_at stage; remembered = spots_of next })
      (held : held_at next ≡ slot ∷ held_at stage) (made_next : made_at next ≡ []) (within : Among (spots_of next) (spots_of stage)) (far : (s w : ℕ) → lookup (spots_of next) s ≡ Some w → s ≢ slot)
      (names : (s : ℕ) → IsIn s (named_at next) → IsIn s (named_at stage)) (follows : (s : ℕ) → MayFollow t' next task.last s → ⊥) (less : work_of t' (at next task) < work_of t (at stage task)) where
    locked_does : Does Granted same t t' root pin books books (at stage task) env (at next task) (report_of kind.Upgrade (Some slot) 0 true) Going
    locked_does s s' id shows shows' map map' after = (
      work,
      record {
        point = point;
        may = locking;
        knows = record { slot = slot; node = one a; word = word; here = seen_at t root s shows slot a here; word_is = known };
        reports = (refl, refl);
        ok = ((λ e. (may, whole)), (λ e. refl));
        locks = λ e. record {
          next = flight pin (at next task);
          is = alike;
          remembered = within;
          after = after_nodes after (put s.nodes slot (one (record a { word = a.word + 2 })))
              (nodes_put t' root s' shows' map' t s shows map slot (record a { word = a.word + 2 }) u.after (λ o other. u.others o (λ h. elim h [ inl e ↦ other (sym e) | inr never ↦ absurd never ]))) refl;
        };
        fails = λ e. absurd (true_false e);
      },
    )

    pub locks : IsMove Granted same t t' root pin books books (at stage task) env (at next task) (report_of kind.Upgrade (Some slot) 0 true) Going
    locks =
        quiet_move Granted same t t' root pin books books (at stage task) env (at next task) (report_of kind.Upgrade (Some slot) 0 true) Going
        (slot ∷ []) (slot ∷ []) placed (upgraded_effect u root (Holding stage) (λ p. p ≤ books.count) placed) (upgraded_pairs u)
        facts (omega arith) refl
        (λ s h. elim h [
          | inl x ↦ first_or (λ z. Holding stage z ⊎ NewlyHeld t z) slot s (held_at stage) (inr (inr (record { node = a; linked = u.here; free = u.free }))) (λ y. inl (inl y)) (subst (λ z. IsTrue (is_in s z)) held x)
          | inr x ↦ none_of s (subst (λ z. IsTrue (is_in s z)) made_next x)
        ])
        (λ s h. elim h [ inl e ↦ inl (subst (λ z. IsTrue (is_in s z)) (sym held) (subst (λ z. IsTrue (is_in z (slot ∷ held_at stage))) e (first_in slot (held_at stage)))) | inr never ↦ absurd never ])
        (λ s h out. elim h [
          | inl x ↦ inl (subst (λ z. IsTrue (is_in s z)) (sym held) (next_in slot s (held_at stage) x))
          | inr x ↦ none_of s (subst (λ z. IsTrue (is_in s z)) made x)
        ])
        (record {
          touches = λ s e make. inr (touches s e);
          names = λ s h. inr (inl (names s h));
          reads = λ s h. absurd (follows s h);
          outline = refl;
          keeps = λ current s w h b there. current s w (within s w h) b (sym (u.others s (λ x. elim x [ inl e ↦ far s w h (sym e) | inr never ↦ absurd never ])) ∙ there);
          falls = λ served. inr less;
        })
        locked_does (λ m. refl)

  -- IT FAILS
  module _ (free : IsFree word) (cannot : MayUpgrade a.word word → env.fail ≡ false → ⊥) where
    undone : (MayUpgrade a.word word × (env.fail ≡ false)) → ⊥
    undone h = cannot h.0 h.1

    disturbed : AllCurrent t stage → IsUndisturbed t stage env kind.Upgrade → ⊥
    disturbed current alone =
        let is : a.word ≡ word = current slot word known a here in
        cannot (record { same = is; free = subst (λ z. IsFree z) (sym is) free; room = alone.versions slot a here }) (alone.whole refl)

    module _ (next : Record M) (becomes : flight pin next ≡ record (not_locked task.progress (held_at stage) (flight pin (at stage task))) { remembered = [] }) (forgotten : spots_of next.stage ≡ []) where
      failed_does : Does Granted same t t root pin books books (at stage task) env next (report_of kind.Upgrade (Some slot) 0 false) Going
      failed_does s s' id shows shows' map map' after = (
        work,
        record {
          point = point;
          may = locking;
          knows = record { slot = slot; node = one a; word = word; here = seen_at t root s shows slot a here; word_is = known };
          reports = (refl, refl);
          ok = ((λ e. absurd (false_true e)), (λ h. absurd (undone h)));
          locks = λ e. absurd (false_true e);
          fails = λ e. record {
            next = flight pin next;
            is = becomes ∙ ap (λ (z : List (ℕ × ℕ)). record (not_locked task.progress (held_at stage) (flight pin (at stage task))) { remembered = z }) (sym forgotten);
            remembered = λ k w h. absurd (none_some w (subst (λ (z : List (ℕ × ℕ)). lookup z k ≡ Some w) forgotten h));
            after = after_nodes after s.nodes (nodes_same t root s' shows' map' t s shows map (λ o. refl)) refl;
          };
        },
      )

      pub fails : Facts Granted same t root pin next → next.task.outline ≡ task.outline → ((s : ℕ) → Holding next.stage s → Holding stage s) → ((s : ℕ) → Holding stage s → Holding next.stage s)
          → ((s : ℕ) → IsIn s (named_at next.stage) → IsIn s (named_at stage)) → ((s : ℕ) → MayFollow t next.stage next.task.last s → ⊥)
          → (work_of t next < work_of t (at stage task) + 40) ⊎ (work_of t next < work_of t (at stage task))
          → IsMove Granted same t t root pin books books (at stage task) env next (report_of kind.Upgrade (Some slot) 0 false) Going
      fails facts outline fewer more names follows over =
          quiet_move Granted same t t root pin books books (at stage task) env next (report_of kind.Upgrade (Some slot) 0 false) Going
          [] [] placed (no_effect t root placed (Holding stage) (λ p. p ≤ books.count)) (same_pairs_here t root placed)
          facts (omega arith) refl (λ s h. inl (fewer s h)) (λ s h. absurd h) (λ s h out. more s h)
          (record {
            touches = λ s e make. inr (touches s e);
            names = λ s h. inr (inl (names s h));
            reads = λ s h. absurd (follows s h);
            outline = outline;
            keeps = λ current s w h. absurd (none_some w (subst (λ (z : List (ℕ × ℕ)). lookup z s ≡ Some w) forgotten h));
            falls = λ served. elim over [ inl most ↦ inl (record { forgotten = forgotten; work = most }, disturbed) | inr less ↦ inr less ];
          })
          failed_does (λ m. refl)

-- A CALL WITHOUT A REPLY whose upgrade fails
module _ {M : Type 0} (Granted : Type 0) (same : M → M → Bool) (t : NodeMap M) (root pin : ℕ) (books : StoreCounts) (task : Task M) (env : Env M) (placed : IsPlaced t root)
    (small : key_of task.outline < 2 ^ 64) (opened : IsOpen task) (tail : Tail) (locking : MayLock Granted same (flight pin (at (tail_at tail) task))) (slot word : ℕ) (a : PlacedNode M) (here : t slot ≡ Some a) (known : lookup (spots_in tail) slot ≡ Some word)
    (named : IsIn slot (named_in tail)) (made : made_in tail ≡ []) (quiet : cleaning_in tail ≡ None) (free : IsFree word) (cannot : MayUpgrade a.word word → env.fail ≡ false → ⊥) where
  -- goes back to the root if it holds nothing
  back_is : held_in tail ≡ [] → flight pin (at TakeRoot (restarted task)) ≡ record (not_locked task.progress (held_in tail) (flight pin (at (tail_at tail) task))) { remembered = [] }
  back_is none =
      ap (λ (z : Option Cleaning). record (flight pin (at TakeRoot (restarted task))) { cleaning = z }) (sym quiet)
      ∙ (ap (λ (z : List ℕ). record (flight pin (at TakeRoot (restarted task))) { cleaning = cleaning_in tail; held = z }) (sym none)
      ∙ (ap (λ (z : List ℕ). record (flight pin (at TakeRoot (restarted task))) { cleaning = cleaning_in tail; held = held_in tail; made = z }) (sym made)
      ∙ ap (λ (z : CallState M). record z { remembered = [] }) (sym (goes_back task.progress (held_in tail) (flight pin (at (tail_at tail) task)) opened.undecided none))))

  pub fails_back : held_in tail ≡ [] → IsMove Granted same t t root pin books books (at (tail_at tail) task) env (at TakeRoot (restarted task)) (report_of kind.Upgrade (Some slot) 0 false) Going
  fails_back none =
      fails Granted same t root pin books task env placed (tail_at tail) (inl opened.undecided) opened.point locking slot word a here known named made free cannot
      (at TakeRoot (restarted task)) (back_is none) refl
      (record { small = small; at = (record { opened = record { undecided = opened.undecided; op = opened.op; op_is = opened.op_is; outline = opened.outline; point = opened.point; returned = returned_fresh opened.op task.asking task.returns opened.returned }; fresh = refl }, refl) })
      refl (λ s h. absurd (none_at_root s h))
      (λ s h. elim h [ inl x ↦ none_of s (subst (λ z. IsTrue (is_in s z)) none x) | inr x ↦ none_of s (subst (λ z. IsTrue (is_in s z)) made x) ])
      (λ s h. absurd h) (λ s h. h) (inl (omega arith))

  -- and unlocks the parent if it holds that
  stay_is : (above : Spot) → held_in tail ≡ above.slot ∷ [] → flight pin (at (tail_at (Unlock above None)) task) ≡ record (not_locked task.progress (held_in tail) (flight pin (at (tail_at tail) task))) { remembered = [] }
  stay_is above one_held =
      ap (λ (z : Option Cleaning). record (flight pin (at (tail_at (Unlock above None)) task)) { cleaning = z }) (sym quiet)
      ∙ (ap (λ (z : List ℕ). record (flight pin (at (tail_at (Unlock above None)) task)) { cleaning = cleaning_in tail; held = z }) (sym one_held)
      ∙ (ap (λ (z : List ℕ). record (flight pin (at (tail_at (Unlock above None)) task)) { cleaning = cleaning_in tail; held = held_in tail; made = z }) (sym made)
      ∙ ap (λ (z : CallState M). record z { remembered = [] }) (sym (stays_held task.progress (held_in tail) above.slot [] (flight pin (at (tail_at tail) task)) opened.undecided one_held))))

  pub fails_held : (above : Spot) → held_in tail ≡ above.slot ∷ [] → IsIn above.slot (named_in tail) → IsHeld t above → 0 < tail_work task.progress tail
      → IsMove Granted same t t root pin books books (at (tail_at tail) task) env (at (tail_at (Unlock above None)) task) (report_of kind.Upgrade (Some slot) 0 false) Going
  fails_held above one_held there is some =
      fails Granted same t root pin books task env placed (tail_at tail) (inl opened.undecided) opened.point locking slot word a here known named made free cannot
      (at (tail_at (Unlock above None)) task) (stay_is above one_held) refl
      (record { small = small; at = (is, inl opened) })
      refl
      (λ s h. elim h [ inl x ↦ inl (subst (λ z. IsTrue (is_in s z)) (sym one_held) x) | inr x ↦ none_of s x ])
      (λ s h. elim h [ inl x ↦ inl (subst (λ z. IsTrue (is_in s z)) one_held x) | inr x ↦ none_of s (subst (λ z. IsTrue (is_in s z)) made x) ])
      (λ s h. elim h [ inl e ↦ subst (λ z. IsIn z (named_in tail)) e there | inr never ↦ absurd never ]) (λ s h. h)
      (let last : unlock_work task.progress None ≡ 40 = rw opened.undecided refl in inl (omega (arith, last, some)))
