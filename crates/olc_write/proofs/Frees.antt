-- A HELD NODE IS LET GO: it is unlocked, or, where it is no longer in the tree, marked obsolete.
use Rattle.std.proofs.Common.{◌≡◌, ◌≢◌, ℕ, ◌+◌, ◌*◌, ◌^◌, ◌<◌, ◌≤◌, Bool, true, IsTrue, List, [], ◌∷◌, length, Some, None, inl, inr, refl, sym, subst, ap, ◌∙◌, arith}
use Rattle.std.proofs.lemmas.Bool.{eq-eqb, ne_eqb, lt-ltb, le-ltb, cases_lt}
use Rattle.spec_map.specs.Map.{lookup, put}
use Rattle.spec_olc.specs.Calls.{key_of}
use Rattle.spec_olc.specs.Due.{IsDue}
use Rattle.spec_olc.specs.Kinds.{report_of, unlocked}
use Rattle.spec_olc.specs.Lists.{is_in, off}
use Rattle.spec_olc.specs.State.{CallState, Cleaning, back, retire}
use Rattle.spec_olc.specs.declared.types.Env.{Env}
use Rattle.spec_olc.specs.declared.types.Kind.{Kind}
use Rattle.spec_olc.specs.declared.types.Kind.TheVariants as kind
use Rattle.spec_olc.specs.declared.types.Outcome.TheVariants.{Going}
use Rattle.spec_olc.specs.declared.types.Progress.{Progress}
use Rattle.spec_olc.specs.declared.types.Progress.TheVariants as progress
use Rattle.spec_olc.specs.Retirement.{count_after, last_count, stamp_at}
use Rattle.olc_state.specs.declared.cleanup.Cleanup.{Cleanup}
use Rattle.olc_state.specs.declared.stage.Record.{Record}
use Rattle.olc_state.specs.declared.stage.Stage.{Stage}
use Rattle.olc_state.specs.declared.stage.Stage.TheVariants.{TakeRoot, Finish}
use Rattle.olc_state.specs.declared.stage.Task.{Task}
use Rattle.olc_state.specs.inner.Facts.{Facts, Holding, named_at}
use Rattle.olc_state.specs.inner.Moves.{StoreCounts, IsMove, counts_of}
use Rattle.olc_state.specs.inner.Shown.{cleaning_at, flight, held_at, spots_of}
use Rattle.olc_state.specs.inner.Tables.{IsIn, IsPlaced, IsSafe}
use Rattle.olc_state.specs.inner.Tails.{more_work, unlock_work}
use Rattle.olc_state.specs.inner.Turns.{MayFollow, work_of}
use Rattle.olc_state.specs.inner.World.{PlacedNode, NodeMap, is_retired}
use Rattle.olc_state.proofs.Holding.{none_of}
use Rattle.olc_state.proofs.Options.{none_some, some_same}
use Rattle.olc_state.proofs.Reaching.{one, seen_at}
use Rattle.olc_state.proofs.Records.{at}
use Rattle.olc_laws.proofs.Effects.{Effect}
use Rattle.olc_laws.proofs.Pairs.{SamePairs}
use Rattle.olc_laws.proofs.Words.{Retires, Unlocks, retired_effect, retired_pairs, unlocked_effect, unlocked_pairs}
use Rattle.olc_write.proofs.Moving.{Does, quiet_move}
use Rattle.olc_write.proofs.Showing.{after_nodes, after_with, nodes_put}

-- a list without its first number
pub off_one : (slot : ℕ) → off slot (slot ∷ []) ≡ []
off_one slot = rw (eq-eqb slot slot refl) refl

pub off_two : (slot next : ℕ) → next ≢ slot → off slot (slot ∷ next ∷ []) ≡ next ∷ []
off_two slot next apart = rw (eq-eqb slot slot refl, ne_eqb next slot apart) refl

-- whether a call that doesn't clean up goes back by an Unlock
pub unlocked_open : {M : Type 0} (p : Progress) (held : List ℕ) (call : CallState M) → p ≡ progress.Open → unlocked p None held call ≡ back call
unlocked_open p held call e = rw e refl

pub unlocked_over : {M : Type 0} (p : Progress) (held : List ℕ) (call : CallState M) → p ≢ progress.Open → unlocked p None held call ≡ call
unlocked_over progress.Open held call e = absurd (e refl)
unlocked_over progress.Decided held call e = refl
unlocked_over progress.Refused held call e = refl

-- one that has to clean up goes back once it holds no node
pub unlocked_decided : {M : Type 0} (p : Progress) (c : Cleaning) (held : List ℕ) (call : CallState M) → p ≡ progress.Decided → held ≡ [] → unlocked p (Some c) held call ≡ back call
unlocked_decided p c held call e none = rw (e, none) refl

pub work_open : (p : Progress) → p ≡ progress.Open → unlock_work p None ≡ 40
work_open p e = rw e refl

pub work_decided : (p : Progress) (c : Cleanup) → p ≡ progress.Decided → unlock_work p (Some c) ≡ 4 * c.length + 11 + more_work c
work_decided p c e = rw e refl

pub work_over : (p : Progress) → p ≢ progress.Open → unlock_work p None ≡ 2
work_over progress.Open e = absurd (e refl)
work_over progress.Decided e = refl
work_over progress.Refused e = refl

-- calls that began by now are safe on a node that is retired now
pub safe_now : (pin count : ℕ) → pin ≤ count → IsSafe pin (is_retired (stamp_at count))
safe_now pin count early =
    elim (cases_lt count last_count) [
      | inl small ↦ rw (lt-ltb count last_count small) early
      | inr wide ↦ rw (le-ltb count last_count wide) tt
    ]

pub count_rises : (count : ℕ) → count ≤ count_after count
count_rises count =
    elim (cases_lt count last_count) [
      | inl small ↦ rw (lt-ltb count last_count small) (omega arith)
      | inr wide ↦ rw (le-ltb count last_count wide) (omega arith)
    ]

pub none_kept : (s : ℕ) → Holding Finish s → ⊥
none_kept s h = elim h [ inl x ↦ none_of s x | inr x ↦ none_of s x ]

pub none_back : (s : ℕ) → Holding TakeRoot s → ⊥
none_back s h = elim h [ inl x ↦ none_of s x | inr x ↦ none_of s x ]

module _ {M : Type 0} (Granted : Type 0) (same : M → M → Bool) (t : NodeMap M) (root pin : ℕ) (books : StoreCounts) (task : Task M) (env : Env M) (placed : IsPlaced t root)
    (small : key_of task.outline < 2 ^ 64) (stage : Stage) (slot : ℕ) (a : PlacedNode M) (here : t slot ≡ Some a) (mine : IsTrue (is_in slot (held_at stage))) (named : IsIn slot (named_at stage)) where
  -- one of the nodes that the call holds is let go
  module _ (t' : NodeMap M) (books' : StoreCounts) (next : Record M) (k : Kind) (effect : Effect t t' root (Holding stage) (λ p. p ≤ books.count) (slot ∷ []) []) (pairs : SamePairs t t')
      (facts : Facts Granted same t' root pin next) (counts : books.count ≤ books'.count) (entries : books'.entries ≡ books.entries) (forgotten : spots_of next.stage ≡ []) (outline : next.task.outline ≡ task.outline)
      (fewer : (s : ℕ) → Holding next.stage s → Holding stage s) (more : (s : ℕ) → Holding stage s → s ≢ slot → Holding next.stage s)
      (names : (s : ℕ) → IsIn s (named_at next.stage) → IsIn s (named_at stage)) (follows : (s : ℕ) → MayFollow t' next.stage next.task.last s → ⊥) (less : work_of t' next < work_of t (at stage task)) where
    lets_go : Does Granted same t t' root pin books books' (at stage task) env next (report_of k (Some slot) 0 true) Going
        → IsMove Granted same t t' root pin books books' (at stage task) env next (report_of k (Some slot) 0 true) Going
    lets_go does =
        quiet_move Granted same t t' root pin books books' (at stage task) env next (report_of k (Some slot) 0 true) Going
        (slot ∷ []) [] placed effect pairs facts counts entries (λ s h. inl (fewer s h)) (λ s h. absurd h) (λ s h out. more s h (λ e. out (inl (sym e))))
        (record {
          touches = λ s e make. inr (subst (λ x. IsIn x (named_at stage)) (some_same slot s e) named);
          names = λ s h. inr (inl (names s h));
          reads = λ s h. absurd (follows s h);
          outline = outline;
          keeps = λ current s w h. absurd (none_some w (subst (λ (z : List (ℕ × ℕ)). lookup z s ≡ Some w) forgotten h));
          falls = λ served. inr less;
        })
        does (λ m. refl)

  -- IT IS UNLOCKED
  module _ (t' : NodeMap M) (u : Unlocks t t' slot a) (finds : (c : Cleaning) → cleaning_at stage ≡ Some c → off slot (held_at stage) ≢ [] → (length a.node.prefix ≡ c.depth) × (IsDue a.node → ⊥)) (next : Record M) (becomes : flight pin next ≡ record (unlocked task.progress (cleaning_at stage) (off slot (held_at stage)) (record (flight pin (at stage task)) { held = off slot (held_at stage) })) { remembered = [] })
      (facts : Facts Granted same t' root pin next) (forgotten : spots_of next.stage ≡ []) (outline : next.task.outline ≡ task.outline)
      (fewer : (s : ℕ) → Holding next.stage s → Holding stage s) (more : (s : ℕ) → Holding stage s → s ≢ slot → Holding next.stage s)
      (names : (s : ℕ) → IsIn s (named_at next.stage) → IsIn s (named_at stage)) (follows : (s : ℕ) → MayFollow t' next.stage next.task.last s → ⊥) (less : work_of t' next < work_of t (at stage task)) where
    unlocked_does : Does Granted same t t' root pin books books (at stage task) env next (report_of kind.Unlock (Some slot) 0 true) Going
    unlocked_does s s' id shows shows' map map' after = record {
      held = record { slot = slot; node = one a; mine = mine; here = seen_at t root s shows slot a here };
      finds = finds;
      reports = (refl, refl);
      becomes = record {
        next = flight pin next;
        is = becomes ∙ ap (λ (z : List (ℕ × ℕ)). record (unlocked task.progress (cleaning_at stage) (off slot (held_at stage)) (record (flight pin (at stage task)) { held = off slot (held_at stage) })) { remembered = z }) (sym forgotten);
        remembered = λ k w h. absurd (none_some w (subst (λ (z : List (ℕ × ℕ)). lookup z k ≡ Some w) forgotten h));
        after = after_nodes after (put s.nodes slot (one (record a { word = a.word + 2 })))
            (nodes_put t' root s' shows' map' t s shows map slot (record a { word = a.word + 2 }) u.after (λ o other. u.others o (λ h. elim h [ inl e ↦ other (sym e) | inr never ↦ absurd never ]))) refl;
      };
    }

    pub unlocks : IsMove Granted same t t' root pin books books (at stage task) env next (report_of kind.Unlock (Some slot) 0 true) Going
    unlocks =
        lets_go t' books next kind.Unlock (unlocked_effect u root (Holding stage) (λ p. p ≤ books.count) placed (inl mine)) (unlocked_pairs u)
        facts (omega arith) refl forgotten outline fewer more names follows less unlocked_does

  -- IT IS RETIRED
  abbrev pub after_retiring : StoreCounts
  after_retiring = record books { count = count_after books.count }

  module _ (t' : NodeMap M) (u : Retires t t' slot a (stamp_at books.count)) (next : Record M) (becomes : flight pin next ≡ record (flight pin (at stage task)) { held = off slot (held_at stage); remembered = [] })
      (facts : Facts Granted same t' root pin next) (forgotten : spots_of next.stage ≡ []) (outline : next.task.outline ≡ task.outline)
      (fewer : (s : ℕ) → Holding next.stage s → Holding stage s) (more : (s : ℕ) → Holding stage s → s ≢ slot → Holding next.stage s)
      (names : (s : ℕ) → IsIn s (named_at next.stage) → IsIn s (named_at stage)) (follows : (s : ℕ) → MayFollow t' next.stage next.task.last s → ⊥) (less : work_of t' next < work_of t (at stage task)) where
    retired_does : Does Granted same t t' root pin books after_retiring (at stage task) env next (report_of kind.Obsolete (Some slot) 0 true) Going
    retired_does s s' id shows shows' map map' after =
        let count : s.count ≡ books.count = ap (λ (b : StoreCounts). b.count) after.was in
        let nodes = nodes_put t' root s' shows' map' t s shows map slot (record a { word = a.word + 1; lifetime = is_retired (stamp_at books.count) }) u.after (λ o other. u.others o (λ h. elim h [ inl e ↦ other (sym e) | inr never ↦ absurd never ])) in
        record {
          held = record { slot = slot; node = one a; mine = mine; here = seen_at t root s shows slot a here };
          reports = (refl, refl);
          becomes = record {
            next = flight pin next;
            is = becomes ∙ ap (λ (z : List (ℕ × ℕ)). record (flight pin (at stage task)) { held = off slot (held_at stage); remembered = z }) (sym forgotten);
            remembered = λ k w h. absurd (none_some w (subst (λ (z : List (ℕ × ℕ)). lookup z k ≡ Some w) forgotten h));
            after = after_with after (put s.nodes slot (retire (stamp_at s.count) (one a))) (record (counts_of s) { count = count_after s.count })
                (nodes ∙ ap (λ (n : ℕ). put s.nodes slot (retire (stamp_at n) (one a))) (sym count))
                (ap (λ (b : StoreCounts). record b { count = count_after b.count }) (sym after.was));
          };
        }

    retired_leaves : Effect t t' root (Holding stage) (λ p. p ≤ books.count) (slot ∷ []) []
    retired_leaves =
        let e = retired_effect u root (Holding stage) placed (inl mine) in
        record { placed = e.placed; others = λ p early. e.others p (safe_now p books.count early); privates = e.privates; needs = e.needs }

    pub retires : IsMove Granted same t t' root pin books after_retiring (at stage task) env next (report_of kind.Obsolete (Some slot) 0 true) Going
    retires =
        lets_go t' after_retiring next kind.Obsolete retired_leaves (retired_pairs u)
        facts (count_rises books.count) refl forgotten outline fewer more names follows less retired_does
