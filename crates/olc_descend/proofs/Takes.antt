-- The call after a Take.
use Rattle.std.proofs.Common.{◌≡◌, ℕ, List, ◌<◌, ◌^◌, Bool, true, false, IsTrue, ◌↔◌, [], Option, Some, None, ◌⊎◌, inl, inr, refl, sym, subst, ap, ◌∙◌, arith}
use Rattle.spec_map.proofs.MapLaws.{lookup-put_same}
use Rattle.spec_map.specs.Map.{lookup}
use Rattle.spec_node.specs.Key.{Begins}
use Rattle.spec_olc.specs.Calls.{key_of}
use Rattle.spec_olc.specs.Kinds.{DoesAs, report_of}
use Rattle.spec_olc.specs.State.{State, CallState, back, with_call}
use Rattle.spec_olc.specs.declared.types.Asking.{Asking}
use Rattle.spec_olc.specs.declared.types.Env.{Env}
use Rattle.spec_olc.specs.declared.types.Kind.TheVariants as kind
use Rattle.spec_olc.specs.declared.types.Outcome.TheVariants.{Going}
use Rattle.spec_olc.specs.declared.types.Seen.{Seen}
use Rattle.spec_olc.specs.Lock.{IsFree}
use Rattle.olc_state.specs.declared.stage.Path.{Path}
use Rattle.olc_state.specs.declared.stage.Record.{Record}
use Rattle.olc_state.specs.declared.stage.Spot.{Spot}
use Rattle.olc_state.specs.declared.stage.Stage.{Stage}
use Rattle.olc_state.specs.declared.stage.Stage.TheVariants.{TakeRoot, Read, TakeBelow, CheckAbove}
use Rattle.olc_state.specs.declared.stage.Task.{Task}
use Rattle.olc_state.specs.inner.Tables.{IsSafe, IsPlaced, IsThere, IsIn}
use Rattle.olc_state.specs.inner.Tasks.{IsFreshly, IsOpen, key_bytes, restarted}
use Rattle.olc_state.specs.inner.Facts.{Facts, named_at}
use Rattle.olc_state.specs.inner.Shown.{flight, held_at, made_at, spots_of}
use Rattle.olc_state.specs.inner.Tails.{above_spots, path_spots}
use Rattle.olc_state.specs.inner.Turns.{AllCurrent, IsRead, ShowsNodes}
use Rattle.olc_state.specs.inner.World.{PlacedNode, NodeLifetime, NodeMap, is_linked}
use Rattle.olc_state.proofs.Options.{none_some, some_same}
use Rattle.olc_state.proofs.Reaching.{one, seen_at}
use Rattle.olc_state.proofs.Records.{IsPlain, at}
use Rattle.olc_state.proofs.Replies.{returned_fresh}
use Rattle.olc_descend.proofs.Courses.{NoneHeld, forgets, none_held, plain_as, taken_current, root_free, below_free}
use Rattle.olc_descend.proofs.Events.{failed_open, take, take_fails}

abbrev pub top_path : ℕ → ℕ → Path
top_path root word = record { above = None; here = record { slot = root; word = word } }

-- a call that restarts hasn't asked its closure
pub restarted_fresh : {M : Type 0} (task : Task M) → IsOpen task → IsFreshly (restarted task)
restarted_fresh task o = record {
  opened = record {
    undecided = o.undecided;
    op = o.op;
    op_is = o.op_is;
    outline = o.outline;
    point = o.point;
    returned = returned_fresh o.op task.asking task.returns o.returned;
  };
  fresh = refl;
}

-- a path has a word that is remembered
path_known : (path : Path) → path_spots path ≡ [] → ⊥
path_known path e =
    none_some path.here.word (sym (ap (λ (z : List (ℕ × ℕ)). lookup z path.here.slot) e) ∙ lookup-put_same (above_spots path.above) path.here.slot path.here.word)

module _ {M : Type 0} (Granted : Type 0) (same : M → M → Bool) (t : NodeMap M) (root pin : ℕ) (task : Task M) (env : Env M) (placed : IsPlaced t root) where
  -- at the root all is new
  is_new : IsFreshly task → task.last ≡ None → flight pin (at TakeRoot task) ≡ back (flight pin (at TakeRoot task))
  is_new fresh none =
      ap (λ (x : Option (Seen M)). record (flight pin (at TakeRoot task)) { seen = x }) none
      ∙ ap (λ (x : Asking M). record (flight pin (at TakeRoot task)) { seen = None; asking = x }) fresh.fresh

  pub root_ok : (a : PlacedNode M) → Facts Granted same t root pin (at TakeRoot task) → t root ≡ Some a → IsFree a.word
      → IsRead Granted same t root pin (at TakeRoot task) env (at (Read (top_path root a.word)) task) (report_of kind.Take (Some root) a.word true) Going
  root_ok a facts here free =
      let f = facts.at in
      let top : a ≡ placed.top = some_same a placed.top (sym here ∙ placed.top_linked.here) in
      let current : a.lifetime ≡ is_linked = subst (λ (z : PlacedNode M). z.lifetime ≡ is_linked) (sym top) placed.top_linked.lifetime in
      let prefix : a.node.prefix ≡ [] = subst (λ (z : PlacedNode M). z.node.prefix ≡ []) (sym top) placed.top_prefix in
      record {
        facts = record {
          small = facts.small;
          at = (
            f.0,
            record {
              above = refl;
              here = record { node = a; here = here; safe = subst (λ (z : NodeLifetime). IsSafe pin z) (sym current) tt; free = free; word = omega arith };
              way = λ (b : PlacedNode M) (h : t root ≡ Some b). subst (λ (z : PlacedNode M). Begins z.node.prefix (key_bytes task)) (some_same a b (sym here ∙ h)) (rw prefix (record { holds = refl }));
              apart = λ (p : Spot) (e : None ≡ Some p). absurd (none_some p e);
            },
          );
        };
        held = refl;
        made = refl;
        course = record {
          touches = λ slot e make. inl (sym (some_same root slot e));
          names = λ slot h. elim h [ inl e ↦ inl (sym e) | inr never ↦ absurd never ];
          reads = λ slot h. absurd h;
          outline = refl;
          keeps = taken_current t TakeRoot (Read (top_path root a.word)) root a here refl;
          falls = λ served. inr (omega arith);
        };
        does = λ s id shows. take Granted same s id (flight pin (at TakeRoot task)) env (inl f.0.opened.undecided) root (one a) (seen_at t root s shows root a here) (λ e. is_new f.0 f.1) (λ e. sym shows.root_is) free;
        carries = λ s shows m content. refl;
      }

  -- a Take that fails
  take_restarts : (stage : Stage) (slot : ℕ) (a : PlacedNode M) → held_at stage ≡ [] → made_at stage ≡ [] → IsPlain stage → key_of task.outline < 2 ^ 64 → IsFreshly task → t slot ≡ Some a → (IsFree a.word → ⊥)
      → (slot ≡ root) ⊎ IsIn slot (named_at stage) → (AllCurrent t stage → NoneHeld t → IsFree a.word)
      → ((s : State M) → ShowsNodes t root s → slot ≡ s.root → flight pin (at stage task) ≡ back (flight pin (at stage task)))
      → ((s : State M) → ShowsNodes t root s → spots_of stage ≡ [] → slot ≡ s.root)
      → IsRead Granted same t root pin (at stage task) env (at TakeRoot (restarted task)) (report_of kind.Take (Some slot) a.word false) Going
  take_restarts stage slot a held made plain small fresh here free known frees anew first =
      let next : Record M = at TakeRoot (restarted task) in
      record {
        facts = record { small = small; at = (restarted_fresh task fresh.opened, refl) };
        held = refl;
        made = refl;
        course = forgets t known (λ z h. h) (λ z h. h) refl refl
            (λ served. inl (record { forgotten = refl; work = omega arith }, (λ current calm. free (frees current (none_held t stage env held made calm)))));
        does = λ s id shows.
            subst (λ (z : CallState M). DoesAs Granted same s (with_call s id z) id (flight pin (at stage task)) env (report_of kind.Take (Some slot) a.word false) Going kind.Take)
            (plain_as stage (key_of task.outline) (back (flight pin (at stage task))) [] [] plain refl (inl refl) refl refl held made)
            (take_fails Granted same s id (flight pin (at stage task)) env (inl fresh.opened.undecided) (back (flight pin (at stage task))) (failed_open (flight pin (at stage task)) fresh.opened.undecided) slot (one a) (seen_at t root s shows slot a here) (anew s shows) (first s shows) free);
        carries = λ s shows m content. refl;
      }

  pub root_restarts : (a : PlacedNode M) → Facts Granted same t root pin (at TakeRoot task) → t root ≡ Some a → (IsFree a.word → ⊥)
      → IsRead Granted same t root pin (at TakeRoot task) env (at TakeRoot (restarted task)) (report_of kind.Take (Some root) a.word false) Going
  root_restarts a facts here free =
      let f = facts.at in
      take_restarts TakeRoot root a refl refl tt facts.small f.0 here free (inl refl) (λ current none. root_free t root placed a none here) (λ s shows e. is_new f.0 f.1) (λ s shows e. sym shows.root_is)

  pub below_ok : (path : Path) (slot : ℕ) (a : PlacedNode M) (fits : Bool) → Facts Granted same t root pin (at (TakeBelow path slot) task) → t slot ≡ Some a → IsFree a.word
      → (IsTrue fits ↔ Begins a.node.prefix (key_bytes task))
      → IsRead Granted same t root pin (at (TakeBelow path slot) task) env (at (CheckAbove path (record { slot = slot; word = a.word }) fits) task) (report_of kind.Take (Some slot) a.word true) Going
  below_ok path slot a fits facts here free test =
      let f = facts.at in
      let there : IsThere t pin slot = f.4 in
      let same_node : there.node ≡ a = some_same there.node a (sym there.here ∙ here) in
      let below : Spot = record { slot = slot; word = a.word } in
      record {
        facts = record {
          small = facts.small;
          at = (
            f.0,
            f.1,
            f.2,
            f.3,
            record { node = a; here = here; safe = subst (λ (z : PlacedNode M). IsSafe pin z.lifetime) same_node there.safe; free = free; word = omega arith },
            (λ (b : PlacedNode M) (h : t slot ≡ Some b). subst (λ (z : PlacedNode M). IsTrue fits ↔ Begins z.node.prefix (key_bytes task)) (some_same a b (sym here ∙ h)) test),
            f.6,
          );
        };
        held = refl;
        made = refl;
        course = record {
          touches = λ z e make. inr (inl (some_same slot z e));
          names = λ z h. inr (inl h);
          reads = λ z h. absurd h;
          outline = refl;
          keeps = taken_current t (TakeBelow path slot) (CheckAbove path below fits) slot a here refl;
          falls = λ served. inr (omega arith);
        };
        does = λ s id shows. take Granted same s id (flight pin (at (TakeBelow path slot) task)) env (inl f.0.opened.undecided) slot (one a) (seen_at t root s shows slot a here)
            (λ e. absurd (f.5 (e ∙ shows.root_is))) (λ e. absurd (path_known path e)) free;
        carries = λ s shows m content. refl;
      }

  pub below_restarts : (path : Path) (slot : ℕ) (a : PlacedNode M) → Facts Granted same t root pin (at (TakeBelow path slot) task) → t slot ≡ Some a → (IsFree a.word → ⊥)
      → IsRead Granted same t root pin (at (TakeBelow path slot) task) env (at TakeRoot (restarted task)) (report_of kind.Take (Some slot) a.word false) Going
  below_restarts path slot a facts here free =
      let f = facts.at in
      take_restarts (TakeBelow path slot) slot a refl refl tt facts.small f.0 here free (inr (inl refl))
      (λ current none. below_free t root placed pin (key_bytes task) path f.1 slot f.2 a current none here)
      (λ s shows e. absurd (f.5 (e ∙ shows.root_is))) (λ s shows e. absurd (path_known path e))
