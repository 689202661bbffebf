-- AN EVENT THAT LEAVES THE PAIRS, put together from what it does to the table, to its call, and to what a reader sees.
use Rattle.std.proofs.Common.{◌≡◌, ℕ, ◌≤◌, Bool, List, [], ◌⊎◌, inl, inr, refl, ◌∙◌}
use Rattle.spec_map.specs.Map.{Pairs, IsMap}
use Rattle.spec_olc.specs.Deciding.{ContentAfter}
use Rattle.spec_olc.specs.Kinds.{DoesAs}
use Rattle.spec_olc.specs.Lists.{is_in}
use Rattle.spec_olc.specs.State.{State}
use Rattle.spec_olc.specs.declared.types.Env.{Env}
use Rattle.spec_olc.specs.declared.types.Outcome.{Outcome}
use Rattle.spec_olc.specs.declared.types.Report.{Report}
use Rattle.olc_state.specs.declared.stage.Record.{Record}
use Rattle.olc_state.specs.declared.stage.Stage.{Stage}
use Rattle.olc_state.specs.inner.Facts.{Facts, Holding}
use Rattle.olc_state.specs.inner.Moves.{StoreCounts, IsAfter, IsMove, NewlyHeld}
use Rattle.olc_state.specs.inner.Shown.{flight, held_at, made_at}
use Rattle.olc_state.specs.inner.Tables.{IsIn, IsPlaced}
use Rattle.olc_state.specs.inner.Turns.{IsCourse, ShowsNodes}
use Rattle.olc_state.specs.inner.World.{NodeMap}
use Rattle.olc_laws.proofs.Contents.{content_same}
use Rattle.olc_laws.proofs.Effects.{Beside, Effect, same_tree_effect}
use Rattle.olc_laws.proofs.Pairs.{SamePairs}
use Rattle.olc_state.proofs.Members.{true_or_not}

-- a call holds a node or it doesn't
pub holding_or : (stage : Stage) (s : ℕ) → Holding stage s ⊎ (Holding stage s → ⊥)
holding_or stage s =
    elim (true_or_not (is_in s (held_at stage))) [
      | inl held ↦ inl (inl held)
      | inr not ↦ elim (true_or_not (is_in s (made_at stage))) [
        | inl made ↦ inl (inr made)
        | inr none ↦ inr (λ h. elim h [ inl x ↦ not x | inr x ↦ none x ])
      ]
    ]

module _ {M : Type 0} (Granted : Type 0) (same : M → M → Bool) (t t' : NodeMap M) (root pin : ℕ) (books books' : StoreCounts) (call : Record M) (env : Env M) (next : Record M) (report : Report) (out : Outcome M) where
  -- what it does as an event of its kind
  abbrev pub Does : Type 0
  Does = (s s' : State M) (id : ℕ) → ShowsNodes t root s → ShowsNodes t' root s' → IsMap s.nodes → IsMap s'.nodes → IsAfter s s' id (flight pin next) books books'
      → DoesAs Granted same s s' id (flight pin call) env report out report.kind

  pub quiet_move : (written named : List ℕ) → IsPlaced t root → Effect t t' root (Holding call.stage) (λ p. p ≤ books.count) written named → SamePairs t t'
      → Facts Granted same t' root pin next → books.count ≤ books'.count → books'.entries ≡ books.entries
      → ((s : ℕ) → Holding next.stage s → Holding call.stage s ⊎ NewlyHeld t s) → ((s : ℕ) → IsIn s named → Holding next.stage s)
      → ((s : ℕ) → Holding call.stage s → Beside s written → Holding next.stage s) → IsCourse t t' root call env next report out → Does
      → ((m : Pairs M) → ContentAfter same m m (flight pin call) out) → IsMove Granted same t t' root pin books books' call env next report out
  quiet_move written named placed effect pairs facts counts entries holds now still course does quiet = record {
    facts = facts;
    counts = counts;
    others = effect.others;
    privates = effect.privates;
    holds = holds;
    holders = λ s need. elim (effect.needs s need) [
      | inl new ↦ inl (now s new)
      | inr old ↦ elim (holding_or call.stage s) [
        | inl mine ↦ inl (still s mine old.1)
        | inr other ↦ inr (old.0, other)
      ]
    ];
    course = course;
    does = does;
    carries = λ s s' shows shows' m content. record {
      content = m;
      content_is = content_same t t' root s s' placed effect.placed shows shows' pairs m content;
      carries = quiet m;
      counted = λ e. entries ∙ e;
    };
  }

-- an event that changes no node
module _ {M : Type 0} (t : NodeMap M) (root : ℕ) (placed : IsPlaced t root) where
  pub no_effect : (Mine May : ℕ → Type 0) → Effect t t root Mine May [] []
  no_effect Mine May = same_tree_effect t t root Mine May [] [] placed (λ s out. refl) tt tt tt

  pub same_pairs_here : SamePairs t t
  same_pairs_here k v = ((λ h. h), (λ h. h))
