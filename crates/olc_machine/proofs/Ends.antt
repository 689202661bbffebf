-- How a call begins, and when it may end.
use Rattle.std.proofs.Common.{◌≡◌, ℕ, ◌<◌, ◌^◌, Bool, [], inl, inr, refl, sym, subst, ◌∙◌, arith}
use Rattle.spec_olc.specs.Calls.{key_of, outline_of}
use Rattle.spec_olc.specs.Kinds.{MayEnd, begun}
use Rattle.spec_olc.specs.declared.types.Op.{Op}
use Rattle.spec_olc.specs.declared.types.Op.TheVariants.{Range}
use Rattle.olc_state.specs.declared.scan.Scan.TheVariants as scan
use Rattle.olc_state.specs.declared.stage.Record.{Record}
use Rattle.olc_state.specs.declared.stage.Stage.{Stage}
use Rattle.olc_state.specs.declared.stage.Stage.TheVariants.{Tail, Scan, Finish, Tidy}
use Rattle.olc_state.specs.declared.stage.Task.{Task}
use Rattle.olc_state.specs.inner.Facts.{FactsAt}
use Rattle.olc_state.specs.inner.Scans.{BeginsAt, IsAtEnd}
use Rattle.olc_state.specs.inner.Shown.{flight, held_at, made_at}
use Rattle.olc_state.specs.inner.World.{NodeMap}
use Rattle.olc_state.proofs.Replies.{returned_first}
use Rattle.olc_state.proofs.Unlike.{refused_open}
use Rattle.olc_machine.specs.inner.Inside.{begun_task}

-- a call that begins holds no node, and neither does one at its end
pub begun_holds : {M : Type 0} (op : Op M) (at : Stage) → BeginsAt (outline_of op) at → held_at at ≡ []
begun_holds (Range a b n) at first = elim first [
  | inl root ↦ subst (λ (s : Stage). held_at s ≡ []) (sym root) refl
  | inr over ↦ subst (λ (s : Stage). held_at s ≡ []) (sym over.0) refl
]
begun_holds op at first = subst (λ (s : Stage). held_at s ≡ []) (sym first) refl

pub end_holds : (at : Stage) → IsAtEnd at → (held_at at ≡ []) × (made_at at ≡ [])
end_holds (Tail tail) is = absurd is
end_holds (Tidy c x) is = absurd is
end_holds at is = (refl, refl)

module _ {M : Type 0} where
  abbrev pub begun_at : Op M → Stage → Record M
  begun_at op at = record { stage = at; task = begun_task op }

  pub flight_begun : (op : Op M) (at : Stage) (count : ℕ) → BeginsAt (outline_of op) at → flight count (begun_at op at) ≡ begun op count
  flight_begun (Range a b n) at count first = elim first [
    | inl root ↦ subst (λ (s : Stage). flight count (begun_at (Range a b n) s) ≡ begun (Range a b n) count) (sym root) refl
    | inr over ↦ subst (λ (s : Stage). flight count (begun_at (Range a b n) s) ≡ begun (Range a b n) count) (sym over.0) refl
  ]
  flight_begun op at count first = subst (λ (s : Stage). flight count (begun_at op s) ≡ begun op count) (sym first) refl

  module _ (Granted : Type 0) (same : M → M → Bool) (t : NodeMap M) (root pin : ℕ) where
    pub begun_facts : (op : Op M) (at : Stage) → key_of op < 2 ^ 64 → BeginsAt (outline_of op) at → FactsAt Granted same t root pin (begun_task op) at
    begun_facts (Range a b n) at least first = elim first [
      | inl top ↦
          subst (λ (s : Stage). FactsAt Granted same t root pin (begun_task (Range a b n)) s) (sym top)
          (record { start = a; end = b; limit = n; outline = refl; op = refl; undecided = refl; fresh = refl; order = omega arith; small = least; most = omega arith }, refl, refl)
      | inr over ↦ subst (λ (s : Stage). FactsAt Granted same t root pin (begun_task (Range a b n)) s) (sym over.0) (inr (refl, over.1, (Range a b n, refl, refl)))
    ]
    begun_facts op at least first =
        subst (λ (s : Stage). FactsAt Granted same t root pin (begun_task op) s) (sym first)
        (record { opened = record { undecided = refl; op = op; op_is = refl; outline = refl; point = tt; returned = returned_first op }; fresh = refl }, refl)

    -- a call at its end may end, by what it knows
    pub end_may : (task : Task M) (at : Stage) → IsAtEnd at → FactsAt Granted same t root pin task at → MayEnd (flight pin (record { stage = at; task = task }))
    end_may task Finish is f = inl (f, refl)
    end_may task (Scan course scan.Finish) is f = elim f [
      | inl refused ↦ inl ((λ e. refused_open (sym refused ∙ e)), refl)
      | inr all ↦ inr all.1
    ]
    end_may task at is f = absurd is
