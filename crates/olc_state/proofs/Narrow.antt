-- The slots of nodes are numbers of 64 bits.
use Rattle.std.proofs.Common.{◌≡◌, ℕ, ◌+◌, ◌<◌, ◌^◌, List, [], ◌∷◌, length, Option, Some, None, inl, inr, refl, sym, ◌∙◌, arith}
use Rattle.std.proofs.lemmas.Bool.{eq-eqb, cases_eq}
use Rattle.spec_map.specs.Map.{lookup, Rises, IsMap}
use Rattle.spec_map.proofs.MapLaws.{lookup-below, lookup-next}
use Rattle.spec_olc.specs.State as state
use Rattle.olc_state.specs.inner.Shown.{shown, state_of}
use Rattle.olc_state.specs.inner.World.{World, PlacedNode, table_of}
use Rattle.olc_state.proofs.Options.{none_some}
use Rattle.olc_state.proofs.States.{nodes_rise, shown_node}

module _ {V : Type 0} where
  -- an ascending list all of whose keys are below a number
  rises-below : (a b c : ℕ) (es : List (ℕ × V)) → Rises a b es → ((k : ℕ) (v : V) → lookup es k ≡ Some v → k < c) → Rises a c es
  rises-below a b c [] h below = tt
  rises-below a b c (e ∷ es) h below =
      let first : lookup (e ∷ es) e.0 ≡ Some e.1 = rw (eq-eqb e.0 e.0 refl) in (
        h.0,
        below e.0 e.1 first,
        rises-below (e.0 + 1) b c es h.2 (λ k v is.
            elim (cases_eq e.0 k) [
              | inl same ↦ absurd (none_some v (sym (lookup-below (e.0 + 1) b es k h.2 (omega arith)) ∙ is))
              | inr other ↦ below k v (lookup-next e es k other ∙ is)
            ]),
      )

module _ {X : Type 0} (w : World X) (narrow : (s : ℕ) (a : PlacedNode X) → table_of w s ≡ Some a → s < 2 ^ 64) where
  shown_below : (s : ℕ) (x : Option (PlacedNode X)) (b : state.VersionedNode X) → table_of w s ≡ x → shown x ≡ Some b → s < 2 ^ 64
  shown_below s None b e is = absurd (none_some b is)
  shown_below s (Some a) b e is = narrow s a e

  pub nodes_narrow : IsMap (state_of w).nodes
  nodes_narrow =
      rises-below 0 (length w.slots) (2 ^ 64) (state_of w).nodes (nodes_rise w) (λ s b is.
      shown_below s (table_of w s) b refl (sym (shown_node w s) ∙ is))
