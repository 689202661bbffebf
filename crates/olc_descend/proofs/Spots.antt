-- The words that the stages of a call remember.
use Rattle.std.proofs.Common.{◌≡◌, ◌≢◌, ℕ, List, [], Some, ◌⊎◌, inl, inr, sym, subst, ap, ◌∙◌}
use Rattle.std.proofs.lemmas.Bool.Decides.{eqb_tells}
use Rattle.spec_map.proofs.MapLaws.{lookup-put_same, lookup-put_other}
use Rattle.spec_map.specs.Map.{lookup, put}
use Rattle.olc_state.specs.declared.stage.Path.{Path}
use Rattle.olc_state.specs.declared.stage.Spot.{Spot}
use Rattle.olc_state.specs.inner.Tails.{above_spots, path_spots}
use Rattle.olc_state.proofs.Options.{none_some, some_same}
use Rattle.olc_descend.proofs.Events.{Within}

-- a word that is remembered is the one that was put there, or was remembered before
pub put_known : (remembered : List (ℕ × ℕ)) (slot word other w : ℕ) → lookup (put remembered slot word) other ≡ Some w → ((slot ≡ other) × (word ≡ w)) ⊎ (lookup remembered other ≡ Some w)
put_known remembered slot word other w h =
    elim (eqb_tells slot other) [
      | inl e ↦
          let there : lookup (put remembered slot word) other ≡ Some word = subst (λ (z : ℕ). lookup (put remembered slot word) z ≡ Some word) e.1 (lookup-put_same remembered slot word) in
          inl (e.1, some_same word w (sym there ∙ h))
      | inr e ↦ inr (sym (lookup-put_other remembered slot word other (λ (q : other ≡ slot). e.1 (sym q))) ∙ h)
    ]

-- the current node is remembered
pub here_known : (path : Path) → lookup (path_spots path) path.here.slot ≡ Some path.here.word
here_known path = lookup-put_same (above_spots path.above) path.here.slot path.here.word

-- also while another one, to which it led, is remembered, too
pub above_known : (path : Path) (below : Spot) → below.slot ≢ path.here.slot → lookup (put (path_spots path) below.slot below.word) path.here.slot ≡ Some path.here.word
above_known path below other =
    lookup-put_other (path_spots path) below.slot below.word path.here.slot (λ (e : path.here.slot ≡ below.slot). other (sym e)) ∙ here_known path

-- a step down forgets the node above
pub step_down : (path : Path) (below : Spot) → Within (put (above_spots (Some path.here)) below.slot below.word) (put (path_spots path) below.slot below.word)
step_down path below slot word h =
    elim (eqb_tells below.slot slot) [
      | inl e ↦
          let now = subst (λ (z : ℕ). lookup (put (above_spots (Some path.here)) below.slot below.word) z ≡ Some below.word) e.1 (lookup-put_same (above_spots (Some path.here)) below.slot below.word) in
          let was = subst (λ (z : ℕ). lookup (put (path_spots path) below.slot below.word) z ≡ Some below.word) e.1 (lookup-put_same (path_spots path) below.slot below.word) in
          was ∙ (sym now ∙ h)
      | inr e ↦
          let far : slot ≢ below.slot = λ q. e.1 (sym q) in
          elim (put_known [] path.here.slot path.here.word slot word (sym (lookup-put_other (above_spots (Some path.here)) below.slot below.word slot far) ∙ h)) [
            | inl is ↦
                lookup-put_other (path_spots path) below.slot below.word slot far
                ∙ (subst (λ (z : ℕ). lookup (path_spots path) z ≡ Some path.here.word) is.0 (here_known path) ∙ ap Some is.1)
            | inr never ↦ absurd (none_some word never)
          ]
    ]
