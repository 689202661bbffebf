-- The nearest byte of a list, and of places, is that of the children.
use Rattle.std.proofs.Common.{◌≡◌, ℕ, zero, suc, ◌+◌, ◌-◌, ◌/◌, ◌%◌, ◌<◌, Bool, true, false, List, [], ◌∷◌, get_or, Some, None, ap, ◌∙◌, subst, arith, inl, inr}
use Rattle.std.proofs.lemmas.Bool.{cases_lt}
use Rattle.std.specs.Int.{bit_at}
use Rattle.spec_map.specs.Map.{lookup}
use Rattle.spec_map.proofs.JoinLaws.{lookup-above}
use Rattle.node_base.specs.inner.Marked.{mark_at}
use Rattle.live_layout.specs.Words.{at}
use Rattle.live_layout.specs.ListCells.{count, key, child, HasList}
use Rattle.live_layout.specs.PlaceCells.{mark, child_of, HasPlaces}
use Rattle.live_layout.proofs.ListLaws.{key-small}
use Rattle.live_layout.specs.Order.{IsNearest}
use Rattle.live_layout.specs.inner.Best.{turned, IsBest, IsMarked}

-- A LIST
module _ (room : ℕ) (c : List ℕ) (es : List (ℕ × ℕ)) (h : HasList room c es) (from : ℕ) (small : from < 256) where
  pub list_none : (up : Bool) → IsBest (λ j. turned up (key c j)) (turned up from) (count c) None → IsNearest up es from None
  list_none true b k f = h.free k (λ i l same. let x = b i l in omega (arith, x, same, f))
  list_none false b k f = h.free k (λ i l same. let x = b i l in let s = key-small h i l in omega (arith, x, s, same, f, small))

  pub list_some : (up : Bool) (e : ℕ × ℕ) (w : ℕ) → child room c e.1 ≡ w → IsBest (λ j. turned up (key c j)) (turned up from) (count c) (Some e) → IsNearest up es from (Some (turned up e.0, w))
  list_some true e w is b = (
    b.2,
    subst (λ (x : ℕ). lookup es x ≡ Some w) b.1 (h.each e.1 b.0 ∙ ap (λ (x : ℕ). Some x) is),
    λ k f less. h.free k (λ i l same. let x = b.3 i l (omega (arith, same, f)) in omega (arith, x, same, less)),
  )
  list_some false e w is b =
      let s = key-small h e.1 b.0 in
      let y = b.1 in
      let z = b.2 in
      let its : key c e.1 ≡ 255 - e.0 = omega (arith, s, y) in (
        omega (arith, s, y, z, small),
        subst (λ (x : ℕ). lookup es x ≡ Some w) its (h.each e.1 b.0 ∙ ap (λ (x : ℕ). Some x) is),
        λ k f less. h.free k (λ i l same. let t = key-small h i l in let x = b.3 i l (omega (arith, t, same, f, small)) in omega (arith, x, t, s, y, same, less)),
      )

-- PLACES
module _ (c : List ℕ) (a b d e : ℕ) (at-a : at c 2 ≡ a) (at-b : at c 3 ≡ b) (at-d : at c 4 ≡ d) (at-e : at c 5 ≡ e) where
  same-word : (j : ℕ) → j < 4 → at c (2 + j) ≡ get_or (a ∷ b ∷ d ∷ e ∷ []) j 0
  same-word zero l = at-a
  same-word (suc zero) l = at-b
  same-word (suc (suc zero)) l = at-d
  same-word (suc (suc (suc zero))) l = at-e
  same-word (suc (suc (suc (suc j)))) l = absurd (omega (arith, l))

  same-mark : (k : ℕ) → k < 256 → mark c k ≡ mark_at (a ∷ b ∷ d ∷ e ∷ []) k
  same-mark k l = ap (λ (w : ℕ). bit_at w (k % 64)) (same-word (k / 64) (omega (arith, l)))

  module _ (es : List (ℕ × ℕ)) (h : HasPlaces c es) (up : Bool) (from : ℕ) where
    unmarked : (k : ℕ) → mark_at (a ∷ b ∷ d ∷ e ∷ []) k ≡ 0 → lookup es k ≡ None
    unmarked k z =
        elim (cases_lt k 256) [
          | inl low ↦ h.free k low (same-mark k low ∙ z)
          | inr high ↦ lookup-above 0 256 es k h.ordered high
        ]

    pub places_none : IsMarked up (a ∷ b ∷ d ∷ e ∷ []) from None → IsNearest up es from None
    places_none m k f = unmarked k (m k f)

    pub places_some : (x w : ℕ) → x < 256 → child_of c x ≡ w → IsMarked up (a ∷ b ∷ d ∷ e ∷ []) from (Some x) → IsNearest up es from (Some (x, w))
    places_some x w low is m =
        (m.0, h.there x low (same-mark x low ∙ m.1) ∙ ap (λ (z : ℕ). Some z) is, λ k f less. unmarked k (m.2 k f less))
