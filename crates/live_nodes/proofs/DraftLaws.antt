-- A held node is looked at and written.
use Rattle.std.proofs.Common.{◌≡◌, ℕ, zero, suc, ◌+◌, ◌<◌, Bool, cond, nat_eq, List, [], ◌∷◌, length, get_or, set, Option, Some, sym, refl, ap, ◌∙◌, subst, arith, length-set, eq-eqb, ne_eqb, inl, inr}
use Rattle.std.proofs.lemmas.Bool.{cases_eq}
use Rattle.word_book.specs.Book.{Book, Name, reads, writes, none_joined}
use Rattle.live_nodes.specs.Nodes.{Content}
use Rattle.live_nodes.specs.Seats.{Place, Hold, hold, SeatView, seat_view, IsIn, with_draft}
use Rattle.live_nodes.specs.Plays.{hold_of, wrote, Looks, Writes}
use Rattle.live_nodes.specs.Calls.{HoldsCell}
use Rattle.live_nodes.specs.Rows.{nth, draft_of, undrafted, MayHold, without_draft}
use Rattle.live_nodes.proofs.ReadLaws.{cell_key}

-- the hold of a node is of its number
hold_number : (k : ℕ) (hs : List Hold) (h : Hold) → hold_of k hs ≡ Some h → h.number ≡ k
hold_number k [] h e = absurd (cc)
hold_number k (x ∷ xs) h e =
    elim (cases_eq k x.number) [
      | inl is ↦ (let same : x ≡ h = (let f = rw (eq-eqb k x.number is) at e in cc) in ap (λ (z : Hold). z.number) (sym same) ∙ sym is)
      | inr ne ↦ hold_number k xs h (rw (ne_eqb k x.number ne) at e)
    ]

-- where a draft was written
nth-drafted : (n k : ℕ) (d : Content) (hs : List Hold) (h : Hold) → nth n hs ≡ Some h → h.number ≡ k → nth n (with_draft k d hs) ≡ Some (hold k h.word d)
nth-drafted n k d [] h e m = absurd (cc)
nth-drafted zero k d (x ∷ xs) h e m =
    let same : x ≡ h = cc in
    ap (λ (z : Hold). Some (cond (nat_eq k z.number) (hold k z.word d) z)) same ∙ ap (λ (t : Bool). Some (cond t (hold k h.word d) h)) (eq-eqb k h.number (sym m))
nth-drafted (suc n) k d (x ∷ xs) h e m = nth-drafted n k d xs h e m

held-drafted : (k : ℕ) (d : Content) (hs : List Hold) (h : Hold) → hold_of k hs ≡ Some h → hold_of k (with_draft k d hs) ≡ Some (hold k h.word d)
held-drafted k d [] h e = absurd (cc)
held-drafted k d (x ∷ xs) h e =
    elim (cases_eq k x.number) [
      | inl is ↦ (let same : x ≡ h = (let f = rw (eq-eqb k x.number is) at e in cc) in rw (eq-eqb k x.number is, eq-eqb k k refl) (ap (λ (z : Hold). Some (hold k z.word d)) same))
      | inr ne ↦ rw (ne_eqb k x.number ne, ne_eqb k x.number ne) (held-drafted k d xs h (rw (ne_eqb k x.number ne) at e))
    ]

twice-drafted : (k : ℕ) (d d' : Content) (hs : List Hold) → with_draft k d' (with_draft k d hs) ≡ with_draft k d' hs
twice-drafted k d d' [] = refl
twice-drafted k d d' (x ∷ xs) =
    elim (cases_eq k x.number) [
      | inl is ↦ rw (eq-eqb k x.number is, eq-eqb k k refl) (ap (λ (hs : List Hold). hold k x.word d' ∷ hs) (twice-drafted k d d' xs))
      | inr ne ↦ rw (ne_eqb k x.number ne, ne_eqb k x.number ne) (ap (λ (hs : List Hold). x ∷ hs) (twice-drafted k d d' xs))
    ]

module _ {V : Type 0} (n : ℕ) (v : SeatView V) (words : List Name) (b : Book) (may : MayHold n words b v) (i : ℕ) (low : i + 1 < length words) (word : Name) (d : Name) (is : get_or words (i + 1) d ≡ word) where
  abbrev p : Place
  p = may.0

  abbrev h : Hold
  h = may.1

  within : i < p.len
  within = let l = may.3.0 in omega (arith, low, l)

  at_key : p.key + i + 1 ≡ word.key
  at_key = ap (λ (w : Name). w.key) (sym (cell_key p b words d i may.3 within) ∙ is)

  pub holds_cell : HoldsCell v word.key
  holds_cell = (p, i, (may.2, within, at_key), (h, may.5))

  pub found : (w : SeatView V) (m : ℕ) → Looks (reads word.key) v m none_joined w → m ≡ get_or (draft_of (nth n v.holds)) i 0
  found w m told = told.held p i h may.2 within at_key may.5 ∙ ap (λ (o : Option Hold). get_or (draft_of o) i 0) (sym may.4)

  module _ (w : SeatView V) (x : ℕ) (told : Writes (writes word.key x) v x none_joined w) where
    abbrev draft : Content
    draft = set h.draft i x

    now : w ≡ wrote v p.number draft
    now = told p i h may.2 within at_key may.5

    number : h.number ≡ p.number
    number = hold_number p.number v.holds h may.5

    holds_now : w.holds ≡ with_draft p.number draft v.holds
    holds_now = ap (λ (z : SeatView V). z.holds) now

    nth_now : nth n w.holds ≡ Some (hold p.number h.word draft)
    nth_now = ap (nth n) holds_now ∙ nth-drafted n p.number draft v.holds h may.4 number

    pub still_holds : MayHold n words b w
    still_holds = (
      p,
      hold p.number h.word draft,
      subst (λ (z : SeatView V). IsIn p z.places) (sym now) may.2,
      may.3,
      nth_now,
      ap (hold_of p.number) holds_now ∙ held-drafted p.number draft v.holds h may.5,
      length-set h.draft i x ∙ may.6,
    )

    pub words_now : draft_of (nth n w.holds) ≡ set (draft_of (nth n v.holds)) i x
    words_now = ap draft_of nth_now ∙ ap (λ (o : Option Hold). set (draft_of o) i x) (sym may.4)

    pub same_undrafted : without_draft n w ≡ without_draft n v
    same_undrafted =
        let before : undrafted (nth n v.holds) v.holds ≡ with_draft p.number [] v.holds = ap (λ (o : Option Hold). undrafted o v.holds) may.4 ∙ ap (λ (k : ℕ). with_draft k [] v.holds) number in
        let after : undrafted (nth n w.holds) w.holds ≡ with_draft p.number [] v.holds =
        ap (λ (o : Option Hold). undrafted o w.holds) nth_now ∙ ap (with_draft p.number []) holds_now ∙ twice-drafted p.number draft [] v.holds in
        ap (λ (hs : List Hold). seat_view w.client w.places w.reads hs w.room) (after ∙ sym before)
        ∙ ap (λ (z : SeatView V). seat_view z.client z.places z.reads (undrafted (nth n v.holds) v.holds) z.room) now

pub draft_low : {V : Type 0} (n : ℕ) (v : SeatView V) (words : List Name) (b : Book) (i : ℕ) → MayHold n words b v → i < length (draft_of (nth n v.holds)) → i + 1 < length words
draft_low n v words b i may low =
    let e = ap (λ (o : Option Hold). length (draft_of o)) may.4 in
    let l = may.3.0 in
    omega (arith, low, e, l, may.6)
