-- A node that was locked before the last one stays where that one is written.
use Rattle.std.proofs.Common.{◌≡◌, ℕ, zero, suc, Bool, cond, nat_eq, List, [], ◌∷◌, Option, Some, None, refl, sym, ap, ◌∙◌, subst, eq-eqb, ne_eqb, inl, inr}
use mathlib.Core.Logic.{dite}
use native.Mathlib.Decide.{ℕ_discrete}
use Rattle.std.proofs.lemmas.Bool.{cases_eq}
use Rattle.word_book.specs.Book.{Book, Name}
use Rattle.word_segments.specs.Segments.{AreWords}
use Rattle.live_nodes.specs.Seats.{Place, Hold, hold, SeatView, IsIn, with_draft}
use Rattle.live_nodes.specs.Plays.{hold_of}
use Rattle.live_nodes.specs.Rows.{nth, draft_of, undrafted, MayHold}
use Rattle.live_nodes.specs.Views.{View}
use Rattle.live_growth.specs.Holds.{number_at, IsBeside}
use Rattle.live_growth.proofs.Again.{first_hold, rest_holds, no_holds, undrafted_head}

abbrev Seen : Type 0
Seen = SeatView View

numbers_drafted : (n k : ℕ) (hs : List Hold) → number_at n (with_draft k [] hs) ≡ number_at n hs
numbers_drafted n k [] = refl
numbers_drafted zero k (h ∷ hs) = dite (ℕ_discrete k h.number)
    (λ e. ap (λ (t : Bool). (cond t (hold k h.word []) h).number) (eq-eqb k h.number e) ∙ e)
    (λ ne. ap (λ (t : Bool). (cond t (hold k h.word []) h).number) (ne_eqb k h.number ne))
numbers_drafted (suc n) k (h ∷ hs) = numbers_drafted n k hs

pub numbers_undrafted : (n : ℕ) (o : Option Hold) (hs : List Hold) → number_at n (undrafted o hs) ≡ number_at n hs
numbers_undrafted n None hs = refl
numbers_undrafted n (Some h) hs = numbers_drafted n h.number hs

pub numbers_same : (n : ℕ) (o o' : Option Hold) (xs hs : List Hold) → undrafted o xs ≡ undrafted o' hs → number_at n xs ≡ number_at n hs
numbers_same n o o' xs hs e = sym (numbers_undrafted n o xs) ∙ (ap (number_at n) e ∙ numbers_undrafted n o' hs)

pub beside_kept : (o o' : Option Hold) (xs hs : List Hold) → undrafted o xs ≡ undrafted o' hs → IsBeside hs → IsBeside xs
beside_kept o o' xs hs e ne s = ne (sym (numbers_same 1 o o' xs hs e) ∙ (s ∙ numbers_same 0 o o' xs hs e))

hold_of_number : (k : ℕ) (hs : List Hold) (h : Hold) → hold_of k hs ≡ Some h → h.number ≡ k
hold_of_number k [] h e = absurd (cc)
hold_of_number k (x ∷ xs) h e =
    elim (cases_eq k x.number) [
      | inl is ↦ (let same : x ≡ h = (let f = rw (eq-eqb k x.number is) at e in cc) in ap (λ (z : Hold). z.number) (sym same) ∙ sym is)
      | inr ne ↦ hold_of_number k xs h (rw (ne_eqb k x.number ne) at e)
    ]

some_hold : (a b : Hold) → Some a ≡ Some b → a ≡ b
some_hold a b e = cc

no_hold : (h : Hold) → None ≡ Some h → ⊥
no_hold h e = cc

second_stays : (xs hs : List Hold) (h : Hold) → nth 1 hs ≡ Some h → IsBeside hs → undrafted (nth 0 xs) xs ≡ undrafted (nth 0 hs) hs → nth 1 xs ≡ Some h
second_stays xs [] h e ne same = absurd (no_hold h e)
second_stays xs (a ∷ []) h e ne same = absurd (no_hold h e)
second_stays [] (a ∷ b ∷ hs) h e ne same = absurd (no_holds (cond (nat_eq a.number a.number) (hold a.number a.word []) a) (with_draft a.number [] (b ∷ hs)) same)
second_stays (x ∷ []) (a ∷ b ∷ hs) h e ne same = absurd (no_holds (cond (nat_eq a.number b.number) (hold a.number b.word []) b) (with_draft a.number [] hs) (ap rest_holds same))
second_stays (x ∷ y ∷ ys) (a ∷ b ∷ hs) h e ne same =
    let number : x.number ≡ a.number = numbers_same 0 (Some x) (Some a) (x ∷ y ∷ ys) (a ∷ b ∷ hs) same in
    let other : cond (nat_eq a.number b.number) (hold a.number b.word []) b ≡ b = ap (λ (t : Bool). cond t (hold a.number b.word []) b) (ne_eqb a.number b.number (λ s. ne (sym s))) in
    let second : cond (nat_eq x.number y.number) (hold x.number y.word []) y ≡ b = ap (λ (z : List Hold). first_hold (rest_holds z)) same ∙ other in
    ap (λ (z : Hold). Some z) (undrafted_head x.number y b (λ s. ne (s ∙ number)) second) ∙ e

second_found : (p : ℕ) (hs : List Hold) (h : Hold) → nth 1 hs ≡ Some h → IsBeside hs → h.number ≡ p → hold_of p hs ≡ Some h
second_found p [] h e ne is = absurd (no_hold h e)
second_found p (a ∷ []) h e ne is = absurd (no_hold h e)
second_found p (a ∷ b ∷ hs) h e ne is =
    let number : p ≡ b.number = sym is ∙ ap (λ (z : Hold). z.number) (sym (some_hold b h e)) in
    ap (λ (t : Bool). cond t (Some a) (hold_of p (b ∷ hs))) (ne_eqb p a.number (λ s. ne (sym number ∙ s))) ∙ (ap (λ (t : Bool). cond t (Some b) (hold_of p hs)) (eq-eqb p b.number number) ∙ e)

pub source_apart : (words : List Name) (b b' : Book) (v w : Seen) → b' ≡ b → w.places ≡ v.places → undrafted (nth 0 w.holds) w.holds ≡ undrafted (nth 0 v.holds) v.holds → MayHold 1 words b v × IsBeside v.holds
    → (MayHold 1 words b' w × IsBeside w.holds) × (draft_of (nth 1 w.holds) ≡ draft_of (nth 1 v.holds))
source_apart words b b' v w book places same may =
    let m = may.0 in
    let h = m.1 in
    let beside = beside_kept (nth 0 w.holds) (nth 0 v.holds) w.holds v.holds same may.1 in
    let there = second_stays w.holds v.holds h m.4 may.1 same in (
      (
        (
          m.0,
          h,
          subst (λ (ps : List Place). IsIn m.0 ps) (sym places) m.2,
          (m.3.0, subst (λ z. AreWords m.0.key z words) (sym book) m.3.1),
          there,
          second_found m.0.number w.holds h there beside (hold_of_number m.0.number v.holds h m.5),
          m.6,
        ),
        beside,
      ),
      ap draft_of (there ∙ sym m.4),
    )
