-- A node that is held last, whatever else the seat has to itself.
use Rattle.std.proofs.Common.{◌≡◌, ℕ, ◌+◌, Bool, cond, List, [], ◌∷◌, length, Some, refl, sym, ap, ◌∙◌, subst, eq-eqb}
use Rattle.word_book.specs.Book.{Book, Name, writes, none_joined}
use Rattle.live_nodes.specs.Nodes.{Content}
use Rattle.live_nodes.specs.Seats.{Place, Hold, hold, SeatView, seat_view, IsIn, without}
use Rattle.live_nodes.specs.Acts as acts
use Rattle.live_nodes.specs.Plays as plays
use Rattle.live_nodes.specs.Plays.{hold_of}
use Rattle.live_nodes.specs.Calls.{MayFree}
use Rattle.live_nodes.specs.Rows.{AreOf, nth, draft_of, undrafted, MayHold, without_draft}
use Rattle.live_nodes.specs.Levels.{Spot, place_at}
use Rattle.live_nodes.specs.Views.{View}
use Rattle.live_nodes.specs.Tree.{IsMap}
use Rattle.live_growth.specs.Holds.{HoldsOne}
use Rattle.live_growth.proofs.Locks.{hold_head, one_drafted}

abbrev Seen : Type 0
Seen = SeatView View

pub record Grips (v : Seen) (b : Book) (words : List Name) (free : ℕ) (p : Place) (d : Content) : Type 0 where
  pub holds : v.holds ≡ hold p.number (free + 2) d ∷ []
  pub placed : IsIn (p) v.places
  pub are : AreOf (p) b words

module _ (v : Seen) (b : Book) (words : List Name) (free : ℕ) (p : Place) (d : Content) (h : Grips v b words free p d) where
  its_hold : hold_of p.number v.holds ≡ Some (hold p.number (free + 2) d)
  its_hold = ap (hold_of p.number) h.holds ∙ hold_head p.number (free + 2) d []

  pub grip_holds : length d ≡ p.len → MayHold 0 words b v
  grip_holds long = (p, hold p.number (free + 2) d, h.placed, h.are, ap (nth 0) h.holds, its_hold, long)

  pub grip_draft : draft_of (nth 0 v.holds) ≡ d
  grip_draft = ap (λ (hs : List Hold). draft_of (nth 0 hs)) h.holds

  module _ (k : ℕ) (at_k : p.key ≡ k) (told : View → ℕ → Content → View → Type 0) where
    pub grip_frees : (id x : ℕ) → acts.Frees IsMap id v.client p.number x d (told v.client p.number d) → MayFree v k IsMap id told (free + 2) x
    grip_frees id x frees = (p, hold p.number (free + 2) d, (h.placed, at_k), its_hold, refl, frees)

    pub grip_freed : (w : Seen) (x : ℕ) → plays.Frees told (writes k x) v x none_joined w → (e : View) × (w ≡ seat_view e v.places v.reads [] v.room) × told v.client p.number d e
    grip_freed w x t =
        let s = t (p) (hold p.number (free + 2) d) h.placed at_k its_hold in
        let none : without p.number v.holds ≡ [] = ap (without p.number) h.holds ∙ ap (λ (z : Bool). cond z [] (hold p.number (free + 2) d ∷ [])) (eq-eqb p.number p.number refl) in
        (s.0, s.1 ∙ ap (λ (hs : List Hold). seat_view s.0 v.places v.reads hs v.room) none, s.2)

  pub grip_wrote : (w : Seen) → without_draft 0 w ≡ without_draft 0 v → Grips w b words free p (draft_of (nth 0 w.holds))
  grip_wrote w e =
      let before : undrafted (nth 0 v.holds) v.holds ≡ hold p.number (free + 2) [] ∷ [] =
      ap (λ (hs : List Hold). undrafted (nth 0 hs) hs) h.holds ∙ ap (λ (z : Bool). cond z (hold p.number (free + 2) []) (hold p.number (free + 2) d) ∷ []) (eq-eqb p.number p.number refl) in
      record {
        holds = one_drafted w.holds p.number (free + 2) (ap (λ (z : Seen). z.holds) e ∙ before);
        placed = subst (λ (ps : List Place). IsIn (p) ps) (sym (ap (λ (z : Seen). z.places) e)) h.placed;
        are = h.are;
      }

pub grips_one : (v : Seen) (b : Book) (words : List Name) (free : ℕ) (a : Spot) (c d : Content) → HoldsOne v b words free a c d → Grips v b words free (place_at a) d
grips_one v b words free a c d h = record { holds = h.holds; placed = h.placed; are = h.are }
