-- A node and the one above it are held.
use Rattle.std.proofs.Common.{◌≡◌, ℕ, ◌+◌, Bool, cond, List, [], ◌∷◌, length, Some, refl, sym, ap, ◌∙◌, subst, eq-eqb, ne_eqb}
use Rattle.word_book.specs.Book.{Book, Name, writes, none_joined}
use Rattle.live_nodes.specs.Nodes.{Content}
use Rattle.live_nodes.specs.Seats.{Place, Hold, hold, SeatView, seat_view, IsIn, without}
use Rattle.live_nodes.specs.Acts as acts
use Rattle.live_nodes.specs.Plays as plays
use Rattle.live_nodes.specs.Plays.{hold_of}
use Rattle.live_nodes.specs.Calls.{MayFree}
use Rattle.live_nodes.specs.Rows.{AreOf, nth, draft_of, MayHold, without_draft}
use Rattle.node_base.specs.declared.base_node.NodeType.{NodeType}
use Rattle.live_layout.specs.Encodes.{words_of}
use Rattle.live_nodes.specs.Levels.{Spot, place_at}
use Rattle.live_nodes.specs.Views.{View}
use Rattle.live_nodes.specs.Tree.{IsMap}
use Rattle.live_reads.specs.Paths.{AreNamed}
use Rattle.live_growth.specs.Holds.{Alike, HasLocked}
use Rattle.live_growth.proofs.Locks.{hold_head}
use Rattle.live_growth.proofs.Pairs.{Pair, pair_first, pair_second, first_draft, second_draft}
use Rattle.live_growth.specs.Two.{IsHeld, HoldsTwo}

abbrev Seen : Type 0
Seen = SeatView View

module _ {v : Seen} {b : Book} {words words_above : List Name} {free free_above : ℕ} (h : HoldsTwo v b words words_above free free_above) where
  pub as_pair : Pair v b words words_above free free_above h.below (place_at h.above) h.content h.content_above
  as_pair = record {
    holds = h.holds;
    apart = h.apart;
    placed_x = h.held.placed;
    placed_p = h.held_above.placed;
    are_x = h.held.are;
    are_p = h.held_above.are;
  }

  -- each may be read and written
  pub lower_may : MayHold 0 words b v
  lower_may = pair_first v b words words_above free free_above h.below (place_at h.above) h.content h.content_above as_pair h.held.long

  pub lower_draft : draft_of (nth 0 v.holds) ≡ h.content
  lower_draft = first_draft v b words words_above free free_above h.below (place_at h.above) h.content h.content_above as_pair

  pub lower_long : (form : NodeType) → form ≡ h.below.shape.form → length (draft_of (nth 0 v.holds)) ≡ words_of form
  lower_long form is = ap (λ (z : Content). length z) lower_draft ∙ (h.held.long ∙ ap words_of (sym is))

  pub upper_may : MayHold 1 words_above b v
  upper_may = pair_second v b words words_above free free_above h.below (place_at h.above) h.content h.content_above as_pair h.held_above.long

  pub upper_draft : draft_of (nth 1 v.holds) ≡ h.content_above
  upper_draft = second_draft v b words words_above free free_above h.below (place_at h.above) h.content h.content_above as_pair

  pub upper_long : (form : NodeType) → form ≡ h.above.shape.form → length (draft_of (nth 1 v.holds)) ≡ words_of form
  upper_long form is = ap (λ (z : Content). length z) upper_draft ∙ (h.held_above.long ∙ ap words_of (sym is))

  hold_first : hold_of h.below.number v.holds ≡ Some (hold h.below.number (free + 2) h.content)
  hold_first = ap (hold_of h.below.number) h.holds ∙ hold_head h.below.number (free + 2) h.content (hold h.above.number (free_above + 2) h.content_above ∷ [])

  -- the lower one is freed
  module _ (k : ℕ) (at_k : h.below.shape.key ≡ k) (told : View → ℕ → Content → View → Type 0) where
    pub first_frees : (id n : ℕ) → acts.Frees IsMap id v.client h.below.number n h.content (told v.client h.below.number h.content) → MayFree v k IsMap id told (free + 2) n
    first_frees id n frees = (place_at h.below, hold h.below.number (free + 2) h.content, (h.held.placed, at_k), hold_first, refl, frees)

    pub first_freed : (w : Seen) (n : ℕ) → plays.Frees told (writes k n) v n none_joined w → (e : View) × (w ≡ seat_view e v.places v.reads (hold h.above.number (free_above + 2) h.content_above ∷ []) v.room) × told v.client h.below.number h.content e
    first_freed w n t =
        let s = t (place_at h.below) (hold h.below.number (free + 2) h.content) h.held.placed at_k hold_first in
        let left : without h.below.number v.holds ≡ hold h.above.number (free_above + 2) h.content_above ∷ [] = ap (without h.below.number) h.holds
        ∙ (ap (λ (z : Bool). cond z (without h.below.number (hold h.above.number (free_above + 2) h.content_above ∷ [])) (hold h.below.number (free + 2) h.content ∷ without h.below.number (hold h.above.number (free_above + 2) h.content_above ∷ []))) (eq-eqb h.below.number h.below.number refl)
        ∙ ap (λ (z : Bool). cond z [] (hold h.above.number (free_above + 2) h.content_above ∷ [])) (ne_eqb h.below.number h.above.number (λ s. h.apart (sym s)))) in
        (s.0, s.1 ∙ ap (λ (hs : List Hold). seat_view s.0 v.places v.reads hs v.room) left, s.2)

-- one that was locked
pub is_held : (v w : Seen) (name key height free : ℕ) (h : HasLocked v w name key height free) (b : Book) (words : List Name) → AreNamed b name words → IsHeld w b words free h.names.spot h.content
is_held v w name key height free h b words are = record {
  placed = subst (λ (ps : List Place). IsIn (place_at h.names.spot) ps) (sym h.alike.places) h.names.placed;
  are = are h.names.spot h.names.named;
  its = h.its;
  encodes = h.encodes;
  in_form = h.in_form;
  long = h.long;
  even = h.even;
  small = h.small;
}

pub held_on : (v w : Seen) (b b' : Book) (words : List Name) (free : ℕ) (a : Spot) (c : Content) → w.places ≡ v.places → b' ≡ b → IsHeld v b words free a c → IsHeld w b' words free a c
held_on v w b b' words free a c places same h = record {
  placed = subst (λ (ps : List Place). IsIn (place_at a) ps) (sym places) h.placed;
  are = subst (λ (z : Book). AreOf (place_at a) z words) (sym same) h.are;
  its = h.its;
  encodes = h.encodes;
  in_form = h.in_form;
  long = h.long;
  even = h.even;
  small = h.small;
}

-- THE SEAT KNOWS THE SAME where nothing happened, something was written, or a node was unlocked.
pub alike_same : (v w : Seen) → w ≡ v → Alike v w
alike_same v w e = record { places = ap (λ (z : Seen). z.places) e; met = ap (λ (z : Seen). z.client.met) e; room = ap (λ (z : Seen). z.room) e }

pub alike_wrote : (n : ℕ) (v w : Seen) → without_draft n w ≡ without_draft n v → Alike v w
alike_wrote n v w e = record { places = ap (λ (z : Seen). z.places) e; met = ap (λ (z : Seen). z.client.met) e; room = ap (λ (z : Seen). z.room) e }

pub alike_freed : (v w : Seen) (e : View) (hs : List Hold) → w ≡ seat_view e v.places v.reads hs v.room → e.met ≡ v.client.met → Alike v w
alike_freed v w e hs is met = record { places = ap (λ (z : Seen). z.places) is; met = ap (λ (z : Seen). z.client.met) is ∙ met; room = ap (λ (z : Seen). z.room) is }
