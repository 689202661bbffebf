-- A node and the one above it stay held while a third one is locked.
use Rattle.std.proofs.Common.{◌≡◌, ℕ, List, [], ◌∷◌, refl, ap, ◌∙◌, subst, sym}
use Rattle.node_base.specs.declared.base_node.NodeType.{NodeType}
use Rattle.word_book.specs.Book.{Book, Name}
use Rattle.live_nodes.specs.Nodes.{Content}
use Rattle.live_nodes.specs.Seats.{Place, SeatView, IsIn}
use Rattle.live_nodes.specs.Levels.{Spot}
use Rattle.live_nodes.specs.Views.{View, Own, locked, detached}
use Rattle.live_growth.specs.Holds.{Alike, HasRest}
use Rattle.live_growth.specs.Rooms.{HasGrown}
use Rattle.live_reads.specs.declared.descend.Position.{Position}
use Rattle.live_growth.proofs.Triples.{Triple, triple_reclaimed}
use Rattle.live_growth.specs.Two.{HoldsTwo, LeadsTwo}
use Rattle.live_growth.specs.Three.{HasThree}
use Rattle.live_growth.proofs.Twos.{as_pair, held_on}

abbrev Seen : Type 0
Seen = SeatView View

module _ (v w : Seen) (b b' : Book) (words words_above : List Name) (free free_above : ℕ) (places : w.places ≡ v.places) (holds : w.holds ≡ v.holds) (client : w.client ≡ v.client) (same : b' ≡ b) where
  abbrev pub two_on : HoldsTwo v b words words_above free free_above → HoldsTwo w b' words words_above free free_above
  two_on h = record {
    below = h.below;
    above = h.above;
    content = h.content;
    content_above = h.content_above;
    own = ap (λ (z : View). z.own) client ∙ h.own;
    holds = holds ∙ h.holds;
    apart = h.apart;
    held = held_on v w b b' words free h.below h.content places same h.held;
    held_above = held_on v w b b' words_above free_above h.above h.content_above places same h.held_above;
  }

  abbrev pub lead_on : (s : Position) (key : ℕ) → LeadsTwo v b words words_above free free_above s key → LeadsTwo w b' words words_above free free_above s key
  lead_on s key l = record {
    two = two_on l.two;
    named = l.named;
    named_above = l.named_above;
    high = l.high;
    high_above = l.high_above;
    covers = l.covers;
    covers_above = l.covers_above;
    leads = l.leads;
  }

-- what the seat has to itself, and holds
module _ {asks : NodeType → NodeType → Content → Type 0} {v : Seen} {b : Book} {words words_above others : List Name} {free free_above back spare : ℕ} {s : Position} {key : ℕ} (h : HasThree asks v b words words_above others free free_above back spare s key) where
  pub three_own : v.client.own ≡ detached h.reclaimed.spot ∷ locked h.lead.two.below h.lead.two.content ∷ locked h.lead.two.above h.lead.two.content_above ∷ []
  three_own = h.reclaimed.own ∙ ap (λ (os : List Own). detached h.reclaimed.spot ∷ os) h.lead.two.own

  pub as_triple : Triple v b others words words_above back free free_above h.reclaimed.spot h.lead.two.below h.lead.two.above h.reclaimed.content h.lead.two.content h.lead.two.content_above
  as_triple =
      let two = h.lead.two in
      triple_reclaimed h.before v b b others words words_above back free free_above spare h.reclaimed two.below two.above two.content two.content_above two.content two.content_above refl (as_pair two) two.own h.are

-- The seat has nothing to itself any more, and knows as much as before.
pub rest_grown : (v w z : Seen) → Alike v w → w.client.seen ≡ v.client.seen → HasRest w z → z.client.seen ≡ w.client.seen → HasGrown v z
rest_grown v w z alike seen rest last = record {
  own = rest.own;
  holds = rest.holds;
  places = λ p i. subst (λ (ps : List Place). IsIn p ps) (sym (rest.alike.places ∙ alike.places)) i;
  met = λ a i. subst (λ (l : List Spot). IsIn a l) (sym (rest.alike.met ∙ alike.met)) i;
  seen = last ∙ seen;
}

-- It knows more, and has nothing to itself.
pub alike_grown : (v w z : Seen) → Alike v w → w.client.seen ≡ v.client.seen → HasGrown w z → HasGrown v z
alike_grown v w z alike seen g = record {
  own = g.own;
  holds = g.holds;
  places = λ p i. g.places p (subst (λ (ps : List Place). IsIn p ps) (sym alike.places) i);
  met = λ a i. g.met a (subst (λ (l : List Spot). IsIn a l) (sym alike.met) i);
  seen = g.seen ∙ seen;
}
