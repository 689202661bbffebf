-- Two seats meet, and the rule is kept.
use Rattle.std.proofs.Common.{ℕ, List, map, set, sym, refl, subst}
use lib.Seq.{map-set}
use Rattle.word_book.specs.Book.{Meets}
use Rattle.live_nodes.specs.Nodes.{Node}
use Rattle.live_nodes.specs.Seats.{SeatView}
use Rattle.live_nodes.specs.Rule.{Knows, RoomFits, client, IsLive}
use Rattle.live_nodes.specs.Acts as acts
use Rattle.live_nodes.specs.Plays as plays
use Rattle.live_nodes.proofs.Steps.{seats_stay, client_at, agreed_with}

module _ {V : Type 0} (root : ℕ) (P : List Node → List V → Type 0) where
  abbrev View : Type 0
  View = SeatView V

  pub may_meet : (i j : ℕ) (v w : View) (told : V → V → V → V → Type 0) → acts.Meets P i v.client j w.client (told v.client w.client) → Meets (IsLive root P) (plays.Meets told) i v j w
  may_meet i j v w told law s r first second ne =
      let m = law r.nodes (map client s.views) r.agreed (client_at root P s i v first) (client_at root P s j w second) ne in
      let v' : View = plays.met v m.0 in
      let w' : View = plays.met w m.1 in
      let vs : List View = set s.views j w' in
      let a : Knows r.nodes r.drafts i v' = let k = r.each_seat i v first in record { places = k.places; reads = k.reads; holds = k.holds } in
      let b : Knows r.nodes r.drafts j w' = let k = r.each_seat j w second in record { places = k.places; reads = k.reads; holds = k.holds } in (
        v',
        w',
        record {
          nodes = r.nodes;
          drafts = r.drafts;
          owner = r.owner;
          counted = r.counted;
          long = r.long;
          rooted = r.rooted;
          each_node = r.each_node;
          each_seat = seats_stay root P (Knows r.nodes r.drafts) vs i v' a (λ k d _ e. seats_stay root P (Knows r.nodes r.drafts) s.views j w' b (λ l x _ h. r.each_seat l x h) k d e);
          each_room = seats_stay root P (λ k d. RoomFits r.owner s.words k d.room) vs i v' (r.each_room i v first)
              (λ k d _ e. seats_stay root P (λ l x. RoomFits r.owner s.words l x.room) s.views j w' (r.each_room j w second) (λ l x _ h. r.each_room l x h) k d e);
          agreed = agreed_with root P r.nodes vs i v' (subst (λ (l : List V). P r.nodes (set l i m.0)) (sym (map-set client s.views j w')) m.2);
        },
        (m.0, m.1, refl, refl, m.3),
      )
