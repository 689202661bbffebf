-- Two seats tell each other where nodes are, and the rule is kept: what a seat has met is so for each.
use Rattle.std.proofs.Common.{◌≡◌, ⊎_elim, ℕ, List, length-set, map, set, sym, refl, ap, ◌∙◌, subst, arith}
use mathlib.Core.Option.{some}
use lib.ListN.{get_elem?}
use lib.Seq.{map-set}
use Rattle.atomic_table.proofs.Lists.{at_set}
use Rattle.word_book.specs.Book.{Meets}
use Rattle.live_nodes.specs.Nodes.{Node}
use Rattle.live_nodes.specs.Seats.{SeatView}
use Rattle.live_nodes.specs.Rule.{PlaceFits, Knows, RoomFits, client, IsLive}
use Rattle.live_nodes.proofs.Frames.{each_both}
use Rattle.live_nodes.proofs.Steps.{seats_stay, client_at}
use Rattle.live_nodes.specs.Views.{View}
use Rattle.live_nodes.specs.Tree.{IsMet, Knows as KnowsMap, IsMap}
use Rattle.live_pool.specs.Successions.{learned, informed, Informs}

told : (i j : ℕ) (v w : View) (ns : List Node) (vs : List View) → IsMap ns vs → get_elem? vs i ≡ some v → get_elem? vs j ≡ some w → IsMap ns (set (set vs j (learned w v)) i (learned v w))
told i j v w ns vs p first second =
    let a = p.each_view i v first in
    let b = p.each_view j w second in
    let us : List View = set vs j (learned w v) in record {
      plan = p.plan;
      contents = p.contents;
      history = p.history;
      pairs = p.pairs;
      legal = p.legal;
      nodes = p.nodes;
      settled = p.settled;
      alive = p.alive;
      tree = p.tree;
      each_view = λ k u e. ⊎_elim
          (λ t. subst (λ (x : ℕ × View). KnowsMap p.plan ns p.contents p.history x.0 x.1) (λ z. (sym t.0 z, t.1 z)) record { seen = a.seen; met = each_both (IsMet p.plan ns) w.met v.met b.met a.met; own = a.own; watched = a.watched })
          (λ t. ⊎_elim
          (λ q. subst (λ (x : ℕ × View). KnowsMap p.plan ns p.contents p.history x.0 x.1) (λ z. (sym q.0 z, q.1 z)) record { seen = b.seen; met = each_both (IsMet p.plan ns) v.met w.met a.met b.met; own = b.own; watched = b.watched })
          (λ q. p.each_view k u q.1)
          (at_set vs j k (learned w v) u t.1))
          (at_set us i k (learned v w) u e);
      unborn = λ k l. p.unborn k (let m = length-set us i (learned v w) in let n = length-set vs j (learned w v) in omega (arith, l, m, n));
    }

pub may_inform : (root i j : ℕ) (v w : SeatView View) → Meets (IsLive root IsMap) Informs i v j w
may_inform root i j v w s r first second ne =
    let v' : SeatView View = informed v w in
    let w' : SeatView View = informed w v in
    let vs : List (SeatView View) = set s.views j w' in
    let x = r.each_seat i v first in
    let y = r.each_seat j w second in
    let a : Knows r.nodes r.drafts i v' = record { places = each_both (PlaceFits r.nodes) w.places v.places y.places x.places; reads = x.reads; holds = x.holds } in
    let b : Knows r.nodes r.drafts j w' = record { places = each_both (PlaceFits r.nodes) v.places w.places x.places y.places; reads = y.reads; holds = y.holds } in
    let clients : map client (set vs i v') ≡ set (set (map client s.views) j w'.client) i v'.client = map-set client vs i v' ∙ ap (λ (l : List View). set l i v'.client) (map-set client s.views j w') in (
      v',
      w',
      record {
        nodes = r.nodes;
        drafts = r.drafts;
        owner = r.owner;
        counted = r.counted;
        long = r.long;
        rooted = r.rooted;
        each_node = r.each_node;
        each_seat = seats_stay root IsMap (Knows r.nodes r.drafts) vs i v' a (λ k d _ e. seats_stay root IsMap (Knows r.nodes r.drafts) s.views j w' b (λ l u _ h. r.each_seat l u h) k d e);
        each_room = seats_stay root IsMap (λ k d. RoomFits r.owner s.words k d.room) vs i v' (r.each_room i v first)
            (λ k d _ e. seats_stay root IsMap (λ l u. RoomFits r.owner s.words l u.room) s.views j w' (r.each_room j w second) (λ l u _ h. r.each_room l u h) k d e);
        agreed = subst (IsMap r.nodes) (sym clients) (told i j v.client w.client r.nodes (map client s.views) r.agreed (client_at root IsMap s i v first) (client_at root IsMap s j w second));
      },
      (refl, refl),
    )
