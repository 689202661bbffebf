use Rattle.std.proofs.Common.{sym, ap, refl, arith, drop, List, ◌≡◌, ◌+◌, ◌/◌, ◌∙◌}
use Rattle.live_nodes.specs.Seats.{SeatView, Hold}
use Rattle.live_nodes.specs.Levels.{place_at}
use Rattle.live_nodes.specs.Views.{View}
use Rattle.live_nodes.specs.Tree.{StaysSame}
use Rattle.live_nodes.proofs.Writes.{node_stays}
use Rattle.live_reads.proofs.Views.{first_word}
use Rattle.live_growth.proofs.Again.{first_frees, first_freed}
use Rattle.live_copies.specs.inner.Locks.{own_of, holds_of}
use Rattle.live_copies.proofs.Locking.{beside}
use Rattle.live_copies.proofs.locks.unlock_one.Goals as goal
use Rattle.live_copies.proofs.locks.unlock_one.Goals.{After-index-words-0}

at_k : (c : After-index-words-0) → c.requires.top.1.spot.shape.key ≡ c.index-words-0.result.key
at_k c = (first_word (place_at c.requires.top.1.spot) c.args.seat.now.book c.args.words.now c.requires.top.1.is.are c.index-words-0.result c.index-words-0.result (sym c.index-words-0.is)).0

pub unlock-requires-clause-frees : goal.unlock-requires-clause-frees
unlock-requires-clause-frees c =
    let v = c.args.seat.now.view in
    let free = c.args.free in
    let t = c.requires.top.1 in
    let even = c.requires.word.0 in
    let stays = node_stays c.args.seat.now.id v.client t.spot t.content (own_of t.grips) t.own t.is.apart (free + 4) (free / 4 + 1) (omega (arith, even)) t.content refl in
    first_frees v t.spot free t.content (holds_of t.grips) t.holds t.is.placed c.index-words-0.result.key (at_k (goal.at.unlock-requires-clause-frees c).After-index-words-0) StaysSame c.args.seat.now.id (free + 4) stays

pub returns : goal.returns
returns c =
    let t = c.requires.top.1 in
    let s = c.unlock.ensures.seat in
    let f = first_freed c.args.seat.now.view t.spot c.args.free t.content (holds_of t.grips) t.holds t.is.placed c.index-words-0.result.key (at_k (goal.at.returns c).After-index-words-0) StaysSame (beside t.spot.number t.grips t.is.apart) c.unlock.new.seat.view (c.args.free + 4) c.unlock.ensures.freed in
    record {
      book = s.0;
      id = s.1;
      alike = record {
        places = ap (λ (z : SeatView View). z.places) f.1;
        met = ap (λ (z : SeatView View). z.client.met) f.1 ∙ ap (λ (z : View). z.met) f.2;
        room = ap (λ (z : SeatView View). z.room) f.1;
      };
      own = ap (λ (z : SeatView View). z.client.own) f.1 ∙ ap (λ (z : View). z.own) f.2;
      holds = ap (λ (z : SeatView View). z.holds) f.1 ∙ sym (ap (λ (hs : List Hold). drop 1 hs) t.holds);
      seen = ap (λ (z : SeatView View). z.client.seen) f.1 ∙ ap (λ (z : View). z.seen) f.2;
    }
