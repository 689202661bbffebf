use Rattle.std.proofs.Common.{sym, ap, refl, arith, [], ◌+◌, ◌/◌, ◌∙◌}
use Rattle.live_nodes.specs.Levels.{place_at}
use Rattle.live_nodes.specs.Views.{View, rest_of}
use Rattle.live_nodes.specs.Tree.{StaysSame}
use Rattle.live_nodes.proofs.Writes.{node_stays}
use Rattle.live_nodes.specs.Seats.{SeatView}
use Rattle.live_reads.proofs.Views.{first_word}
use Rattle.live_growth.proofs.Locks.{may_free, is_freed}
use Rattle.live_growth.proofs.held.unlock_same.Goals as goal

pub unlock-requires-clause-frees : goal.unlock-requires-clause-frees
unlock-requires-clause-frees c =
    let v = c.args.seat.now.view in
    let words = c.args.words.now in
    let b = c.args.seat.now.book in
    let free = c.args.free in
    let a = c.requires.holds.0 in
    let x = c.requires.holds.1 in
    let h = c.requires.holds.2 in
    let first = c.index-words-0.result in
    let at_k = (first_word (place_at a) b words h.are first first (sym c.index-words-0.is)).0 in
    may_free v b words free a x x h first.key at_k StaysSame c.args.seat.now.id (free + 4) (node_stays c.args.seat.now.id v.client a x [] h.own tt (free + 4) (free / 4 + 1) (let even = c.requires.word.0 in omega (arith, even)) x refl)

pub returns : goal.returns
returns c =
    let v = c.args.seat.now.view in
    let words = c.args.words.now in
    let b = c.args.seat.now.book in
    let free = c.args.free in
    let a = c.requires.holds.0 in
    let x = c.requires.holds.1 in
    let h = c.requires.holds.2 in
    let first = c.index-words-0.result in
    let at_k = (first_word (place_at a) b words h.are first first (sym c.index-words-0.is)).0 in
    let s = c.unlock.ensures.seat in
    let f = is_freed v b words free a x x h first.key at_k StaysSame c.unlock.new.seat.view (free + 4) c.unlock.ensures.freed in
    record {
      book = s.0;
      id = s.1;
      rest = record {
        own = ap (λ (z : SeatView View). z.client.own) f.1 ∙ (ap (λ (z : View). z.own) f.2 ∙ ap rest_of h.own);
        holds = ap (λ (z : SeatView View). z.holds) f.1;
        alike = record {
          places = ap (λ (z : SeatView View). z.places) f.1;
          met = ap (λ (z : SeatView View). z.client.met) f.1 ∙ ap (λ (z : View). z.met) f.2;
          room = ap (λ (z : SeatView View). z.room) f.1;
        };
      };
      seen = ap (λ (z : SeatView View). z.client.seen) f.1 ∙ ap (λ (z : View). z.seen) f.2;
    }
