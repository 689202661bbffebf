use Rattle.std.proofs.Common.{sym, ap, refl, arith, [], ◌∷◌, ◌≡◌, ◌+◌, ◌/◌, ◌∙◌}
use Rattle.live_nodes.specs.Seats.{SeatView, seat_view, hold}
use Rattle.live_nodes.specs.Levels.{place_at}
use Rattle.live_nodes.specs.Views.{View, locked, rest_of}
use Rattle.live_nodes.specs.Tree.{StaysSame}
use Rattle.live_nodes.proofs.Writes.{node_stays}
use Rattle.live_reads.proofs.Views.{first_word}
use Rattle.live_growth.proofs.Locks.{alike_then}
use Rattle.live_growth.proofs.Twos.{first_frees, first_freed, held_on, alike_freed}
use Rattle.live_growth.proofs.two.unlock_two.Goals as goal
use Rattle.live_growth.proofs.two.unlock_two.Goals.{After-index-words-0, After-unlock}

abbrev Seen : Type 0
Seen = SeatView View

at_x : (c : After-index-words-0) → c.requires.holds.below.shape.key ≡ c.index-words-0.result.key
at_x c = (first_word (place_at c.requires.holds.below) c.args.seat.now.book c.args.words.now c.requires.holds.held.are c.index-words-0.result c.index-words-0.result (sym c.index-words-0.is)).0

-- the lower one is unlocked
freed : (c : After-unlock) → (e : View) × (c.unlock.new.seat.view ≡ seat_view e c.args.seat.now.view.places c.args.seat.now.view.reads (hold c.requires.holds.above.number (c.args.two.free_above + 2) c.requires.holds.content_above ∷ []) c.args.seat.now.view.room) × StaysSame c.args.seat.now.view.client c.requires.holds.below.number c.requires.holds.content e
freed c = first_freed c.requires.holds c.index-words-0.result.key (at_x (goal.at.After-unlock c).After-index-words-0) StaysSame c.unlock.new.seat.view (c.args.two.free + 4) c.unlock.ensures.freed

pub unlock-requires-clause-frees : goal.unlock-requires-clause-frees
unlock-requires-clause-frees c =
    let h = c.requires.holds in
    let even = h.held.even in
    let stays = node_stays c.args.seat.now.id c.args.seat.now.view.client h.below h.content (locked h.above h.content_above ∷ []) h.own (h.apart, tt) (c.args.two.free + 4) (c.args.two.free / 4 + 1) (omega (arith, even)) h.content refl in
    first_frees h c.index-words-0.result.key (at_x (goal.at.unlock-requires-clause-frees c).After-index-words-0) StaysSame c.args.seat.now.id (c.args.two.free + 4) stays

pub unlock_same-requires-clause-holds : goal.unlock_same-requires-clause-holds
unlock_same-requires-clause-holds c =
    let h = c.requires.holds in
    let f = freed (goal.at.unlock_same-requires-clause-holds c).After-unlock in
    let held = held_on c.args.seat.now.view c.unlock.new.seat.view c.args.seat.now.book c.unlock.new.seat.book c.args.words_above.now c.args.two.free_above h.above h.content_above (ap (λ (z : Seen). z.places) f.1) c.unlock.ensures.seat.0 h.held_above in (
      h.above,
      h.content_above,
      record {
        own = ap (λ (z : Seen). z.client.own) f.1 ∙ (ap (λ (z : View). z.own) f.2 ∙ ap rest_of h.own);
        holds = ap (λ (z : Seen). z.holds) f.1;
        placed = held.placed;
        are = held.are;
      },
    )

pub returns : goal.returns
returns c =
    let v = c.args.seat.now.view in
    let w = c.unlock.new.seat.view in
    let f = freed (goal.at.returns c).After-unlock in
    let s = c.unlock.ensures.seat in
    let t = c.unlock_same.ensures in
    record {
      book = t.book ∙ s.0;
      id = t.id ∙ s.1;
      rest = record {
        own = t.rest.own;
        holds = t.rest.holds;
        alike = alike_then v w c.unlock_same.new.seat.view (alike_freed v w f.0 _ f.1 (ap (λ (z : View). z.met) f.2)) t.rest.alike;
      };
      seen = t.seen ∙ (ap (λ (z : Seen). z.client.seen) f.1 ∙ ap (λ (z : View). z.seen) f.2);
    }
