use Rattle.std.proofs.Common.{sym, ap, refl, List, ◌+◌, ◌∙◌}
use Rattle.live_nodes.specs.Seats.{SeatView}
use Rattle.live_nodes.specs.Views.{View, Own, rest_of}
use Rattle.live_nodes.specs.Tree.{StaysSame}
use Rattle.live_nodes.proofs.Writes.{root_word_stays}
use Rattle.live_reads.proofs.Views.{first_word}
use Rattle.live_growth.proofs.Grips.{grip_frees, grip_freed}
use Rattle.live_growth.proofs.RootWords.{p, root_word_grips}
use Rattle.live_growth.proofs.make_root.unlock_root_word.Goals as goal

pub unlock-requires-clause-frees : goal.unlock-requires-clause-frees
unlock-requires-clause-frees c =
    let s = c.args.seat.now in
    let free = c.args.free in
    let h = c.requires.holds in
    let first = c.index-words-0.result in
    let at_k = (first_word p s.book c.args.words.now h.1.are first first (sym c.index-words-0.is)).0 in
    grip_frees s.view s.book c.args.words.now free p h.0 (root_word_grips s.view s.book c.args.words.now free h.0 h.1) first.key at_k StaysSame s.id (free + 4) (root_word_stays s.id s.view.client h.0 h.1.own (free + 4) h.0 refl)

pub returns-clause-rest : goal.returns-clause-rest
returns-clause-rest c =
    let s = c.args.seat.now in
    let free = c.args.free in
    let h = c.requires.holds in
    let first = c.index-words-0.result in
    let at_k = (first_word p s.book c.args.words.now h.1.are first first (sym c.index-words-0.is)).0 in
    let f = grip_freed s.view s.book c.args.words.now free p h.0 (root_word_grips s.view s.book c.args.words.now free h.0 h.1) first.key at_k StaysSame c.unlock.new.seat.view (free + 4) c.unlock.ensures.freed in
    let client = ap (λ (z : SeatView View). z.client) f.1 ∙ f.2 in
    record {
      own = ap (λ (z : View). z.own) client ∙ ap (λ (os : List Own). rest_of os) h.1.own;
      holds = ap (λ (z : SeatView View). z.holds) f.1;
      alike = record {
        places = ap (λ (z : SeatView View). z.places) f.1;
        met = ap (λ (z : View). z.met) client;
        room = ap (λ (z : SeatView View). z.room) f.1;
      };
    }

pub returns-clause-seen : goal.returns-clause-seen
returns-clause-seen c =
    let s = c.args.seat.now in
    let free = c.args.free in
    let h = c.requires.holds in
    let first = c.index-words-0.result in
    let at_k = (first_word p s.book c.args.words.now h.1.are first first (sym c.index-words-0.is)).0 in
    let f = grip_freed s.view s.book c.args.words.now free p h.0 (root_word_grips s.view s.book c.args.words.now free h.0 h.1) first.key at_k StaysSame c.unlock.new.seat.view (free + 4) c.unlock.ensures.freed in
    ap (λ (z : View). z.seen) (ap (λ (z : SeatView View). z.client) f.1 ∙ f.2)
