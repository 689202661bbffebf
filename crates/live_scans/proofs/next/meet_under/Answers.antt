use Rattle.std.proofs.Common.{arith, sym, ap, ◌/◌, ◌∙◌}
use mathlib.Core.Logic.{dite}
use native.Mathlib.Decide.{ℕ_discrete}
use Rattle.live_nodes.specs.Levels.{up, digit, place_at}
use Rattle.live_nodes.specs.Views.{View}
use Rattle.live_reads.proofs.Views.{first_word}
use Rattle.live_scans.proofs.Nexts.{up_of, may_meet_under, under_missed, under_keeps, under_met, under_near}
use Rattle.live_scans.proofs.next.meet_under.Goals as goal

pub check-requires-clause-learns : goal.check-requires-clause-learns
check-requires-clause-learns g c =
    let v = c.args.seat.now.view in
    let b = c.args.seat.now.book in
    let words = c.args.here.words.now in
    let t = c.args.here.taken in
    let n = c.requires.near in
    let spot = n.here.names.spot in
    let q = g.A.Asks.ask in
    let first = c.index-words-0.result in
    let at_k = (first_word (place_at spot) b words n.here.opened.are first first (sym c.index-words-0.is)).0 in
    let high = c.requires.height.0 in
    let at = up_of c.args.at.height c.args.to (up c.args.at.height c.args.at.key) c.args.child.0 (omega (arith, high)) (omega arith) c.requires.to in
    let above = ap (up c.args.at.height) c.requires.asks.0 ∙ at.0 in
    let at_byte = ap (digit c.args.at.height) c.requires.asks.0 ∙ at.1 in
    may_meet_under c.args.up v b words t c.args.at c.args.child n high q above at_byte first.key at_k g.A.Asks.reads c.args.seat.now.id (t / 4) c.requires.asks.1 (let f = n.here.free in omega (arith, f))

pub returns : goal.returns
returns g c =
    let v = c.args.seat.now.view in
    let b = c.args.seat.now.book in
    let words = c.args.here.words.now in
    let t = c.args.here.taken in
    let n = c.requires.near in
    let spot = n.here.names.spot in
    let q = g.A.Asks.ask in
    let first = c.index-words-0.result in
    let at_k = (first_word (place_at spot) b words n.here.opened.are first first (sym c.index-words-0.is)).0 in
    let high = c.requires.height.0 in
    let at = up_of c.args.at.height c.args.to (up c.args.at.height c.args.at.key) c.args.child.0 (omega (arith, high)) (omega arith) c.requires.to in
    let above = ap (up c.args.at.height) c.requires.asks.0 ∙ at.0 in
    let at_byte = ap (digit c.args.at.height) c.requires.asks.0 ∙ at.1 in
    let tells = c.check.ensures.checked in
    let seat = c.check.ensures.seat in
    let w = c.check.new.seat.view in
    let keeps = under_keeps c.args.up v b words t c.args.at c.args.child n high q above at_byte first.key at_k g.A.Asks.reads w tells.0 tells.2 in
    let missed = under_missed c.args.up v b words t c.args.at c.args.child n high q above at_byte first.key at_k g.A.Asks.reads w tells.0 tells.2 in
    record {
      book = seat.0;
      id = seat.1;
      keeps = dite (ℕ_discrete tells.0 t) (λ e. (keeps e).0) (λ ne. (missed ne).0);
      seen = dite (ℕ_discrete tells.0 t) (λ e. (keeps e).1) (λ ne. ap (λ (z : View). z.seen) (missed ne).1);
      near = λ yes. under_near c.args.up v b words t c.args.at c.args.child n high q above at_byte first.key at_k g.A.Asks.reads w tells.0 tells.2 (tells.1.0 yes) c.check.new.seat.book seat.0;
      met = λ yes. under_met c.args.up v b words t c.args.at c.args.child n high q above at_byte first.key at_k g.A.Asks.reads w tells.0 tells.2 (tells.1.0 yes);
    }
