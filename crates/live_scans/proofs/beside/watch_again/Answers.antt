use Rattle.std.proofs.Common.{arith, sym, ap, subst, Some, ℕ, Option, ◌/◌, ◌∙◌}
use mathlib.Core.Logic.{dite}
use native.Mathlib.Decide.{ℕ_discrete}
use Rattle.word_book.specs.Book.{reads, none_joined}
use Rattle.live_nodes.specs.Plays.{Checks}
use Rattle.live_nodes.specs.Calls.{MayCheck}
use Rattle.live_nodes.specs.Levels.{place_at}
use Rattle.live_nodes.specs.Views.{View}
use Rattle.live_nodes.specs.Tree.{IsMap, LearnsBelow}
use Rattle.live_reads.proofs.Views.{first_word}
use Rattle.live_scans.proofs.Nexts.{may_watch_again, again_missed, again_keeps, again_next}
use Rattle.live_scans.proofs.beside.watch_again.Goals as goal

pub check-requires-clause-learns : goal.check-requires-clause-learns
check-requires-clause-learns g c =
    let v = c.args.seat.now.view in
    let f = c.requires.lower in
    let l = c.args.lower in
    let others = l.here.words.now in
    let other = l.here.taken in
    let t = c.args.here.taken in
    let first = c.index-words-0.result in
    let at_k = (first_word (place_at f.child.sighted.spot) c.args.seat.now.book others f.child.opened.are first first (sym c.index-words-0.is)).0 in
    let even = f.child.even in
    let free = f.free in
    let may = may_watch_again c.args.up v c.args.seat.now.book c.args.here.words.now t c.args.at c.args.child l.node others other f c.requires.height.0 first.key at_k c.args.seat.now.id (other / 4) (t / 4) (omega (arith, even)) (omega (arith, free)) in
    let above = c.requires.above.0 ∙ f.second in
    subst (λ (z : ℕ × Option ℕ). MayCheck v first.key IsMap c.args.seat.now.id (LearnsBelow z.0 z.1) other) (λ j. (sym above j, sym c.requires.above.1 j)) may

pub returns : goal.returns
returns g c =
    let v = c.args.seat.now.view in
    let w = c.check.new.seat.view in
    let b = c.args.seat.now.book in
    let f = c.requires.lower in
    let l = c.args.lower in
    let words = c.args.here.words.now in
    let others = l.here.words.now in
    let other = l.here.taken in
    let t = c.args.here.taken in
    let first = c.index-words-0.result in
    let at_k = (first_word (place_at f.child.sighted.spot) b others f.child.opened.are first first (sym c.index-words-0.is)).0 in
    let tells = c.check.ensures.checked in
    let seat = c.check.ensures.seat in
    let above = c.requires.above.0 ∙ f.second in
    let told : Checks (LearnsBelow f.names.spot.number (Some t)) (reads first.key) v tells.0 none_joined w = subst (λ (z : ℕ × Option ℕ). Checks (LearnsBelow z.0 z.1) (reads first.key) v tells.0 none_joined w) (λ i. (above i, c.requires.above.1 i)) tells.2 in
    let missed = again_missed c.args.up v b words t c.args.at c.args.child l.node others other f c.requires.height.0 first.key at_k w tells.0 told in
    let keeps = again_keeps c.args.up v b words t c.args.at c.args.child l.node others other f c.requires.height.0 first.key at_k w tells.0 told in
    record {
      book = seat.0;
      id = seat.1;
      keeps = dite (ℕ_discrete tells.0 other) (λ e. (keeps e).0) (λ ne. (missed ne).0);
      seen = dite (ℕ_discrete tells.0 other) (λ e. (keeps e).1) (λ ne. ap (λ (z : View). z.seen) (missed ne).1);
      next = λ yes. again_next c.args.up v b words t c.args.at c.args.child l.node others other f c.requires.height.0 first.key at_k w tells.0 told (tells.1.0 yes) c.check.new.seat.book seat.0;
    }
