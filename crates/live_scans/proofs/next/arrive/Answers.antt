use Rattle.std.proofs.Common.{arith, sym, ap, ◌/◌, ◌≡◌}
use mathlib.Core.Logic.{dite}
use native.Mathlib.Decide.{ℕ_discrete}
use Rattle.live_nodes.specs.Levels.{place_at}
use Rattle.live_nodes.specs.Views.{View}
use Rattle.live_reads.proofs.Views.{first_word}
use Rattle.live_scans.proofs.Nexts.{may_arrive, arrive_missed, arrive_keeps, arrive_open, arrive_lower}
use Rattle.live_scans.proofs.next.arrive.Goals as goal
use Rattle.live_scans.proofs.next.arrive.Goals.{After-index-words-0}

module _ (c : After-index-words-0) where
  at_word : (place_at c.requires.lower.child.sighted.spot).key ≡ c.index-words-0.result.key
  at_word =
      let h = c.requires.lower.child in
      let first = c.index-words-0.result in
      (first_word (place_at h.sighted.spot) c.args.seat.now.book c.args.lower.here.words.now h.opened.are first first (sym c.index-words-0.is)).0

pub check-requires-clause-learns : goal.check-requires-clause-learns
check-requires-clause-learns c =
    let l = c.args.lower in
    let f = c.requires.lower in
    let i = (goal.at.check-requires-clause-learns c).After-index-words-0 in
    may_arrive c.args.up c.args.seat.now.view c.args.seat.now.book c.args.here.words.now c.args.here.taken c.args.at c.args.child l.node l.here.words.now l.here.taken f c.index-words-0.result.key (at_word i) c.args.seat.now.id (l.here.taken / 4) (let e = f.child.even in omega (arith, e))

pub returns : goal.returns
returns c =
    let v = c.args.seat.now.view in
    let b = c.args.seat.now.book in
    let l = c.args.lower in
    let words = c.args.here.words.now in
    let taken = c.args.here.taken in
    let others = l.here.words.now in
    let t = l.here.taken in
    let f = c.requires.lower in
    let at_k = at_word (goal.at.returns c).After-index-words-0 in
    let key = c.index-words-0.result.key in
    let tells = c.check.ensures.checked in
    let seat = c.check.ensures.seat in
    let w = c.check.new.seat.view in
    let missed = arrive_missed c.args.up v b words taken c.args.at c.args.child l.node others t f key at_k w tells.0 tells.2 in
    let keeps = arrive_keeps c.args.up v b words taken c.args.at c.args.child l.node others t f key at_k w tells.0 tells.2 in
    record {
      book = seat.0;
      id = seat.1;
      keeps = dite (ℕ_discrete tells.0 t) (λ e. (keeps e).0) (λ ne. (missed ne).0);
      seen = dite (ℕ_discrete tells.0 t) (λ e. (keeps e).1) (λ ne. ap (λ (z : View). z.seen) (missed ne).1);
      opened = λ yes. arrive_open c.args.up v b words taken c.args.at c.args.child l.node others t f key at_k w tells.0 tells.2 (tells.1.0 yes) c.check.new.seat.book seat.0;
      lower = λ yes. arrive_lower c.args.up v b words taken c.args.at c.args.child l.node others t f key at_k w tells.0 tells.2 (tells.1.0 yes) c.check.new.seat.book seat.0;
    }
