use Rattle.std.proofs.Common.{arith, sym, ap, subst, ◌/◌, ℕ}
use mathlib.Core.Logic.{dite}
use native.Mathlib.Decide.{ℕ_discrete}
use Rattle.live_nodes.specs.Levels.{place_at}
use Rattle.live_nodes.specs.Views.{View}
use Rattle.live_reads.proofs.Views.{first_word}
use Rattle.live_scans.specs.inner.Moments.{SeesMore, HasNone}
use Rattle.live_scans.specs.inner.Nexts.{IsOutside}
use Rattle.live_scans.proofs.Passes.{seen_equal}
use Rattle.live_scans.proofs.Nexts.{may_be_still, still_missed, still_keeps, still_lower, none_outside}
use Rattle.live_scans.proofs.next.is_still.Goals as goal

pub check-requires-clause-learns : goal.check-requires-clause-learns
check-requires-clause-learns g c =
    let v = c.args.seat.now.view in
    let b = c.args.seat.now.book in
    let words = c.args.here.words.now in
    let t = c.args.here.taken in
    let f = c.requires.next in
    let l = c.args.lower in
    let first = c.index-words-0.result in
    let at_k = (first_word (place_at f.lower.names.spot) b words f.lower.are first first (sym c.index-words-0.is)).0 in
    may_be_still c.args.up v b words t c.args.at c.args.child l.node l.here.words.now l.here.taken f first.key at_k g.A.Asks.ask.caller c.args.seat.now.id (t / 4) c.requires.asks (let e = f.lower.free in omega (arith, e))

pub returns : goal.returns
returns g c =
    let v = c.args.seat.now.view in
    let b = c.args.seat.now.book in
    let id = c.args.seat.now.id in
    let words = c.args.here.words.now in
    let t = c.args.here.taken in
    let f = c.requires.next in
    let l = c.args.lower in
    let first = c.index-words-0.result in
    let at_k = (first_word (place_at f.lower.names.spot) b words f.lower.are first first (sym c.index-words-0.is)).0 in
    let tells = c.check.ensures.checked in
    let seat = c.check.ensures.seat in
    let w = c.check.new.seat.view in
    let caller = g.A.Asks.ask.caller in
    let missed = still_missed c.args.up v b words t c.args.at c.args.child l.node l.here.words.now l.here.taken f first.key at_k caller w tells.0 tells.2 in
    let keeps = still_keeps c.args.up v b words t c.args.at c.args.child l.node l.here.words.now l.here.taken f first.key at_k caller w tells.0 tells.2 in
    record {
      book = seat.0;
      id = seat.1;
      keeps = dite (ℕ_discrete tells.0 t) (λ e. (keeps e).0) (λ ne. (missed ne).0);
      seen = dite (ℕ_discrete tells.0 t) (λ e. subst (λ (z : ℕ). SeesMore w.client.seen z v.client.seen) c.requires.asks (keeps e).1) (λ ne. seen_equal id v w (ap (λ (z : View). z.seen) (missed ne).1));
      none = λ yes. subst (λ (z : ℕ). HasNone z v w (IsOutside c.args.up c.args.at c.args.child.0 l.node)) c.requires.asks
          (none_outside c.args.up v b words t c.args.at c.args.child l.node l.here.words.now l.here.taken f first.key at_k caller w tells.0 tells.2 (tells.1.0 yes) c.requires.height.0);
      lower = λ yes. still_lower c.args.up v b words t c.args.at c.args.child l.node l.here.words.now l.here.taken f first.key at_k caller w tells.0 tells.2 (tells.1.0 yes) c.check.new.seat.book seat.0;
    }
