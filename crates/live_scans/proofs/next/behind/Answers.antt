use Rattle.std.proofs.Common.{true, rules, arith, refl, sym, ap, subst, ◌≡◌, ◌+◌, ◌/◌}
use Rattle.live_nodes.specs.Seats.{Agree}
use Rattle.live_nodes.specs.Rows.{last_saw}
use Rattle.live_nodes.specs.Levels.{place_at}
use Rattle.live_nodes.specs.Views.{View}
use Rattle.live_reads.specs.Paths.{Keeps}
use Rattle.live_reads.proofs.Views.{first_word}
use Rattle.live_scans.specs.inner.Moments.{IsRead, IsWithin}
use Rattle.live_scans.proofs.Wholes.{may_whole, whole_missed, whole_hit}
use Rattle.live_scans.proofs.Passes.{seen_equal}
use Rattle.live_scans.proofs.Nones.{has_none_from, is_within}
use Rattle.live_scans.proofs.Nexts.{none_up_to}
use Rattle.live_scans.proofs.next.behind.Given.{Over}
use Rattle.live_scans.proofs.next.behind.Goals as goal
use Rattle.live_scans.proofs.next.behind.Goals.{After-index-words-0, After-check}

module _ (g : Over) (c : After-index-words-0 g) where
  at_word : (place_at c.requires.near.here.names.spot).key ≡ c.index-words-0.result.key
  at_word =
      let n = c.requires.near in
      let first = c.index-words-0.result in
      (first_word (place_at n.here.names.spot) c.args.seat.now.book c.args.here.words.now n.here.opened.are first first (sym c.index-words-0.is)).0

-- THE NODE is what it was
module _ (g : Over) (c : After-check g) where
  checked : c.check.ensures.checked.0 ≡ c.args.here.taken → Keeps c.args.seat.now.view c.check.new.seat.view × IsRead c.args.seat.now.id c.args.seat.now.view.client c.requires.near.here.names.spot c.requires.near.here.names.spot.shape c.args.here.taken (last_saw c.args.seat.now.view.reads) c.check.new.seat.view.client
  checked same =
      let v = c.args.seat.now.view in
      let n = c.requires.near in
      let spot = n.here.names.spot in
      let t = c.args.here.taken in
      let tells = c.check.ensures.checked in
      let w = c.check.new.seat.view in
      let hit = whole_hit v c.args.seat.now.book c.args.here.words.now t c.args.at.name c.args.at.key c.args.at.height n.here v refl c.index-words-0.result.key (at_word g (goal.at.After-check g c).After-index-words-0) g.A.Asks.ask.caller w tells.0 tells.2 same (λ content agrees. subst (Agree content) (ap last_saw n.here.opened.reads) agrees) in
      (hit.0, subst (λ z. IsRead z v.client spot spot.shape t (last_saw v.reads) w.client) c.requires.asks hit.1)

pub check-requires-clause-learns : goal.check-requires-clause-learns
check-requires-clause-learns g c =
    let n = c.requires.near in
    let t = c.args.here.taken in
    let free = n.here.free in
    may_whole c.args.seat.now.view c.args.seat.now.book c.args.here.words.now t c.args.at.name c.args.at.key c.args.at.height n.here c.args.seat.now.view refl c.index-words-0.result.key (at_word g (goal.at.check-requires-clause-learns g c).After-index-words-0) g.A.Asks.ask.caller c.args.seat.now.id (t / 4) c.requires.asks (omega (arith, free))

pub returns-then-not-check : goal.returns-then-not-check
returns-then-not-check g c =
    let v = c.args.seat.now.view in
    let n = c.requires.near in
    let tells = c.check.ensures.checked in
    let seat = c.check.ensures.seat in
    let w = c.check.new.seat.view in
    let missed = whole_missed v c.args.seat.now.book c.args.here.words.now c.args.here.taken c.args.at.name c.args.at.key c.args.at.height n.here v refl c.index-words-0.result.key (at_word g (goal.at.returns-then-not-check g c).After-index-words-0) g.A.Asks.ask.caller w tells.0 tells.2 (search rules) in
    record { book = seat.0; id = seat.1; keeps = missed.0; seen = seen_equal c.args.seat.now.id v w (ap (λ (z : View). z.seen) missed.1); passed = tt }

pub returns-then-not-ends_leaf : goal.returns-then-not-ends_leaf
returns-then-not-ends_leaf g c =
    let seat = c.check.ensures.seat in
    let x = checked g (goal.at.returns-then-not-ends_leaf g c).After-check (search rules) in
    record { book = seat.0; id = seat.1; keeps = x.0; seen = x.1.fits; passed = tt }

pub returns : goal.returns
returns g c =
    let v = c.args.seat.now.view in
    let w = c.check.new.seat.view in
    let key = c.args.at.key in
    let height = c.args.at.height in
    let n = c.requires.near in
    let seat = c.check.ensures.seat in
    let read = checked g (goal.at.returns g c).After-check (search rules) in
    let x = read.1 in
    let node = x.node in
    let near = n.near node.content node.its (subst (Agree node.content) (ap last_saw n.here.opened.reads) node.agrees) node.encodes node.in_form in
    let high = c.requires.height.0 in
    let up = c.args.up in
    let end = c.end_byte.result in
    let none = has_none_from c.args.seat.now.id v w c.args.at.name key height n.here.names c.args.here.taken (last_saw v.reads) x up _ end refl near in
    let last = c.end_of-last.result in
    let e = c.ends_leaf.ensures (search rules) in
    record {
      book = seat.0;
      id = seat.1;
      keeps = read.0;
      seen = x.fits;
      passed = record {
        order = e.0;
        seam = e.1;
        reads = none_up_to up c.args.seat.now.id v w (IsWithin up height key end) key last none (λ k from to. is_within up height key last end k (omega (arith, high)) (omega arith) c.end_of-last.ensures from to);
      };
    }
