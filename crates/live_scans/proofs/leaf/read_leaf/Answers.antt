use Rattle.std.proofs.Common.{rules, arith, sym, ap, subst, ◌≡◌, ◌+◌, ◌/◌, ◌∙◌}
use Rattle.live_nodes.specs.Seats.{Agree}
use Rattle.live_nodes.specs.Rows.{last_saw}
use Rattle.live_layout.specs.Encodes.{words_of}
use Rattle.live_nodes.specs.Levels.{place_at}
use Rattle.live_nodes.specs.Views.{View}
use Rattle.live_reads.proofs.Views.{first_word, may_read_open}
use Rattle.live_scans.specs.inner.Moments.{IsRead}
use Rattle.live_scans.proofs.Wholes.{may_leaf, leaf_missed, leaf_hit}
use Rattle.live_scans.proofs.Passes.{seen_equal}
use Rattle.live_scans.proofs.Nones.{part_reads}
use Rattle.live_scans.proofs.leaf.read_leaf.Given.{Over}
use Rattle.live_scans.proofs.leaf.read_leaf.Goals as goal
use Rattle.live_scans.proofs.leaf.read_leaf.Goals.{After-index-words-0}

-- THE LEAF's words were read
module _ (g : Over) (c : After-index-words-0 g) where
  at_word : (place_at c.requires.open.sighted.spot).key ≡ c.index-words-0.result.key
  at_word =
      let l = c.requires.open in
      let first = c.index-words-0.result in
      (first_word (place_at l.sighted.spot) c.args.seat.now.book c.args.leaf.words.now l.opened.are first first (sym c.index-words-0.is)).0

  book : c.fill_on-filled.new.seat.book ≡ c.args.seat.now.book
  book = ap (λ s. s.book) c.fill_on-filled.ensures.seat.others

  id : c.fill_on-filled.new.seat.id ≡ c.args.seat.now.id
  id = ap (λ s. s.id) c.fill_on-filled.ensures.seat.others

pub fill_on-filled-requires-clause-cells : goal.fill_on-filled-requires-clause-cells
fill_on-filled-requires-clause-cells g c =
    let l = c.requires.open in
    let spot = l.sighted.spot in
    let form = ap words_of (c.form_below-form.ensures spot.shape.key spot.shape.form l.sighted.named) in
    let long = l.opened.are.0 in
    (may_read_open c.args.seat.now.view c.args.seat.now.book c.args.leaf.words.now c.args.leaf.taken spot l.sighted.placed l.opened, omega (arith, long, form))

pub check-requires-clause-learns : goal.check-requires-clause-learns
check-requires-clause-learns g c =
    let d = (goal.at.check-requires-clause-learns g c).After-index-words-0 in
    let t = c.args.leaf.taken in
    let l = c.requires.open in
    let free = l.even in
    may_leaf c.args.seat.now.view c.args.seat.now.book c.args.leaf.words.now t c.args.name (c.args.part.base + c.args.part.first) l c.fill_on-filled.new.seat.view (ap (λ s. s.view) c.fill_on-filled.ensures.seat.others) c.index-words-0.result.key (at_word g d) g.A.Asks.ask.caller c.fill_on-filled.new.seat.id (t / 4) (c.requires.asks ∙ sym (id g d)) (omega (arith, free))

pub returns-then-not-check : goal.returns-then-not-check
returns-then-not-check g c =
    let d = (goal.at.returns-then-not-check g c).After-index-words-0 in
    let v = c.args.seat.now.view in
    let w = c.check.new.seat.view in
    let tells = c.check.ensures.checked in
    let seat = c.check.ensures.seat in
    let missed = leaf_missed v c.args.seat.now.book c.args.leaf.words.now c.args.leaf.taken c.args.name (c.args.part.base + c.args.part.first) c.requires.open c.fill_on-filled.new.seat.view (ap (λ s. s.view) c.fill_on-filled.ensures.seat.others) c.index-words-0.result.key (at_word g d) g.A.Asks.ask.caller w tells.0 tells.2 (search rules) in record {
      before = c.fill_on-filled.ensures.before;
      filled = tt;
      book = seat.0 ∙ book g d;
      id = seat.1 ∙ id g d;
      keeps = missed.0;
      seen = seen_equal c.args.seat.now.id v w (ap (λ (z : View). z.seen) missed.1);
      on = tt;
      reads = tt;
    }

pub returns : goal.returns
returns g c =
    let d = (goal.at.returns g c).After-index-words-0 in
    let v = c.args.seat.now.view in
    let v₂ = c.fill_on-filled.new.seat.view in
    let w = c.check.new.seat.view in
    let me = c.args.seat.now.id in
    let p = c.args.part in
    let up = c.args.up in
    let t = c.args.leaf.taken in
    let l = c.requires.open in
    let spot = l.sighted.spot in
    let tells = c.check.ensures.checked in
    let seat = c.check.ensures.seat in
    let hit = leaf_hit v c.args.seat.now.book c.args.leaf.words.now t c.args.name (p.base + p.first) l v₂ (ap (λ s. s.view) c.fill_on-filled.ensures.seat.others) c.index-words-0.result.key (at_word g d) g.A.Asks.ask.caller w tells.0 tells.2 (search rules) (λ content agrees. subst (λ z. Agree content (last_saw z)) l.opened.reads (c.fill_on-filled.ensures.kept content agrees)) in
    let x = subst (λ z. IsRead z v.client spot hit.shape t (last_saw v₂.reads) w.client) c.requires.asks hit.read in
    let node = x.node in
    let deep = node.deep in
    let high = hit.high in
    let form = c.form_below-form.ensures spot.shape.key spot.shape.form l.sighted.named in
    let filled = c.fill_on-filled.result in
    let e = c.fill_on-filled.ensures in
    let listed = e.is node.content node.its node.agrees node.encodes (node.in_form ∙ sym form) (omega (arith, deep, high)) in record {
      before = e.before;
      filled = (e.count.0, e.count.1, e.reached.0, e.reached.1, e.full);
      book = seat.0 ∙ book g d;
      id = seat.1 ∙ id g d;
      keeps = hit.keeps;
      seen = x.fits;
      on = hit.on;
      reads = part_reads up me v w spot hit.shape p.base p.first p.last filled.reached hit.high hit.covers t (last_saw v₂.reads) x _ c.requires.part.2 c.requires.part.0 (omega arith) e.reached.1 listed;
    }
