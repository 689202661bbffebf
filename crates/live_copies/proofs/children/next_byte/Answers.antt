use Rattle.std.proofs.Common.{arith, ap, ◌∙◌}
use Rattle.live_nodes.specs.Rows.{last_saw}
use Rattle.live_layout.specs.Encodes.{words_of}
use Rattle.live_nodes.specs.Levels.{place_at}
use Rattle.live_nodes.specs.Views.{View}
use Rattle.live_nodes.specs.Seats.{IsIn}
use Rattle.live_reads.proofs.Finds.{keeps_then}
use Rattle.live_reads.proofs.Views.{may_read_open, open_read, reading_on_keeps}
use Rattle.live_copies.proofs.children.next_byte.Goals as goal
use Rattle.live_copies.proofs.children.next_byte.Goals.{In_ok-here}

placed : (c : In_ok-here) → IsIn (place_at c.requires.sighted.spot) c.open.new.seat.view.places
placed c = c.open.ensures.keeps.places (place_at c.requires.sighted.spot) c.requires.sighted.placed

pub nearest-found-requires : goal.nearest-found-requires
nearest-found-requires c =
    let here = c.in_ok-here.here in
    let n = c.requires.sighted in
    let o = c.in_ok-here.ensures.opened.1 n in
    let l = o.are.0 in
    let e = ap words_of (c.form_below-form.ensures n.spot.shape.key n.spot.shape.form n.named) in
    record { cells = (may_read_open c.open.new.seat.view c.open.new.seat.book here.words.now here.taken n.spot (placed (goal.at.nearest-found-requires c).In_ok-here) o, omega (arith, l, e)) }

pub returns : goal.returns
returns c =
    let here = c.in_ok-here.here in
    let n = c.requires.sighted in
    let o = c.in_ok-here.ensures.opened.1 n in
    let u = c.open.new.seat.view in
    let w = c.nearest-found.new.seat.view in
    let opened = c.open.ensures in
    let r = c.nearest-found.ensures.seat.others in
    let read = open_read u c.open.new.seat.book here.words.now here.taken n.spot (placed (goal.at.returns c).In_ok-here) o w (ap (λ s. s.view) r) in
    let k = reading_on_keeps u w o.before n.spot.number here.taken (last_saw w.reads) read in
    record { book = ap (λ s. s.book) r ∙ opened.book; id = ap (λ s. s.id) r ∙ opened.id; keeps = keeps_then c.args.seat.now.view u w opened.keeps k.0; seen = ap (λ (z : View). z.seen) (k.1 ∙ opened.client) }
