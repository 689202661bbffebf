use Rattle.std.proofs.Common.{arith, sym, ap, subst, ◌∙◌}
use Rattle.live_nodes.specs.Seats.{Agree}
use Rattle.live_nodes.specs.Rows.{last_saw}
use Rattle.live_layout.specs.Order.{HasNearest}
use Rattle.live_layout.specs.Encodes.{words_of}
use Rattle.live_nodes.specs.Views.{View}
use Rattle.live_reads.proofs.Views.{may_read_open, open_read, reading_on_keeps}
use Rattle.live_scans.proofs.Nexts.{near_read}
use Rattle.live_scans.proofs.next.nearest_child.Goals as goal

pub child_after-requires : goal.child_after-requires
child_after-requires c =
    let v = c.args.seat.now.view in
    let o = c.requires.open in
    let spot = o.names.spot in
    let form = c.form_below.ensures spot.shape.key spot.shape.form o.names.named in
    record { cells = (may_read_open v c.args.seat.now.book c.args.here.words.now c.args.here.taken spot o.names.placed o.opened, (let l = o.opened.are.0 in let e = ap words_of form in omega (arith, l, e))) }

pub returns : goal.returns
returns c =
    let v = c.args.seat.now.view in
    let at = c.args.at in
    let b = c.args.seat.now.book in
    let words = c.args.here.words.now in
    let t = c.args.here.taken in
    let o = c.requires.open in
    let spot = o.names.spot in
    let form = c.form_below.ensures spot.shape.key spot.shape.form o.names.named in
    let v₂ = c.child_after.new.seat.view in
    let r = c.child_after.ensures.seat.others in
    let rest = ap (λ s. s.view) r in
    let book = ap (λ s. s.book) r in
    let k = reading_on_keeps v v₂ o.opened.before spot.number t (last_saw v₂.reads) (open_read v b words t spot o.names.placed o.opened v₂ rest) in
    record {
      book = book;
      id = ap (λ s. s.id) r;
      keeps = k.0;
      seen = ap (λ (z : View). z.seen) k.1;
      near = near_read c.args.up v v₂ b c.child_after.new.seat.book words t at o rest book (λ content agrees. subst (λ z. Agree content (last_saw z)) o.opened.reads (c.child_after.ensures.kept content agrees)) c.child_after.result
          (λ content n agrees encodes formed. subst (λ z. HasNearest c.args.up n.children z c.child_after.result) c.byte_at.ensures (c.child_after.ensures.is content n agrees encodes (formed ∙ sym form)));
    }
