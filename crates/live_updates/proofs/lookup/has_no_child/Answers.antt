use Rattle.std.proofs.Common.{rules, arith, sym, ap, subst, ◌/◌, ◌∙◌, ◌≡◌, Option, None, ℕ}
use Rattle.spec_map.specs.Map.{lookup}
use Rattle.live_layout.specs.Encodes.{words_of, IsBelow}
use Rattle.live_nodes.specs.Seats.{Agree}
use Rattle.live_nodes.specs.Rows.{last_saw}
use Rattle.live_nodes.specs.Levels.{place_at}
use Rattle.live_nodes.specs.Views.{View}
use Rattle.live_reads.proofs.Views.{first_word, may_read_open, open_read, reading_on_keeps}
use Rattle.live_updates.proofs.Seeks.{HasRead, lacks_checked, may_seek, seek_missed, seek_ends}
use Rattle.live_updates.proofs.lookup.has_no_child.Given.{Over}
use Rattle.live_updates.proofs.lookup.has_no_child.Goals as goal
use Rattle.live_updates.proofs.lookup.has_no_child.Goals.{After-index-words-0}

-- the node was read, and then its version word was checked
abbrev has_read : (g : Over) (c : After-index-words-0 g) → HasRead c.args.seat.now.view c.find.new.seat.view c.args.seat.now.book c.args.here.words.now c.args.here.taken c.args.name c.args.key c.args.height c.index-words-0.result.key g.Q.Lookups.lookup
has_read g c = let o = c.requires.open in record {
  node = o;
  rest = ap (λ s. s.view) c.find.ensures.seat.others;
  at_k = (first_word (place_at o.names.spot) c.args.seat.now.book c.args.here.words.now o.opened.are c.index-words-0.result c.index-words-0.result (sym c.index-words-0.is)).0;
  asked = c.requires.asks.0;
}

pub find-requires : goal.find-requires
find-requires g c =
    let o = c.requires.open in
    let spot = o.names.spot in
    let l = o.opened.are.0 in
    let e = ap words_of (c.form_below-form.ensures spot.shape.key spot.shape.form o.names.named) in
    record { cells = (may_read_open c.args.seat.now.view c.args.seat.now.book c.args.here.words.now c.args.here.taken spot o.names.placed o.opened, omega (arith, l, e)) }

pub returns-then-is_some : goal.returns-then-is_some
returns-then-is_some g c =
    let v = c.args.seat.now.view in
    let o = c.requires.open in
    let w = c.find.new.seat.view in
    let r = c.find.ensures.seat.others in
    let keeps = reading_on_keeps v w o.opened.before o.names.spot.number c.args.here.taken (last_saw w.reads) (open_read v c.args.seat.now.book c.args.here.words.now c.args.here.taken o.names.spot o.names.placed o.opened w (ap (λ s. s.view) r)) in
    record { book = ap (λ s. s.book) r; id = ap (λ s. s.id) r; keeps = keeps.0; lacks = ap (λ (z : View). z.seen) keeps.1 }

pub check-requires-clause-learns : goal.check-requires-clause-learns
check-requires-clause-learns g c =
    let free = c.requires.open.free in
    may_seek (has_read g (goal.at.check-requires-clause-learns g c).After-index-words-0) c.requires.legal c.find.new.seat.id (c.args.here.taken / 4) (c.requires.asks.1 ∙ sym (ap (λ s. s.id) c.find.ensures.seat.others)) (omega (arith, free))

pub returns : goal.returns
returns g c =
    let v = c.args.seat.now.view in
    let w = c.check.new.seat.view in
    let read = has_read g (goal.at.returns g c).After-index-words-0 in
    let o = c.requires.open in
    let r = c.find.ensures.seat.others in
    let told = c.check.ensures.checked in
    let seat = c.check.ensures.seat in
    let form = c.form_below-form.ensures o.names.spot.shape.key o.names.spot.shape.form o.names.named in
    let none : c.find.result ≡ None = search rules in
    let lacks = lacks_checked g.Q.Lookups.lookup c.check.result v w told.0 c.args.here.taken told.1 (λ hit. seek_ends read w told.0 told.2 hit
    (λ content agrees. subst (λ z. Agree content (last_saw z)) o.opened.reads (c.find.ensures.kept content agrees)) None tt
    (λ content n agrees encodes formed. subst (λ (z : ℕ × Option ℕ). IsBelow (lookup n.children z.0) z.1) (λ i. (c.byte_at-byte.ensures i, none i)) (c.find.ensures.is content n agrees encodes (formed ∙ sym form)))) (seek_missed read w told.0 told.2) in
    record { book = seat.0 ∙ ap (λ s. s.book) r; id = seat.1 ∙ ap (λ s. s.id) r; keeps = lacks.0; lacks = lacks.1 }
