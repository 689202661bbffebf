use Rattle.std.proofs.Common.{rules, arith, sym, ap, subst, ◌≡◌, ◌/◌, ◌∙◌}
use Rattle.spec_map.specs.Map.{lookup}
use Rattle.live_layout.specs.Encodes.{words_of, IsBelow}
use Rattle.live_nodes.specs.Rows.{last_saw, without_reads}
use Rattle.live_nodes.specs.Seats.{Agree}
use Rattle.live_nodes.specs.Levels.{place_at}
use Rattle.live_reads.proofs.Views.{first_word, may_read_open, may_look, look_missed, look_ends}
use Rattle.live_reads.proofs.path.look.Given.{Over}
use Rattle.live_reads.proofs.path.look.Goals as goal
use Rattle.live_reads.proofs.path.look.Goals.{After-find-found, After-check}

-- THE BYTE'S ENTRY was read
module _ (g : Over) (c : After-find-found g) where
  rest : without_reads c.find-found.new.seat.view ≡ without_reads c.args.seat.now.view
  rest = ap (λ s. s.view) c.find-found.ensures.seat.others

-- and the node's word is compared
module _ (g : Over) (c : After-check g) where
  at_first : (place_at c.requires.open.names.spot).key ≡ c.index-words-0.result.key
  at_first = (first_word (place_at c.requires.open.names.spot) c.args.seat.now.book c.args.here.words.now c.requires.open.opened.are c.index-words-0.result c.index-words-0.result (sym c.index-words-0.is)).0

  book : c.check.new.seat.book ≡ c.args.seat.now.book
  book = c.check.ensures.seat.0 ∙ ap (λ s. s.book) c.find-found.ensures.seat.others

  id : c.check.new.seat.id ≡ c.args.seat.now.id
  id = c.check.ensures.seat.1 ∙ ap (λ s. s.id) c.find-found.ensures.seat.others

pub find-found-requires : goal.find-found-requires
find-found-requires g c =
    let o = c.requires.open in
    let spot = o.names.spot in
    let l = o.opened.are.0 in
    let e = ap words_of (c.form_below-form.ensures spot.shape.key spot.shape.form o.names.named) in
    record { cells = (may_read_open c.args.seat.now.view c.args.seat.now.book c.args.here.words.now c.args.here.taken spot o.names.placed o.opened, omega (arith, l, e)) }

pub check-requires-clause-learns : goal.check-requires-clause-learns
check-requires-clause-learns g c =
    let o = c.requires.open in
    let at_first = (first_word (place_at o.names.spot) c.args.seat.now.book c.args.here.words.now o.opened.are c.index-words-0.result c.index-words-0.result (sym c.index-words-0.is)).0 in
    let free = o.free in
    may_look c.args.seat.now.view c.args.seat.now.book c.args.here.words.now c.args.here.taken c.args.name c.args.key c.args.height o c.find-found.new.seat.view (rest g (goal.at.check-requires-clause-learns g c).After-find-found)
    c.index-words-0.result.key at_first g.A.Asks.reads g.A.Asks.ask c.requires.asks.0 c.find-found.new.seat.id (c.args.here.taken / 4) (c.requires.asks.1 ∙ sym (ap (λ s. s.id) c.find-found.ensures.seat.others)) (omega (arith, free))

pub returns-then-not-check : goal.returns-then-not-check
returns-then-not-check g c =
    let at = goal.at.returns-then-not-check g c in
    let k = at.After-check in
    let told = c.check.ensures.checked in
    let keeps = look_missed c.args.seat.now.view c.args.seat.now.book c.args.here.words.now c.args.here.taken c.args.name c.args.key c.args.height c.requires.open c.find-found.new.seat.view (rest g at.After-find-found)
    c.index-words-0.result.key (at_first g k) g.A.Asks.reads g.A.Asks.ask c.requires.asks.0 c.check.new.seat.view told.0 told.2 (search rules) in
    record { book = book g k; id = id g k; keeps = keeps.0; looked = keeps.1 }

pub returns : goal.returns
returns g c =
    let at = goal.at.returns g c in
    let k = at.After-check in
    let told = c.check.ensures.checked in
    let o = c.requires.open in
    let form = c.form_below-form.ensures o.names.spot.shape.key o.names.spot.shape.form o.names.named in
    let ends = look_ends c.args.seat.now.view c.args.seat.now.book c.args.here.words.now c.args.here.taken c.args.name c.args.key c.args.height o c.find-found.new.seat.view (rest g at.After-find-found)
    c.index-words-0.result.key (at_first g k) g.A.Asks.reads g.A.Asks.ask c.requires.asks.0 c.check.new.seat.view told.0 told.2 (search rules) (λ content agrees. subst (λ z. Agree content (last_saw z)) o.opened.reads (c.find-found.ensures.kept content agrees)) c.find-found.result
    (λ content n agrees encodes formed. subst (λ z. IsBelow (lookup n.children z) c.find-found.result) c.byte_at-byte.ensures (c.find-found.ensures.is content n agrees encodes (formed ∙ sym form))) in
    record { book = book g k; id = id g k; keeps = ends.0; looked = ends.1 }
