use Rattle.std.proofs.Common.{rules, arith, refl, sym, ap, subst, get_or, ◌≡◌, ◌/◌, ◌∙◌}
use Rattle.word_book.specs.Book.{Name}
use Rattle.live_nodes.specs.Rows.{last_saw, without_reads}
use Rattle.live_nodes.specs.Levels.{place_at}
use Rattle.live_nodes.specs.Views.{View}
use Rattle.live_reads.specs.Paths.{HasOpened, Keeps, Sights}
use Rattle.live_reads.proofs.Finds.{keeps_then}
use Rattle.live_reads.proofs.Views.{first_word, may_read_open, open_long, IsHeaded, may_meet, meet_missed, meet_head}
use Rattle.live_reads.proofs.Sights.{sights_kept, sees_head}
use Rattle.live_reads.proofs.prefix_match.meet.Goals as goal
use Rattle.live_reads.proofs.prefix_match.meet.Goals.{In_ok-here, After-word-head, After-check}

-- THE NODE is open
module _ (c : In_ok-here) where
  abbrev kept : Sights c.open.new.seat.view c.args.name
  kept = sights_kept c.args.seat.now.view c.open.new.seat.view c.open.ensures.keeps c.args.name c.requires.sighted

  abbrev opened : HasOpened c.open.new.seat.view c.open.new.seat.book c.in_ok-here.here.words.now c.in_ok-here.here.taken c.requires.sighted.spot
  opened = c.in_ok-here.ensures.opened.1 c.requires.sighted

-- its head was read
module _ (c : After-word-head) where
  abbrev here : In_ok-here
  here = (goal.at.After-word-head c).In_ok-here

  rest : without_reads c.word-head.new.seat.view ≡ without_reads c.open.new.seat.view
  rest = ap (λ s. s.view) c.word-head.ensures.seat.others

  at_first : (d : Name) → (place_at c.requires.sighted.spot).key ≡ (get_or c.in_ok-here.here.words.now 0 d).key
  at_first d = (first_word (place_at c.requires.sighted.spot) c.open.new.seat.book c.in_ok-here.here.words.now (opened here).are (get_or c.in_ok-here.here.words.now 0 d) d refl).0

-- and its word is compared
module _ (c : After-check) where
  abbrev read : After-word-head
  read = (goal.at.After-check c).After-word-head

  abbrev Told : Type 0
  Told = (c.check.new.seat.book ≡ c.args.seat.now.book) × (c.check.new.seat.id ≡ c.args.seat.now.id) × Keeps c.args.seat.now.view c.check.new.seat.view × (c.check.new.seat.view.client.seen ≡ c.args.seat.now.view.client.seen)

  told : Keeps c.open.new.seat.view c.check.new.seat.view → c.check.new.seat.view.client.seen ≡ c.open.new.seat.view.client.seen → Told
  told keeps seen =
      let r = c.word-head.ensures.seat.others in
      let o = c.open.ensures in (
        c.check.ensures.seat.0 ∙ (ap (λ s. s.book) r ∙ o.book),
        c.check.ensures.seat.1 ∙ (ap (λ s. s.id) r ∙ o.id),
        keeps_then c.args.seat.now.view c.open.new.seat.view c.check.new.seat.view o.keeps keeps,
        seen ∙ ap (λ (z : View). z.seen) o.client,
      )

  headed : c.check.ensures.checked.0 ≡ c.in_ok-here.here.taken
      → Keeps c.open.new.seat.view c.check.new.seat.view × (c.check.new.seat.view.client.seen ≡ c.open.new.seat.view.client.seen)
      × IsHeaded c.check.new.seat.view c.open.new.seat.book c.in_ok-here.here.words.now c.in_ok-here.here.taken c.args.name (last_saw c.word-head.new.seat.view.reads)
  headed hit = meet_head c.open.new.seat.view c.open.new.seat.book c.in_ok-here.here.words.now c.in_ok-here.here.taken c.args.name (kept (here read)) (opened (here read)) c.word-head.new.seat.view (rest read)
      (get_or c.in_ok-here.here.words.now 0 c.index-here-0.result).key (at_first read c.index-here-0.result) c.check.new.seat.view c.check.ensures.checked.0 c.check.ensures.checked.2 hit

pub word-head-requires-clause-may : goal.word-head-requires-clause-may
word-head-requires-clause-may c =
    let o = (goal.at.word-head-requires-clause-may c).In_ok-here in
    may_read_open c.open.new.seat.view c.open.new.seat.book c.in_ok-here.here.words.now c.in_ok-here.here.taken c.requires.sighted.spot (kept o).placed (opened o)

pub word-head-requires-clause-inside : goal.word-head-requires-clause-inside
word-head-requires-clause-inside c =
    let o = (goal.at.word-head-requires-clause-inside c).In_ok-here in
    open_long c.open.new.seat.view c.open.new.seat.book c.in_ok-here.here.words.now c.in_ok-here.here.taken c.requires.sighted.spot (kept o).placed (opened o)

pub check-requires-clause-learns : goal.check-requires-clause-learns
check-requires-clause-learns c =
    let r = (goal.at.check-requires-clause-learns c).After-word-head in
    let free = c.in_ok-here.ensures.opened.0 in
    may_meet c.open.new.seat.view c.open.new.seat.book c.in_ok-here.here.words.now c.in_ok-here.here.taken c.args.name (kept (here r)) (opened (here r)) c.word-head.new.seat.view (rest r)
    (get_or c.in_ok-here.here.words.now 0 c.index-here-0.result).key (at_first r c.index-here-0.result) c.word-head.new.seat.id (c.in_ok-here.here.taken / 4) (omega (arith, free))

pub returns-then-not-check-clause-book : goal.returns-then-not-check-clause-book
returns-then-not-check-clause-book c =
    let k = (goal.at.returns-then-not-check-clause-book c).After-check in
    let r = read k in
    let missed = meet_missed c.open.new.seat.view c.open.new.seat.book c.in_ok-here.here.words.now c.in_ok-here.here.taken c.args.name (kept (here r)) (opened (here r)) c.word-head.new.seat.view (rest r)
    (get_or c.in_ok-here.here.words.now 0 c.index-here-0.result).key (at_first r c.index-here-0.result) c.check.new.seat.view c.check.ensures.checked.0 c.check.ensures.checked.2 (search rules) in
    (told k missed.0 (ap (λ (z : View). z.seen) missed.1)).0

pub returns-then-not-check-clause-id : goal.returns-then-not-check-clause-id
returns-then-not-check-clause-id c =
    let k = (goal.at.returns-then-not-check-clause-id c).After-check in
    let r = read k in
    let missed = meet_missed c.open.new.seat.view c.open.new.seat.book c.in_ok-here.here.words.now c.in_ok-here.here.taken c.args.name (kept (here r)) (opened (here r)) c.word-head.new.seat.view (rest r)
    (get_or c.in_ok-here.here.words.now 0 c.index-here-0.result).key (at_first r c.index-here-0.result) c.check.new.seat.view c.check.ensures.checked.0 c.check.ensures.checked.2 (search rules) in
    (told k missed.0 (ap (λ (z : View). z.seen) missed.1)).1

pub returns-then-not-check-clause-keeps : goal.returns-then-not-check-clause-keeps
returns-then-not-check-clause-keeps c =
    let k = (goal.at.returns-then-not-check-clause-keeps c).After-check in
    let r = read k in
    let missed = meet_missed c.open.new.seat.view c.open.new.seat.book c.in_ok-here.here.words.now c.in_ok-here.here.taken c.args.name (kept (here r)) (opened (here r)) c.word-head.new.seat.view (rest r)
    (get_or c.in_ok-here.here.words.now 0 c.index-here-0.result).key (at_first r c.index-here-0.result) c.check.new.seat.view c.check.ensures.checked.0 c.check.ensures.checked.2 (search rules) in
    (told k missed.0 (ap (λ (z : View). z.seen) missed.1)).2

pub returns-then-not-check-clause-seen : goal.returns-then-not-check-clause-seen
returns-then-not-check-clause-seen c =
    let k = (goal.at.returns-then-not-check-clause-seen c).After-check in
    let r = read k in
    let missed = meet_missed c.open.new.seat.view c.open.new.seat.book c.in_ok-here.here.words.now c.in_ok-here.here.taken c.args.name (kept (here r)) (opened (here r)) c.word-head.new.seat.view (rest r)
    (get_or c.in_ok-here.here.words.now 0 c.index-here-0.result).key (at_first r c.index-here-0.result) c.check.new.seat.view c.check.ensures.checked.0 c.check.ensures.checked.2 (search rules) in
    (told k missed.0 (ap (λ (z : View). z.seen) missed.1)).3

pub returns-clause-book : goal.returns-clause-book
returns-clause-book c =
    let k = (goal.at.returns-clause-book c).After-check in
    let h = headed k (search rules) in
    (told k h.0 h.1).0

pub returns-clause-id : goal.returns-clause-id
returns-clause-id c =
    let k = (goal.at.returns-clause-id c).After-check in
    let h = headed k (search rules) in
    (told k h.0 h.1).1

pub returns-clause-keeps : goal.returns-clause-keeps
returns-clause-keeps c =
    let k = (goal.at.returns-clause-keeps c).After-check in
    let h = headed k (search rules) in
    (told k h.0 h.1).2

pub returns-clause-seen : goal.returns-clause-seen
returns-clause-seen c =
    let k = (goal.at.returns-clause-seen c).After-check in
    let h = headed k (search rules) in
    (told k h.0 h.1).3

pub returns-clause-met : goal.returns-clause-met
returns-clause-met c =
    let w = c.check.new.seat.view in
    let words = c.in_ok-here.here.words.now in
    let t = c.in_ok-here.here.taken in
    let saw = last_saw c.word-head.new.seat.view.reads in
    let its = sym (c.check.ensures.seat.0 ∙ ap (λ s. s.book) c.word-head.ensures.seat.others) in
    let is = subst (λ z. IsHeaded w z words t c.args.name saw) its (headed (goal.at.returns-clause-met c).After-check (search rules)).2 in
    sees_head w c.check.new.seat.book words t c.args.name c.args.key c.ranges.key.fits saw c.word-head.result (λ content agrees. (c.word-head.ensures.read content agrees).0) is c.in_ok-here.ensures.opened.0 c.compare-prefix_match.result c.compare-prefix_match.ensures
