use Rattle.std.proofs.Common.{rules, sym, arith, [], ◌≡◌, ◌/◌, ◌%◌, ◌∙◌}
use Rattle.live_nodes.specs.Levels.{place_at}
use Rattle.live_reads.proofs.Views.{reading, first_word}
use Rattle.live_growth.proofs.Locks.{alike_taken}
use Rattle.live_growth.proofs.Again.{may_reclaim, not_reclaimed, is_reclaimed}
use Rattle.live_growth.proofs.held.reclaim.Goals as goal
use Rattle.live_growth.proofs.held.reclaim.Goals.{After-index-words-0, After-take-obsolete, After-index-words-0-2}

-- THE FIRST WORD is the node's version
module _ (c : After-index-words-0) where
  first : ((place_at c.requires.sighted.spot).key ≡ c.index-words-0.result.key) × (c.index-words-0.result.book ≡ c.args.seat.now.book)
  first = first_word (place_at c.requires.sighted.spot) c.args.seat.now.book c.args.words.now (c.requires.words c.requires.sighted.spot c.requires.sighted.named) c.index-words-0.result c.index-words-0.result (sym c.index-words-0.is)

-- it was taken
module _ (c : After-take-obsolete) where
  taken : c.take-obsolete.new.seat.view ≡ reading c.args.seat.now.view c.requires.sighted.spot.number c.take-obsolete.result []
  taken = c.take-obsolete.ensures.taken (place_at c.requires.sighted.spot) c.requires.sighted.placed (first (goal.at.After-take-obsolete c).After-index-words-0).0

-- THE FIRST WORD AGAIN
module _ (c : After-index-words-0-2) where
  again : ((place_at c.requires.sighted.spot).key ≡ c.index-words-0-2.result.key) × (c.index-words-0-2.result.book ≡ c.args.seat.now.book)
  again = first_word (place_at c.requires.sighted.spot) c.args.seat.now.book c.args.words.now (c.requires.words c.requires.sighted.spot c.requires.sighted.named) c.index-words-0-2.result c.index-words-0-2.result (sym c.index-words-0-2.is)

pub take-obsolete-requires-clause-book : goal.take-obsolete-requires-clause-book
take-obsolete-requires-clause-book c = sym (first (goal.at.take-obsolete-requires-clause-book c).After-index-words-0).1

pub take-obsolete-requires-clause-known : goal.take-obsolete-requires-clause-known
take-obsolete-requires-clause-known c = (place_at c.requires.sighted.spot, (c.requires.sighted.placed, (first (goal.at.take-obsolete-requires-clause-known c).After-index-words-0).0))

pub returns-then-obsolete-ne3 : goal.returns-then-obsolete-ne3
returns-then-obsolete-ne3 c =
    let u = c.take-obsolete.ensures.seat in
    record { book = u.0; id = u.1; reclaimed = tt; none = alike_taken c.args.seat.now.view c.take-obsolete.new.seat.view c.requires.sighted.spot.number c.take-obsolete.result (taken (goal.at.returns-then-obsolete-ne3 c).After-take-obsolete) }

pub reclaim-requires-clause-book : goal.reclaim-requires-clause-book
reclaim-requires-clause-book c = c.take-obsolete.ensures.seat.0 ∙ sym (again (goal.at.reclaim-requires-clause-book c).After-index-words-0-2).1

pub reclaim-requires-clause-locks : goal.reclaim-requires-clause-locks
reclaim-requires-clause-locks c =
    let at = goal.at.reclaim-requires-clause-locks c in
    let t = c.take-obsolete.result in
    let odd : t % 4 ≡ 3 = search rules in
    may_reclaim c.args.seat.now.view c.args.name c.requires.sighted c.take-obsolete.new.seat.view t (taken at.After-take-obsolete) c.index-words-0-2.result.key (again at.After-index-words-0-2).0 c.take-obsolete.new.seat.id (t / 4) (omega (arith, odd))

pub returns-then-not-reclaim : goal.returns-then-not-reclaim
returns-then-not-reclaim c =
    let at = goal.at.returns-then-not-reclaim c in
    let told = c.reclaim.ensures.locked in
    let s = c.reclaim.ensures.seat in
    let u = c.take-obsolete.ensures.seat in
    let same = not_reclaimed c.args.seat.now.view c.args.name c.requires.sighted c.take-obsolete.new.seat.view c.take-obsolete.result (taken at.After-take-obsolete) c.index-words-0-2.result.key (again at.After-index-words-0-2).0 c.reclaim.new.seat.view told.0 told.1 told.3 (search rules) in
    record { book = s.0 ∙ u.0; id = s.1 ∙ u.1; reclaimed = tt; none = same }

pub returns : goal.returns
returns c =
    let at = goal.at.returns c in
    let told = c.reclaim.ensures.locked in
    let s = c.reclaim.ensures.seat in
    let u = c.take-obsolete.ensures.seat in
    let back = is_reclaimed c.args.seat.now.view c.args.name c.requires.sighted c.take-obsolete.new.seat.view c.take-obsolete.result (taken at.After-take-obsolete) c.index-words-0-2.result.key (again at.After-index-words-0-2).0 c.reclaim.new.seat.view told.0 told.1 told.3
    (search rules) (search rules) (search rules) in
    record { book = s.0 ∙ u.0; id = s.1 ∙ u.1; reclaimed = back; none = tt }
