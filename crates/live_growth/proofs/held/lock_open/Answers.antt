use Rattle.std.proofs.Common.{rules, arith, sym, ◌≡◌, ◌/◌}
use Rattle.live_nodes.specs.Levels.{place_at}
use Rattle.live_growth.specs.Holds.{HasLockedOpen}
use Rattle.live_reads.proofs.Views.{first_word}
use Rattle.live_growth.proofs.Locks.{may_lock_open, not_locked_open, is_locked_open}
use Rattle.live_growth.proofs.held.lock_open.Goals as goal
use Rattle.live_growth.proofs.held.lock_open.Goals.{After-index-words-0}

-- THE FIRST WORD is the node's version
module _ (c : After-index-words-0) where
  first : ((place_at c.requires.open.names.spot).key ≡ c.index-words-0.result.key) × (c.index-words-0.result.book ≡ c.args.seat.now.book)
  first = first_word (place_at c.requires.open.names.spot) c.args.seat.now.book c.args.here.words.now c.requires.open.opened.are c.index-words-0.result c.index-words-0.result (sym c.index-words-0.is)

pub lock-requires-clause-book : goal.lock-requires-clause-book
lock-requires-clause-book c = sym (first (goal.at.lock-requires-clause-book c).After-index-words-0).1

pub lock-requires-clause-locks : goal.lock-requires-clause-locks
lock-requires-clause-locks c =
    let at_first = (first (goal.at.lock-requires-clause-locks c).After-index-words-0).0 in
    let o = c.requires.open in
    let free = o.free in
    may_lock_open c.args.seat.now.view c.args.seat.now.book c.args.here.words.now c.args.here.taken c.args.name c.args.key c.args.height o c.index-words-0.result.key at_first c.args.seat.now.id (c.args.here.taken / 4) (omega (arith, free))

pub returns-then-not-lock : goal.returns-then-not-lock
returns-then-not-lock c =
    let at_first = (first (goal.at.returns-then-not-lock c).After-index-words-0).0 in
    let told = c.lock.ensures.locked in
    let s = c.lock.ensures.seat in
    let same = not_locked_open c.args.seat.now.view c.args.seat.now.book c.args.here.words.now c.args.here.taken c.args.name c.args.key c.args.height c.requires.open c.index-words-0.result.key at_first c.lock.new.seat.view told.0 told.1 told.3 (search rules) in
    record { book = s.0; id = s.1; locked = tt; none = same }

pub returns : goal.returns
returns c =
    let v = c.args.seat.now.view in
    let b = c.args.seat.now.book in
    let words = c.args.here.words.now in
    let told = c.lock.ensures.locked in
    let s = c.lock.ensures.seat in
    let first = c.index-words-0.result in
    let locked : HasLockedOpen v c.lock.new.seat.view b words c.args.here.taken c.args.name c.args.key c.args.height c.args.here.taken = λ o.
    (let at_first = (first_word (place_at o.names.spot) b words o.opened.are first first (sym c.index-words-0.is)).0 in
    is_locked_open v b words c.args.here.taken c.args.name c.args.key c.args.height o first.key at_first c.lock.new.seat.view told.0 told.1 told.3 (search rules) (search rules)) in
    record { book = s.0; id = s.1; locked = locked; none = tt }
