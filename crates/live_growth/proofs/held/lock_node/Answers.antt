use Rattle.std.proofs.Common.{rules, arith, sym, ap, subst, ℕ, List, [], ◌≡◌, ◌/◌, ◌%◌, ◌∙◌}
use Rattle.live_layout.specs.Head.{IsHead}
use Rattle.live_nodes.specs.Rows.{last_saw, without_reads}
use Rattle.live_nodes.specs.Levels.{place_at}
use Rattle.live_reads.specs.Paths.{AreNamed}
use Rattle.live_reads.specs.Sees.{Sees}
use Rattle.live_reads.specs.declared.prefix_match.PrefixMatch.TheVariants as prefix_matches
use Rattle.live_reads.proofs.Views.{reading, first_word, at_place, node_taken, may_read_node, reads_on, open_long_of}
use Rattle.live_growth.proofs.Locks.{alike_taken, alike_read, may_lock, not_locked, is_locked}
use Rattle.live_growth.proofs.held.lock_node.Goals as goal
use Rattle.live_growth.proofs.held.lock_node.Goals.{After-index-words-0, After-take-free, After-word-head, After-index-words-0-2, After-lock}

-- THE FIRST WORD is the node's version
module _ (c : After-index-words-0) where
  first : ((place_at c.requires.named.spot).key ≡ c.index-words-0.result.key) × (c.index-words-0.result.book ≡ c.args.seat.now.book)
  first = first_word (place_at c.requires.named.spot) c.args.seat.now.book c.args.words.now (c.requires.words c.requires.named.spot c.requires.named.named) c.index-words-0.result c.index-words-0.result (sym c.index-words-0.is)

-- it was taken
module _ (c : After-take-free) where
  taken : c.take-free.new.seat.view ≡ reading c.args.seat.now.view c.requires.named.spot.number c.take-free.result []
  taken = node_taken c.args.seat.now.view c.args.name c.args.key c.args.height c.requires.named c.args.seat.now.book c.args.words.now c.requires.words c.index-words-0.result.key (first (goal.at.After-take-free c).After-index-words-0).0
      c.take-free.new.seat.view c.take-free.result c.take-free.ensures.taken

-- the head was read
module _ (c : After-word-head) where
  is_read : c.word-head.new.seat.view ≡ reading c.args.seat.now.view c.requires.named.spot.number c.take-free.result (last_saw c.word-head.new.seat.view.reads)
  is_read = reads_on c.args.seat.now.view c.word-head.new.seat.view c.requires.named.spot.number c.take-free.result (ap (λ s. s.view) c.word-head.ensures.seat.others ∙ ap without_reads (taken (goal.at.After-word-head c).After-take-free))

  book : c.word-head.new.seat.book ≡ c.args.seat.now.book
  book = ap (λ s. s.book) c.word-head.ensures.seat.others ∙ c.take-free.ensures.seat.0

  id : c.word-head.new.seat.id ≡ c.args.seat.now.id
  id = ap (λ s. s.id) c.word-head.ensures.seat.others ∙ c.take-free.ensures.seat.1

-- THE FIRST WORD AGAIN
module _ (c : After-index-words-0-2) where
  again : ((place_at c.requires.named.spot).key ≡ c.index-words-0-2.result.key) × (c.index-words-0-2.result.book ≡ c.args.seat.now.book)
  again = first_word (place_at c.requires.named.spot) c.args.seat.now.book c.args.words.now (c.requires.words c.requires.named.spot c.requires.named.named) c.index-words-0-2.result c.index-words-0-2.result (sym c.index-words-0-2.is)

pub take-free-requires-clause-book : goal.take-free-requires-clause-book
take-free-requires-clause-book c = sym (first (goal.at.take-free-requires-clause-book c).After-index-words-0).1

pub take-free-requires-clause-known : goal.take-free-requires-clause-known
take-free-requires-clause-known c =
    let at_first = (first (goal.at.take-free-requires-clause-known c).After-index-words-0).0 in
    at_place c.args.seat.now.view c.args.name c.args.key c.args.height c.requires.named c.args.seat.now.book c.args.words.now c.requires.words c.index-words-0.result.key at_first

pub returns-then-free-ne0 : goal.returns-then-free-ne0
returns-then-free-ne0 c =
    let u = c.take-free.ensures.seat in
    record { book = u.0; id = u.1; locked = tt; none = alike_taken c.args.seat.now.view c.take-free.new.seat.view c.requires.named.spot.number c.take-free.result (taken (goal.at.returns-then-free-ne0 c).After-take-free) }

pub word-head-requires-clause-may : goal.word-head-requires-clause-may
word-head-requires-clause-may c =
    let at_first = (first (goal.at.word-head-requires-clause-may c).After-index-words-0).0 in
    let words = subst (λ z. AreNamed z c.args.name c.args.words.now) (sym c.take-free.ensures.seat.0) c.requires.words in
    may_read_node c.args.seat.now.view c.args.name c.args.key c.args.height c.requires.named c.take-free.new.seat.book c.args.words.now words c.index-words-0.result.key at_first c.take-free.new.seat.view c.take-free.result c.take-free.ensures.taken

pub word-head-requires-clause-inside : goal.word-head-requires-clause-inside
word-head-requires-clause-inside c = open_long_of c.requires.named.spot c.args.seat.now.book c.args.words.now (c.requires.words c.requires.named.spot c.requires.named.named)

pub returns-in_default : goal.returns-in_default
returns-in_default c =
    let h = (goal.at.returns-in_default c).After-word-head in
    let v₂ = c.word-head.new.seat.view in
    record { book = book h; id = id h; locked = tt; none = alike_read c.args.seat.now.view v₂ c.requires.named.spot.number c.take-free.result (last_saw v₂.reads) (is_read h) }

pub returns-then-at-height : goal.returns-then-at-height
returns-then-at-height c =
    let h = (goal.at.returns-then-at-height c).After-word-head in
    let v₂ = c.word-head.new.seat.view in
    record { book = book h; id = id h; locked = tt; none = alike_read c.args.seat.now.view v₂ c.requires.named.spot.number c.take-free.result (last_saw v₂.reads) (is_read h) }

pub lock-requires-clause-book : goal.lock-requires-clause-book
lock-requires-clause-book c =
    let at = goal.at.lock-requires-clause-book c in
    book at.After-word-head ∙ sym (again at.After-index-words-0-2).1

pub lock-requires-clause-locks : goal.lock-requires-clause-locks
lock-requires-clause-locks c =
    let at = goal.at.lock-requires-clause-locks c in
    let t = c.take-free.result in
    let v₂ = c.word-head.new.seat.view in
    let zero : t % 4 ≡ 0 = search rules in
    may_lock c.args.seat.now.view c.args.name c.args.key c.args.height c.requires.named v₂ t (last_saw v₂.reads) (is_read at.After-word-head) c.index-words-0-2.result.key (again at.After-index-words-0-2).0 c.word-head.new.seat.id (t / 4) (omega (arith, zero))

pub returns-then-not-lock : goal.returns-then-not-lock
returns-then-not-lock c =
    let at = goal.at.returns-then-not-lock c in
    let h = at.After-word-head in
    let v₂ = c.word-head.new.seat.view in
    let told = c.lock.ensures.locked in
    let s = c.lock.ensures.seat in
    let same = not_locked c.args.seat.now.view c.args.name c.args.key c.args.height c.requires.named v₂ c.take-free.result (last_saw v₂.reads) (is_read h) c.index-words-0-2.result.key (again at.After-index-words-0-2).0 c.lock.new.seat.view told.0 told.1 told.3 (search rules) in
    record { book = s.0 ∙ book h; id = s.1 ∙ id h; locked = tt; none = same }

pub returns : goal.returns
returns c =
    let at = goal.at.returns c in
    let h = at.After-word-head in
    let key = c.args.key in
    let v₂ = c.word-head.new.seat.view in
    let told = c.lock.ensures.locked in
    let s = c.lock.ensures.seat in
    let covers : c.compare.result ≡ prefix_matches.Covers c.in-Covers.at = search rules in
    let same_height : c.in-Covers.at ≡ c.args.height = search rules in
    let sees = λ (form : ℕ) (q : List ℕ) (is : IsHead c.word-head.result form q). subst (λ z. Sees q key (prefix_matches.Covers z)) same_height (subst (Sees q key) covers (c.compare.ensures form q is)) in
    let locked = is_locked c.args.seat.now.view c.args.name key c.args.height c.requires.named v₂ c.take-free.result (last_saw v₂.reads) (is_read h) c.index-words-0-2.result.key (again at.After-index-words-0-2).0 c.lock.new.seat.view told.0 told.1 told.3
    (search rules) (search rules) (search rules) c.ranges.key.fits c.word-head.result (λ content agrees. (c.word-head.ensures.read content agrees).0) sees in
    record { book = s.0 ∙ book h; id = s.1 ∙ id h; locked = locked; none = tt }
