use Rattle.std.proofs.Common.{sym, ap, ◌≡◌, ◌∙◌, ℕ}
use Rattle.live_nodes.specs.Levels.{place_at}
use Rattle.live_nodes.specs.Views.{View}
use Rattle.live_reads.specs.Paths.{Keeps}
use Rattle.live_reads.proofs.Views.{first_word, may_read_open}
use Rattle.live_scans.proofs.PathNodes.{known_keeps, known_opened, known_placed, opened_keeps, known_open}
use Rattle.live_scans.proofs.position.open_known.Goals as goal
use Rattle.live_scans.proofs.position.open_known.Goals.{After-take-taken, After-word}

-- ITS WORD was taken
module _ (c : After-take-taken) where
  abbrev key : ℕ
  key = c.index-words-0.result.key

  at_word : (place_at c.requires.known.names.spot).key ≡ key
  at_word = (first_word (place_at c.requires.known.names.spot) c.args.seat.now.book c.args.known.words.now c.requires.known.are c.index-words-0.result c.index-words-0.result (sym c.index-words-0.is)).0

  keeps : Keeps c.args.seat.now.view c.take-taken.new.seat.view × (c.take-taken.new.seat.view.client ≡ c.args.seat.now.view.client)
  keeps = known_keeps c.args.seat.now.view c.args.seat.now.book c.args.at c.args.known.words.now c.args.known.head c.requires.known key at_word c.take-taken.new.seat.view c.take-taken.result c.take-taken.ensures.taken

-- and its head was read
module _ (c : After-word) where
  abbrev t : After-take-taken
  t = (goal.at.After-word c).After-take-taken

  on : Keeps c.args.seat.now.view c.word.new.seat.view × (c.word.new.seat.view.client.seen ≡ c.args.seat.now.view.client.seen)
  on = opened_keeps c.args.seat.now.view c.args.seat.now.book c.args.at c.args.known.words.now c.args.known.head c.requires.known (key t) (at_word t) c.take-taken.new.seat.view c.take-taken.result c.take-taken.ensures.taken c.word.new.seat.view (ap (λ s. s.view) c.word.ensures.seat.others)

  book : c.word.new.seat.book ≡ c.args.seat.now.book
  book = ap (λ s. s.book) c.word.ensures.seat.others ∙ c.take-taken.ensures.seat.0

  id : c.word.new.seat.id ≡ c.args.seat.now.id
  id = ap (λ s. s.id) c.word.ensures.seat.others ∙ c.take-taken.ensures.seat.1

pub take-taken-requires-clause-known : goal.take-taken-requires-clause-known
take-taken-requires-clause-known c =
    let k = c.requires.known in
    let first = c.index-words-0.result in
    (place_at k.names.spot, (k.names.placed, (first_word (place_at k.names.spot) c.args.seat.now.book c.args.known.words.now k.are first first (sym c.index-words-0.is)).0))

pub returns-then-taken-ne0-clause-keeps : goal.returns-then-taken-ne0-clause-keeps
returns-then-taken-ne0-clause-keeps c = (keeps (goal.at.returns-then-taken-ne0-clause-keeps c).After-take-taken).0

pub returns-then-taken-ne0-clause-seen : goal.returns-then-taken-ne0-clause-seen
returns-then-taken-ne0-clause-seen c = ap (λ (z : View). z.seen) (keeps (goal.at.returns-then-taken-ne0-clause-seen c).After-take-taken).1

pub word-requires-clause-may : goal.word-requires-clause-may
word-requires-clause-may c =
    let d = (goal.at.word-requires-clause-may c).After-take-taken in
    let k = c.requires.known in
    may_read_open c.take-taken.new.seat.view c.take-taken.new.seat.book c.args.known.words.now c.take-taken.result k.names.spot
    (known_placed c.args.seat.now.view c.args.seat.now.book c.args.at c.args.known.words.now c.args.known.head k (key d) (at_word d) c.take-taken.new.seat.view c.take-taken.result c.take-taken.ensures.taken)
    (known_opened c.args.seat.now.view c.args.seat.now.book c.args.at c.args.known.words.now c.args.known.head k (key d) (at_word d) c.take-taken.new.seat.view c.take-taken.result c.take-taken.ensures.taken c.take-taken.new.seat.book c.take-taken.ensures.seat.0)

pub returns-then-word-head : goal.returns-then-word-head
returns-then-word-head c =
    let d = (goal.at.returns-then-word-head c).After-word in
    record { book = book d; id = id d; keeps = (on d).0; seen = (on d).1; opened = tt }

pub returns : goal.returns
returns c =
    let d = (goal.at.returns c).After-word in
    record {
      book = book d;
      id = id d;
      keeps = (on d).0;
      seen = (on d).1;
      opened = known_open c.args.seat.now.view c.args.seat.now.book c.args.at c.args.known.words.now c.args.known.head c.requires.known (key (t d)) (at_word (t d)) c.take-taken.new.seat.view c.take-taken.result c.take-taken.ensures.taken c.word.new.seat.view (ap (λ s. s.view) c.word.ensures.seat.others) c.word.new.seat.book (book d) c.if-taken-ne0.false
          (λ content agrees. (c.word.ensures.read content agrees).0 ∙ c.if-word-head.false);
    }
