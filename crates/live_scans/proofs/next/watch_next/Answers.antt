use Rattle.std.proofs.Common.{rules, arith, refl, sym, ap, subst, get_or, ℕ, List, Option, Some, ◌/◌, ◌≡◌, ◌∙◌}
use Rattle.word_book.specs.Book.{reads, none_joined}
use Rattle.live_nodes.specs.Plays.{Checks}
use Rattle.live_nodes.specs.Calls.{MayCheck}
use Rattle.live_nodes.specs.Seats.{IsIn}
use Rattle.live_nodes.specs.Levels.{place_at}
use Rattle.live_nodes.specs.Tree.{IsMap, LearnsBelow}
use Rattle.live_layout.specs.Head.{IsHead}
use Rattle.live_reads.specs.Paths.{HasOpened, Keeps, Sights}
use Rattle.live_reads.specs.Sees.{Sees}
use Rattle.live_reads.specs.Mismatches.{first_number}
use Rattle.live_reads.specs.declared.prefix_match.PrefixMatch.TheVariants as prefix_matches
use Rattle.live_reads.proofs.Views.{first_word, may_read_open, open_long}
use Rattle.live_scans.proofs.Nexts.{ChildRead, may_watch_next, next_missed, next_keeps, next_is}
use Rattle.live_scans.proofs.next.watch_next.Given.{Over}
use Rattle.live_scans.proofs.next.watch_next.Goals as goal
use Rattle.live_scans.proofs.next.watch_next.Goals.{After-slot_below-below, In_ok-there, After-index-there-0, After-check}

-- THE CHILD by its word
module _ (g : Over) (c : After-slot_below-below g) where
  abbrev n : Sights c.args.seat.now.view c.slot_below-below.result
  n = subst (λ z. Sights c.args.seat.now.view z) (sym (c.slot_below-below.ensures c.requires.met.0 c.requires.met.1)) c.requires.met.2

-- it is open
module _ (g : Over) (c : In_ok-there g) where
  abbrev below : Sights c.args.seat.now.view c.slot_below-below.result
  below = n g (goal.at.In_ok-there g c).After-slot_below-below

  opened : HasOpened c.open.new.seat.view c.open.new.seat.book c.in_ok-there.there.words.now c.in_ok-there.there.taken below.spot
  opened = c.in_ok-there.ensures.opened.1 below

  placed : IsIn (place_at below.spot) c.open.new.seat.view.places
  placed = c.open.ensures.keeps.places (place_at below.spot) below.placed

-- its head was read
module _ (g : Over) (c : After-index-there-0 g) where
  abbrev k : ℕ
  k = (get_or c.in_ok-there.there.words.now 0 c.index-there-0.result).key

  abbrev child : ChildRead c.args.up c.args.seat.now.view c.args.seat.now.book c.args.here.words.now c.args.here.taken c.args.at c.args.child c.slot_below-below.result c.open.new.seat.view c.open.new.seat.book c.in_ok-there.there.words.now c.in_ok-there.there.taken c.word-head.new.seat.view k
  child =
      let o = (goal.at.After-index-there-0 g c).In_ok-there in
      let told = c.open.ensures in record {
        near = c.requires.near;
        high = c.requires.height.0;
        low_byte = omega arith;
        child = below g o;
        is_child = λ s e. sym (c.slot_below-below.ensures s e);
        apart = c.if-below-at.false;
        keeps = told.keeps;
        client = told.client;
        opened = opened g o;
        reads = c.in_ok-there.ensures.taken (below g o);
        rest = ap (λ s. s.view) c.word-head.ensures.seat.others;
        first = (first_word (place_at (below g o).spot) c.open.new.seat.book c.in_ok-there.there.words.now (opened g o).are (get_or c.in_ok-there.there.words.now 0 c.index-there-0.result) c.index-there-0.result refl).0;
      }

  at_above : (g.N.Above.number ≡ c.requires.near.here.names.spot.number) × (g.N.Above.word ≡ Some c.args.here.taken)
  at_above = (c.requires.above.0 ∙ ap first_number c.requires.near.here.opened.reads, c.requires.above.1)

-- and its word is compared
module _ (g : Over) (c : After-check g) where
  abbrev read_it : After-index-there-0 g
  read_it = (goal.at.After-check g c).After-index-there-0

  told : Checks (LearnsBelow c.requires.near.here.names.spot.number (Some c.args.here.taken)) (reads (k g read_it)) c.word-head.new.seat.view c.check.ensures.checked.0 none_joined c.check.new.seat.view
  told = subst (λ (z : ℕ × Option ℕ). Checks (LearnsBelow z.0 z.1) (reads (k g read_it)) c.word-head.new.seat.view c.check.ensures.checked.0 none_joined c.check.new.seat.view) (λ i. ((at_above g read_it).0 i, (at_above g read_it).1 i)) c.check.ensures.checked.2

  book_since : c.check.new.seat.book ≡ c.open.new.seat.book
  book_since = c.check.ensures.seat.0 ∙ ap (λ s. s.book) c.word-head.ensures.seat.others

  book : c.check.new.seat.book ≡ c.args.seat.now.book
  book = book_since ∙ c.open.ensures.book

  id : c.check.new.seat.id ≡ c.args.seat.now.id
  id = c.check.ensures.seat.1 ∙ (ap (λ s. s.id) c.word-head.ensures.seat.others ∙ c.open.ensures.id)

  kept : c.check.ensures.checked.0 ≡ c.in_ok-there.there.taken → Keeps c.args.seat.now.view c.check.new.seat.view × (c.check.new.seat.view.client.seen ≡ c.args.seat.now.view.client.seen)
  kept = next_keeps (child g read_it) c.check.new.seat.view c.check.ensures.checked.0 told

pub open-requires-clause-sighted : goal.open-requires-clause-sighted
open-requires-clause-sighted g c = n g (goal.at.open-requires-clause-sighted g c).After-slot_below-below

pub word-head-requires-clause-may : goal.word-head-requires-clause-may
word-head-requires-clause-may g c =
    let o = (goal.at.word-head-requires-clause-may g c).In_ok-there in
    may_read_open c.open.new.seat.view c.open.new.seat.book c.in_ok-there.there.words.now c.in_ok-there.there.taken (below g o).spot (placed g o) (opened g o)

pub word-head-requires-clause-inside : goal.word-head-requires-clause-inside
word-head-requires-clause-inside g c =
    let o = (goal.at.word-head-requires-clause-inside g c).In_ok-there in
    open_long c.open.new.seat.view c.open.new.seat.book c.in_ok-there.there.words.now c.in_ok-there.there.taken (below g o).spot (placed g o) (opened g o)

pub check-requires-clause-learns : goal.check-requires-clause-learns
check-requires-clause-learns g c =
    let i = (goal.at.check-requires-clause-learns g c).After-index-there-0 in
    let even = c.in_ok-there.ensures.opened.0 in
    let free = c.requires.near.here.free in
    let id = c.word-head.new.seat.id in
    let may = may_watch_next (child g i) id (c.in_ok-there.there.taken / 4) (c.args.here.taken / 4) (omega (arith, even)) (omega (arith, free)) in
    subst (λ (z : ℕ × Option ℕ). MayCheck c.word-head.new.seat.view (k g i) IsMap id (LearnsBelow z.0 z.1) c.in_ok-there.there.taken) (λ j. (sym (at_above g i).0 j, sym (at_above g i).1 j)) may

pub returns-then-not-check : goal.returns-then-not-check
returns-then-not-check g c =
    let z = (goal.at.returns-then-not-check g c).After-check in
    let missed = next_missed (child g (read_it g z)) c.check.new.seat.view c.check.ensures.checked.0 (told g z) (search rules) in
    record { book = book g z; id = id g z; keeps = missed.0; seen = missed.1; next = tt }

pub returns-in-Leaves : goal.returns-in-Leaves
returns-in-Leaves g c =
    let z = (goal.at.returns-in-Leaves g c).After-check in
    let k = kept g z (search rules) in
    record { book = book g z; id = id g z; keeps = k.0; seen = k.1; next = tt }

pub returns-in-Covers : goal.returns-in-Covers
returns-in-Covers g c =
    let z = (goal.at.returns-in-Covers g c).After-check in
    let k = kept g z (search rules) in
    let prefix_match : c.compare.result ≡ prefix_matches.Covers c.in-Covers.height = c.in-Covers.is in
    let sees = λ (form : ℕ) (p : List ℕ) (h : IsHead c.word-head.result form p). subst (Sees p c.floor_of-first.result) prefix_match (c.compare.ensures form p h) in
    record {
      book = book g z;
      id = id g z;
      keeps = k.0;
      seen = k.1;
      next = next_is (child g (read_it g z)) c.check.new.seat.view c.check.ensures.checked.0 (told g z) (search rules) c.check.new.seat.book (book g z) (book_since g z) c.in_ok-there.ensures.opened.0 c.word-head.result
          (record { name = c.slot_below-below.result; height = c.in-Covers.height; key = c.floor_of-first.result }) refl (search rules) (λ content agrees. (c.word-head.ensures.read content agrees).0) sees;
    }
