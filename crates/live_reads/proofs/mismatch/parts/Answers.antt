use Rattle.std.proofs.Common.{rules, arith, refl, ap, subst, get_or, ℕ, List, ◌≡◌, ◌/◌, ◌∙◌}
use Rattle.word_book.specs.Book.{Name}
use Rattle.live_layout.specs.Head.{IsHead}
use Rattle.live_nodes.specs.Seats.{IsIn}
use Rattle.live_nodes.specs.Levels.{place_at}
use Rattle.live_reads.specs.Mismatches.{IsParted}
use Rattle.live_reads.specs.Paths.{HasOpened, Keeps}
use Rattle.live_reads.specs.declared.prefix_match.PrefixMatch.TheVariants as prefix_matches
use Rattle.live_reads.specs.Sees.{Sees}
use Rattle.live_reads.proofs.Views.{first_word, may_read_open, open_long}
use Rattle.live_reads.proofs.Mismatches.{Lower, may_part, part_missed, part_keeps, part_parts}
use Rattle.live_reads.proofs.mismatch.parts.Given.{Over}
use Rattle.live_reads.proofs.mismatch.parts.Goals as goal
use Rattle.live_reads.proofs.mismatch.parts.Goals.{In-Some, After-word-head, After-check}

-- THE NODE BELOW is open
module _ (g : Over) (c : In-Some g) where
  opened : HasOpened c.open.new.seat.view c.open.new.seat.book c.in-Some.other.words.now c.in-Some.other.taken c.requires.below.spot
  opened = c.in-Some.ensures.opened.1 c.requires.below

  placed : IsIn (place_at c.requires.below.spot) c.open.new.seat.view.places
  placed = c.open.ensures.keeps.places (place_at c.requires.below.spot) c.requires.below.placed

-- and its head was read
module _ (g : Over) (c : After-word-head g) where
  lower : (d : Name) → Lower c.args.seat.now.view c.args.mismatch.below g.N.Above.number g.N.Above.word c.word-head.new.seat.view c.in-Some.other.taken (get_or c.in-Some.other.words.now 0 d).key
  lower d =
      let o = opened g (goal.at.After-word-head g c).In-Some in
      let at_open = c.open.ensures in record {
        above = c.requires.above;
        names = c.requires.below;
        at_open = c.open.new.seat.view;
        keeps = at_open.keeps;
        client = at_open.client;
        book = c.open.new.seat.book;
        words = c.in-Some.other.words.now;
        opened = o;
        rest = ap (λ s. s.view) c.word-head.ensures.seat.others;
        first = (first_word (place_at c.requires.below.spot) c.open.new.seat.book c.in-Some.other.words.now o.are (get_or c.in-Some.other.words.now 0 d) d refl).0;
      }

-- its word is as it was
module _ (g : Over) (c : After-check g) where
  at_check : Lower c.args.seat.now.view c.args.mismatch.below g.N.Above.number g.N.Above.word c.word-head.new.seat.view c.in-Some.other.taken (get_or c.in-Some.other.words.now 0 c.index-other-0.result).key
  at_check = lower g (goal.at.After-check g c).After-word-head c.index-other-0.result

  abbrev Told : Type 0
  Told = (c.check.new.seat.book ≡ c.args.seat.now.book) × (c.check.new.seat.id ≡ c.args.seat.now.id) × Keeps c.args.seat.now.view c.check.new.seat.view × (c.check.new.seat.view.client.seen ≡ c.args.seat.now.view.client.seen)

  kept : Keeps c.args.seat.now.view c.check.new.seat.view × (c.check.new.seat.view.client.seen ≡ c.args.seat.now.view.client.seen) → Told
  kept k =
      let read = c.word-head.ensures.seat.others in
      let s = c.check.ensures.seat in
      (s.0 ∙ (ap (λ s. s.book) read ∙ c.open.ensures.book), s.1 ∙ (ap (λ s. s.id) read ∙ c.open.ensures.id), k.0, k.1)

  held : c.check.ensures.checked.0 ≡ c.in-Some.other.taken → Told
  held hit = kept (part_keeps at_check c.check.new.seat.view c.check.ensures.checked.0 c.check.ensures.checked.2 hit)

pub word-head-requires-clause-may : goal.word-head-requires-clause-may
word-head-requires-clause-may g c =
    let o = (goal.at.word-head-requires-clause-may g c).In-Some in
    may_read_open c.open.new.seat.view c.open.new.seat.book c.in-Some.other.words.now c.in-Some.other.taken c.requires.below.spot (placed g o) (opened g o)

pub word-head-requires-clause-inside : goal.word-head-requires-clause-inside
word-head-requires-clause-inside g c =
    let o = (goal.at.word-head-requires-clause-inside g c).In-Some in
    open_long c.open.new.seat.view c.open.new.seat.book c.in-Some.other.words.now c.in-Some.other.taken c.requires.below.spot (placed g o) (opened g o)

pub check-requires-clause-learns : goal.check-requires-clause-learns
check-requires-clause-learns g c =
    let free = c.in-Some.ensures.opened.0 in
    may_part (lower g (goal.at.check-requires-clause-learns g c).After-word-head c.index-other-0.result) c.word-head.new.seat.id (c.in-Some.other.taken / 4) (omega (arith, free))

pub returns-then-not-check-clause-book : goal.returns-then-not-check-clause-book
returns-then-not-check-clause-book g c = (kept g (goal.at.returns-then-not-check-clause-book g c).After-check (part_missed (at_check g (goal.at.returns-then-not-check-clause-book g c).After-check) c.check.new.seat.view c.check.ensures.checked.0 c.check.ensures.checked.2 (search rules))).0

pub returns-then-not-check-clause-id : goal.returns-then-not-check-clause-id
returns-then-not-check-clause-id g c = (kept g (goal.at.returns-then-not-check-clause-id g c).After-check (part_missed (at_check g (goal.at.returns-then-not-check-clause-id g c).After-check) c.check.new.seat.view c.check.ensures.checked.0 c.check.ensures.checked.2 (search rules))).1

pub returns-then-not-check-clause-keeps : goal.returns-then-not-check-clause-keeps
returns-then-not-check-clause-keeps g c = (kept g (goal.at.returns-then-not-check-clause-keeps g c).After-check (part_missed (at_check g (goal.at.returns-then-not-check-clause-keeps g c).After-check) c.check.new.seat.view c.check.ensures.checked.0 c.check.ensures.checked.2 (search rules))).2

pub returns-then-not-check-clause-seen : goal.returns-then-not-check-clause-seen
returns-then-not-check-clause-seen g c = (kept g (goal.at.returns-then-not-check-clause-seen g c).After-check (part_missed (at_check g (goal.at.returns-then-not-check-clause-seen g c).After-check) c.check.new.seat.view c.check.ensures.checked.0 c.check.ensures.checked.2 (search rules))).3

pub returns-in_default-compare-clause-book : goal.returns-in_default-compare-clause-book
returns-in_default-compare-clause-book g c = (held g (goal.at.returns-in_default-compare-clause-book g c).After-check (search rules)).0

pub returns-in_default-compare-clause-id : goal.returns-in_default-compare-clause-id
returns-in_default-compare-clause-id g c = (held g (goal.at.returns-in_default-compare-clause-id g c).After-check (search rules)).1

pub returns-in_default-compare-clause-keeps : goal.returns-in_default-compare-clause-keeps
returns-in_default-compare-clause-keeps g c = (held g (goal.at.returns-in_default-compare-clause-keeps g c).After-check (search rules)).2

pub returns-in_default-compare-clause-seen : goal.returns-in_default-compare-clause-seen
returns-in_default-compare-clause-seen g c = (held g (goal.at.returns-in_default-compare-clause-seen g c).After-check (search rules)).3

pub returns-then-at-mismatch-clause-book : goal.returns-then-at-mismatch-clause-book
returns-then-at-mismatch-clause-book g c = (held g (goal.at.returns-then-at-mismatch-clause-book g c).After-check (search rules)).0

pub returns-then-at-mismatch-clause-id : goal.returns-then-at-mismatch-clause-id
returns-then-at-mismatch-clause-id g c = (held g (goal.at.returns-then-at-mismatch-clause-id g c).After-check (search rules)).1

pub returns-then-at-mismatch-clause-keeps : goal.returns-then-at-mismatch-clause-keeps
returns-then-at-mismatch-clause-keeps g c = (held g (goal.at.returns-then-at-mismatch-clause-keeps g c).After-check (search rules)).2

pub returns-then-at-mismatch-clause-seen : goal.returns-then-at-mismatch-clause-seen
returns-then-at-mismatch-clause-seen g c = (held g (goal.at.returns-then-at-mismatch-clause-seen g c).After-check (search rules)).3

pub returns-else-at-mismatch-clause-book : goal.returns-else-at-mismatch-clause-book
returns-else-at-mismatch-clause-book g c = (held g (goal.at.returns-else-at-mismatch-clause-book g c).After-check (search rules)).0

pub returns-else-at-mismatch-clause-id : goal.returns-else-at-mismatch-clause-id
returns-else-at-mismatch-clause-id g c = (held g (goal.at.returns-else-at-mismatch-clause-id g c).After-check (search rules)).1

pub returns-else-at-mismatch-clause-keeps : goal.returns-else-at-mismatch-clause-keeps
returns-else-at-mismatch-clause-keeps g c = (held g (goal.at.returns-else-at-mismatch-clause-keeps g c).After-check (search rules)).2

pub returns-else-at-mismatch-clause-seen : goal.returns-else-at-mismatch-clause-seen
returns-else-at-mismatch-clause-seen g c = (held g (goal.at.returns-else-at-mismatch-clause-seen g c).After-check (search rules)).3

pub returns-then-at-mismatch-clause-parted : goal.returns-then-at-mismatch-clause-parted
returns-then-at-mismatch-clause-parted g c = λ yes.
    let key = c.args.key in
    let leaves : c.compare.result ≡ prefix_matches.Leaves c.in-Leaves.at c.in-Leaves.byte = c.in-Leaves.is in
    let sees = λ (form : ℕ) (q : List ℕ) (h : IsHead c.word-head.result form q). subst (Sees q key) leaves (c.compare.ensures form q h) in
    let parted = part_parts (at_check g (goal.at.returns-then-at-mismatch-clause-parted g c).After-check) c.check.new.seat.view c.check.ensures.checked.0 c.check.ensures.checked.2 (search rules) c.word-head.result (λ content agrees. (c.word-head.ensures.read content agrees).0) key c.ranges.key.fits c.in-Leaves.at c.in-Leaves.byte sees in
    let same_at : c.in-Leaves.at ≡ c.args.mismatch.at = search rules in
    let same_byte : c.in-Leaves.byte ≡ c.args.mismatch.byte = search rules in
    subst (λ (z : ℕ × ℕ). IsParted c.check.new.seat.view c.args.mismatch.below key z.0 z.1 g.N.Above.number) (λ i. (same_at i, same_byte i)) parted
