use Rattle.std.proofs.Common.{rules, arith, refl, sym, ap, subst, get_or, ℕ, List, Option, Some, ◌≡◌, ◌/◌, ◌∙◌}
use Rattle.spec_node.specs.TableNode.{TableNode}
use Rattle.spec_node.specs.declared.child.Child.TheVariants.{Node}
use Rattle.spec_map.specs.Map.{lookup}
use Rattle.word_book.specs.Book.{reads, none_joined}
use Rattle.live_nodes.specs.Plays.{Checks}
use Rattle.live_nodes.specs.Calls.{MayCheck}
use Rattle.live_nodes.specs.Seats.{Agree, SeatView}
use Rattle.live_nodes.specs.Rows.{AreOf, last_saw}
use Rattle.live_layout.specs.Encodes.{words_of, IsBelow, IsWord, Encodes}
use Rattle.live_nodes.specs.Levels.{digit, place_at}
use Rattle.live_nodes.specs.Views.{View}
use Rattle.live_nodes.specs.Tree.{IsMap, LearnsBelow}
use Rattle.live_reads.specs.Mismatches.{first_number}
use Rattle.live_reads.specs.Sees.{Sees}
use Rattle.live_reads.specs.Paths.{Sights, HasOpened, Keeps}
use Rattle.live_layout.specs.Head.{IsHead}
use Rattle.live_reads.specs.declared.prefix_match.PrefixMatch.TheVariants as prefix_matches
use Rattle.live_reads.proofs.Finds.{keeps_then}
use Rattle.live_reads.proofs.Views.{first_word, may_read_open, open_long, open_read, reading_on_keeps}
use Rattle.live_reads.proofs.Sights.{sights_kept}
use Rattle.live_reads.proofs.Mismatches.{may_watch, watch_missed, watch_keeps, watch_asides}
use Rattle.live_reads.proofs.mismatch.watch.Given.{Over}
use Rattle.live_reads.proofs.mismatch.watch.Goals as goal
use Rattle.live_reads.proofs.mismatch.watch.Goals.{After-find, In-Some-open, After-index-other-0, After-check}

abbrev Seen : Type 0
Seen = SeatView View

-- THE NODE ABOVE was read
module _ (g : Over) (c : After-find g) where
  read_first : Keeps c.args.seat.now.view c.find.new.seat.view × (c.find.new.seat.view.client ≡ c.args.seat.now.view.client)
  read_first =
      let o = c.requires.open in let v = c.args.seat.now.view in let w = c.find.new.seat.view in
      reading_on_keeps v w o.opened.before o.names.spot.number c.args.here.taken (last_saw w.reads) (open_read v c.args.seat.now.book c.args.here.words.now c.args.here.taken o.names.spot o.names.placed o.opened w (ap (λ s. s.view) c.find.ensures.seat.others))

  abbrev sighted : Sights c.find.new.seat.view c.args.below
  sighted = sights_kept c.args.seat.now.view c.find.new.seat.view read_first.0 c.args.below c.requires.below

  found_none : (c.find.new.seat.book ≡ c.args.seat.now.book) × (c.find.new.seat.id ≡ c.args.seat.now.id) × Keeps c.args.seat.now.view c.find.new.seat.view × (c.find.new.seat.view.client.seen ≡ c.args.seat.now.view.client.seen)
  found_none = let r = c.find.ensures.seat.others in (ap (λ s. s.book) r, ap (λ s. s.id) r, read_first.0, ap (λ (z : View). z.seen) read_first.1)

-- THE NODE BELOW is open
module _ (g : Over) (c : In-Some-open g) where
  abbrev found : After-find g
  found = (goal.at.In-Some-open g c).After-find

  abbrev n : Sights c.find.new.seat.view c.args.below
  n = sighted g found

  below_open : HasOpened c.open.new.seat.view c.open.new.seat.book c.in-Some-open.other.words.now c.in-Some-open.other.taken n.spot
  below_open = c.in-Some-open.ensures.opened.1 n

  keeps_open : Keeps c.args.seat.now.view c.open.new.seat.view
  keeps_open = keeps_then c.args.seat.now.view c.find.new.seat.view c.open.new.seat.view (read_first g found).0 c.open.ensures.keeps

  seen_open : c.open.new.seat.view.client.seen ≡ c.args.seat.now.view.client.seen
  seen_open = ap (λ (z : View). z.seen) (c.open.ensures.client ∙ (read_first g found).1)

-- its head was read
module _ (g : Over) (c : After-index-other-0 g) where
  abbrev opened : In-Some-open g
  opened = (goal.at.After-index-other-0 g c).In-Some-open

  abbrev first_key : ℕ
  first_key = (get_or c.in-Some-open.other.words.now 0 c.index-other-0.result).key

  at_key : (place_at (n g opened).spot).key ≡ first_key
  at_key = (first_word (place_at (n g opened).spot) c.open.new.seat.book c.in-Some-open.other.words.now (below_open g opened).are (get_or c.in-Some-open.other.words.now 0 c.index-other-0.result) c.index-other-0.result refl).0

  -- what was found under the key's byte
  finds : (content : List ℕ) (m : TableNode ℕ) → Agree content (last_saw c.find.new.seat.view.reads) → Encodes content m → m.form ≡ c.requires.open.names.spot.shape.form → IsBelow (lookup m.children (digit c.args.height c.args.key)) (Some c.in-Some.word)
  finds content m agrees encodes formed =
      let form = c.form_below-form.ensures c.requires.open.names.spot.shape.key c.requires.open.names.spot.shape.form c.requires.open.names.named in
      let is : c.find.result ≡ Some c.in-Some.word = c.in-Some.is in
      subst (λ (z : ℕ × Option ℕ). IsBelow (lookup m.children z.0) z.1) (λ i. (c.byte_at-byte.ensures i, is i)) (c.find.ensures.is content m agrees encodes (formed ∙ sym form))

  is_child : (s : ℕ) → IsWord c.in-Some.word (Node s) → s ≡ c.args.below
  is_child s e = sym (c.slot_below.ensures s e) ∙ c.if-slot_below-below.false

  may : (id : ℕ) → MayCheck c.word-head.new.seat.view first_key IsMap id (LearnsBelow c.requires.open.names.spot.number (Some c.args.here.taken)) c.in-Some-open.other.taken
  may id =
      let o = c.requires.open in let v = c.args.seat.now.view in let free = c.in-Some-open.ensures.opened.0 in let free_above = o.free in
      may_watch v c.args.seat.now.book c.args.here.words.now c.args.here.taken c.args.name c.args.key c.args.height o c.requires.height.0 c.find.new.seat.view (ap (λ s. s.view) c.find.ensures.seat.others) c.find.ensures.kept c.in-Some.word finds
      c.args.below (n g opened) is_child c.if-below-name.false c.open.new.seat.view c.open.new.seat.book c.in-Some-open.other.words.now c.in-Some-open.other.taken c.open.ensures.keeps c.open.ensures.client (below_open g opened) (c.in-Some-open.ensures.taken (n g opened))
      c.word-head.new.seat.view (ap (λ s. s.view) c.word-head.ensures.seat.others) first_key at_key id (c.in-Some-open.other.taken / 4) (c.args.here.taken / 4) (omega (arith, free)) (omega (arith, free_above))

-- it was checked
module _ (g : Over) (c : After-check g) where
  abbrev head_of : After-index-other-0 g
  head_of = (goal.at.After-check g c).After-index-other-0

  told : Checks (LearnsBelow c.requires.open.names.spot.number (Some c.args.here.taken)) (reads (first_key g head_of)) c.word-head.new.seat.view c.check.ensures.checked.0 none_joined c.check.new.seat.view
  told = subst (λ (z : ℕ × Option ℕ). Checks (LearnsBelow z.0 z.1) (reads (first_key g head_of)) c.word-head.new.seat.view c.check.ensures.checked.0 none_joined c.check.new.seat.view) (λ i. ((c.requires.above.0 ∙ ap first_number c.requires.open.opened.reads) i, c.requires.above.1 i)) c.check.ensures.checked.2

  book_then : c.check.new.seat.book ≡ c.args.seat.now.book
  book_then = c.check.ensures.seat.0 ∙ (ap (λ s. s.book) c.word-head.ensures.seat.others ∙ (c.open.ensures.book ∙ ap (λ s. s.book) c.find.ensures.seat.others))

  id_then : c.check.new.seat.id ≡ c.args.seat.now.id
  id_then = c.check.ensures.seat.1 ∙ (ap (λ s. s.id) c.word-head.ensures.seat.others ∙ (c.open.ensures.id ∙ ap (λ s. s.id) c.find.ensures.seat.others))

  kept : c.check.ensures.checked.0 ≡ c.in-Some-open.other.taken → Keeps c.args.seat.now.view c.check.new.seat.view × (c.check.new.seat.view.client.seen ≡ c.args.seat.now.view.client.seen)
  kept hit =
      let o = c.requires.open in let v = c.args.seat.now.view in let h = head_of in let op = opened g h in
      let k = watch_keeps v c.args.seat.now.book c.args.here.words.now c.args.here.taken c.args.name c.args.key c.args.height o c.requires.height.0 c.find.new.seat.view (ap (λ s. s.view) c.find.ensures.seat.others) c.find.ensures.kept c.in-Some.word (finds g h)
      c.args.below (n g op) (is_child g h) c.if-below-name.false c.open.new.seat.view c.open.new.seat.book c.in-Some-open.other.words.now c.in-Some-open.other.taken c.open.ensures.keeps c.open.ensures.client (below_open g op) (c.in-Some-open.ensures.taken (n g op))
      c.word-head.new.seat.view (ap (λ s. s.view) c.word-head.ensures.seat.others) (first_key g h) (at_key g h) c.check.new.seat.view c.check.ensures.checked.0 told hit in
      (keeps_then v c.open.new.seat.view c.check.new.seat.view (keeps_open g op) k.0, k.1 ∙ seen_open g op)

pub find-requires : goal.find-requires
find-requires g c =
    let o = c.requires.open in
    let spot = o.names.spot in
    let l = o.opened.are.0 in
    let e = ap words_of (c.form_below-form.ensures spot.shape.key spot.shape.form o.names.named) in
    record { cells = (may_read_open c.args.seat.now.view c.args.seat.now.book c.args.here.words.now c.args.here.taken spot o.names.placed o.opened, omega (arith, l, e)) }

pub returns-in_default-clause-book : goal.returns-in_default-clause-book
returns-in_default-clause-book g c = (found_none g (goal.at.returns-in_default-clause-book g c).After-find).0

pub returns-in_default-clause-id : goal.returns-in_default-clause-id
returns-in_default-clause-id g c = (found_none g (goal.at.returns-in_default-clause-id g c).After-find).1

pub returns-in_default-clause-keeps : goal.returns-in_default-clause-keeps
returns-in_default-clause-keeps g c = (found_none g (goal.at.returns-in_default-clause-keeps g c).After-find).2

pub returns-in_default-clause-seen : goal.returns-in_default-clause-seen
returns-in_default-clause-seen g c = (found_none g (goal.at.returns-in_default-clause-seen g c).After-find).3

pub returns-then-slot_below-below-clause-book : goal.returns-then-slot_below-below-clause-book
returns-then-slot_below-below-clause-book g c = (found_none g (goal.at.returns-then-slot_below-below-clause-book g c).After-find).0

pub returns-then-slot_below-below-clause-id : goal.returns-then-slot_below-below-clause-id
returns-then-slot_below-below-clause-id g c = (found_none g (goal.at.returns-then-slot_below-below-clause-id g c).After-find).1

pub returns-then-slot_below-below-clause-keeps : goal.returns-then-slot_below-below-clause-keeps
returns-then-slot_below-below-clause-keeps g c = (found_none g (goal.at.returns-then-slot_below-below-clause-keeps g c).After-find).2

pub returns-then-slot_below-below-clause-seen : goal.returns-then-slot_below-below-clause-seen
returns-then-slot_below-below-clause-seen g c = (found_none g (goal.at.returns-then-slot_below-below-clause-seen g c).After-find).3

pub returns-then-below-name-clause-book : goal.returns-then-below-name-clause-book
returns-then-below-name-clause-book g c = (found_none g (goal.at.returns-then-below-name-clause-book g c).After-find).0

pub returns-then-below-name-clause-id : goal.returns-then-below-name-clause-id
returns-then-below-name-clause-id g c = (found_none g (goal.at.returns-then-below-name-clause-id g c).After-find).1

pub returns-then-below-name-clause-keeps : goal.returns-then-below-name-clause-keeps
returns-then-below-name-clause-keeps g c = (found_none g (goal.at.returns-then-below-name-clause-keeps g c).After-find).2

pub returns-then-below-name-clause-seen : goal.returns-then-below-name-clause-seen
returns-then-below-name-clause-seen g c = (found_none g (goal.at.returns-then-below-name-clause-seen g c).After-find).3

pub open-requires-clause-book : goal.open-requires-clause-book
open-requires-clause-book g c = ap (λ s. s.book) c.find.ensures.seat.others ∙ c.requires.book

pub open-requires-clause-sighted : goal.open-requires-clause-sighted
open-requires-clause-sighted g c = sighted g (goal.at.open-requires-clause-sighted g c).After-find

pub returns-in_default-open-clause-book : goal.returns-in_default-open-clause-book
returns-in_default-open-clause-book g c =
    let r = c.find.ensures.seat.others in
    let told = c.open.ensures in
    told.book ∙ ap (λ s. s.book) r

pub returns-in_default-open-clause-id : goal.returns-in_default-open-clause-id
returns-in_default-open-clause-id g c =
    let r = c.find.ensures.seat.others in
    let told = c.open.ensures in
    told.id ∙ ap (λ s. s.id) r

pub returns-in_default-open-clause-keeps : goal.returns-in_default-open-clause-keeps
returns-in_default-open-clause-keeps g c =
    let told = c.open.ensures in
    let k = read_first g (goal.at.returns-in_default-open-clause-keeps g c).After-find in
    keeps_then c.args.seat.now.view c.find.new.seat.view c.open.new.seat.view k.0 told.keeps

pub returns-in_default-open-clause-seen : goal.returns-in_default-open-clause-seen
returns-in_default-open-clause-seen g c =
    let told = c.open.ensures in
    let k = read_first g (goal.at.returns-in_default-open-clause-seen g c).After-find in
    ap (λ (z : View). z.seen) (told.client ∙ k.1)

pub word-head-requires-clause-may : goal.word-head-requires-clause-may
word-head-requires-clause-may g c =
    let a = (goal.at.word-head-requires-clause-may g c).In-Some-open in
    may_read_open c.open.new.seat.view c.open.new.seat.book c.in-Some-open.other.words.now c.in-Some-open.other.taken (n g a).spot (c.open.ensures.keeps.places (place_at (n g a).spot) (n g a).placed) (below_open g a)

pub word-head-requires-clause-inside : goal.word-head-requires-clause-inside
word-head-requires-clause-inside g c =
    let a = (goal.at.word-head-requires-clause-inside g c).In-Some-open in
    open_long c.open.new.seat.view c.open.new.seat.book c.in-Some-open.other.words.now c.in-Some-open.other.taken (n g a).spot (c.open.ensures.keeps.places (place_at (n g a).spot) (n g a).placed) (below_open g a)

pub check-requires-clause-learns : goal.check-requires-clause-learns
check-requires-clause-learns g c =
    let a = (goal.at.check-requires-clause-learns g c).After-index-other-0 in
    subst (λ (z : ℕ × Option ℕ). MayCheck c.word-head.new.seat.view (first_key g a) IsMap c.word-head.new.seat.id (LearnsBelow z.0 z.1) c.in-Some-open.other.taken)
    (λ i. (sym (c.requires.above.0 ∙ ap first_number c.requires.open.opened.reads) i, sym c.requires.above.1 i)) (may g a c.word-head.new.seat.id)

pub returns-then-not-check-clause-book : goal.returns-then-not-check-clause-book
returns-then-not-check-clause-book g c =
    let a = (goal.at.returns-then-not-check-clause-book g c).After-check in
    book_then g a

pub returns-then-not-check-clause-id : goal.returns-then-not-check-clause-id
returns-then-not-check-clause-id g c =
    let a = (goal.at.returns-then-not-check-clause-id g c).After-check in
    id_then g a

pub returns-then-not-check-clause-keeps : goal.returns-then-not-check-clause-keeps
returns-then-not-check-clause-keeps g c =
    let a = (goal.at.returns-then-not-check-clause-keeps g c).After-check in
    let h = head_of g a in
    let op = opened g h in
    let o = c.requires.open in
    let v = c.args.seat.now.view in
    let k = watch_missed v c.args.seat.now.book c.args.here.words.now c.args.here.taken c.args.name c.args.key c.args.height o c.requires.height.0 c.find.new.seat.view (ap (λ s. s.view) c.find.ensures.seat.others) c.find.ensures.kept c.in-Some.word (finds g h)
    c.args.below (n g op) (is_child g h) c.if-below-name.false c.open.new.seat.view c.open.new.seat.book c.in-Some-open.other.words.now c.in-Some-open.other.taken c.open.ensures.keeps c.open.ensures.client (below_open g op) (c.in-Some-open.ensures.taken (n g op))
    c.word-head.new.seat.view (ap (λ s. s.view) c.word-head.ensures.seat.others) (first_key g h) (at_key g h) c.check.new.seat.view c.check.ensures.checked.0 (told g a) (search rules) in
    keeps_then v c.open.new.seat.view c.check.new.seat.view (keeps_open g op) k.0

pub returns-then-not-check-clause-seen : goal.returns-then-not-check-clause-seen
returns-then-not-check-clause-seen g c =
    let a = (goal.at.returns-then-not-check-clause-seen g c).After-check in
    let h = head_of g a in
    let op = opened g h in
    let o = c.requires.open in
    let v = c.args.seat.now.view in
    let k = watch_missed v c.args.seat.now.book c.args.here.words.now c.args.here.taken c.args.name c.args.key c.args.height o c.requires.height.0 c.find.new.seat.view (ap (λ s. s.view) c.find.ensures.seat.others) c.find.ensures.kept c.in-Some.word (finds g h)
    c.args.below (n g op) (is_child g h) c.if-below-name.false c.open.new.seat.view c.open.new.seat.book c.in-Some-open.other.words.now c.in-Some-open.other.taken c.open.ensures.keeps c.open.ensures.client (below_open g op) (c.in-Some-open.ensures.taken (n g op))
    c.word-head.new.seat.view (ap (λ s. s.view) c.word-head.ensures.seat.others) (first_key g h) (at_key g h) c.check.new.seat.view c.check.ensures.checked.0 (told g a) (search rules) in
    ap (λ (z : View). z.seen) k.1 ∙ seen_open g op

pub returns-in-Covers-clause-book : goal.returns-in-Covers-clause-book
returns-in-Covers-clause-book g c =
    let a = (goal.at.returns-in-Covers-clause-book g c).After-check in
    book_then g a

pub returns-in-Covers-clause-id : goal.returns-in-Covers-clause-id
returns-in-Covers-clause-id g c =
    let a = (goal.at.returns-in-Covers-clause-id g c).After-check in
    id_then g a

pub returns-in-Covers-clause-keeps : goal.returns-in-Covers-clause-keeps
returns-in-Covers-clause-keeps g c =
    let a = (goal.at.returns-in-Covers-clause-keeps g c).After-check in
    let k = kept g a (search rules) in
    k.0

pub returns-in-Covers-clause-seen : goal.returns-in-Covers-clause-seen
returns-in-Covers-clause-seen g c =
    let a = (goal.at.returns-in-Covers-clause-seen g c).After-check in
    let k = kept g a (search rules) in
    k.1

pub returns-in-Leaves-clause-book : goal.returns-in-Leaves-clause-book
returns-in-Leaves-clause-book g c =
    let a = (goal.at.returns-in-Leaves-clause-book g c).After-check in
    book_then g a

pub returns-in-Leaves-clause-id : goal.returns-in-Leaves-clause-id
returns-in-Leaves-clause-id g c =
    let a = (goal.at.returns-in-Leaves-clause-id g c).After-check in
    id_then g a

pub returns-in-Leaves-clause-keeps : goal.returns-in-Leaves-clause-keeps
returns-in-Leaves-clause-keeps g c =
    let a = (goal.at.returns-in-Leaves-clause-keeps g c).After-check in
    let k = kept g a (search rules) in
    k.0

pub returns-in-Leaves-clause-seen : goal.returns-in-Leaves-clause-seen
returns-in-Leaves-clause-seen g c =
    let a = (goal.at.returns-in-Leaves-clause-seen g c).After-check in
    let k = kept g a (search rules) in
    k.1

pub returns-in-Leaves-clause-aside : goal.returns-in-Leaves-clause-aside
returns-in-Leaves-clause-aside g c =
    let a = (goal.at.returns-in-Leaves-clause-aside g c).After-check in
    let h = head_of g a in let op = opened g h in
    let o = c.requires.open in let v = c.args.seat.now.view in
    let prefix_match : c.compare.result ≡ prefix_matches.Leaves c.in-Leaves.at c.in-Leaves.byte = c.in-Leaves.is in
    let sees = λ (form : ℕ) (p : List ℕ) (is : IsHead c.word-head.result form p). subst (Sees p c.args.key) prefix_match (c.compare.ensures form p is) in
    watch_asides v c.args.seat.now.book c.args.here.words.now c.args.here.taken c.args.name c.args.key c.args.height o c.requires.height.0 c.find.new.seat.view (ap (λ s. s.view) c.find.ensures.seat.others) c.find.ensures.kept c.in-Some.word (finds g h)
    c.args.below (n g op) (is_child g h) c.if-below-name.false c.open.new.seat.view c.open.new.seat.book c.in-Some-open.other.words.now c.in-Some-open.other.taken c.open.ensures.keeps c.open.ensures.client (below_open g op) (c.in-Some-open.ensures.taken (n g op))
    c.word-head.new.seat.view (ap (λ s. s.view) c.word-head.ensures.seat.others) (first_key g h) (at_key g h) c.check.new.seat.view c.check.ensures.checked.0 (told g a) (search rules)
    c.check.new.seat.book (subst (λ z. AreOf (place_at o.names.spot) z c.args.here.words.now) (sym (book_then g a)) o.opened.are) c.word-head.result (λ content agrees. (c.word-head.ensures.read content agrees).0) c.ranges.key.fits c.in-Leaves.at c.in-Leaves.byte sees
