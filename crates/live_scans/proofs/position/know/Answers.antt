use Rattle.std.proofs.Common.{arith, sym, ap, subst, ◌≡◌, ◌∙◌, ℕ, List}
use Rattle.word_book.specs.Book.{Book}
use Rattle.live_nodes.specs.Seats.{IsIn}
use Rattle.live_nodes.specs.Rows.{AreOf, last_saw}
use Rattle.live_layout.specs.Head.{IsHead}
use Rattle.live_nodes.specs.Levels.{place_at}
use Rattle.live_nodes.specs.Views.{View}
use Rattle.live_reads.specs.Paths.{Names, HasOpened, Keeps}
use Rattle.live_reads.specs.Sees.{Sees}
use Rattle.live_reads.specs.declared.prefix_match.PrefixMatch.TheVariants as prefix_matches
use Rattle.live_reads.proofs.Views.{may_read_open, open_long, open_read, reading_on_keeps}
use Rattle.live_reads.proofs.Sights.{sights_names, sure_by}
use Rattle.live_reads.proofs.Finds.{keeps_then, names_kept}
use Rattle.live_scans.proofs.position.know.Goals as goal
use Rattle.live_scans.proofs.position.know.Goals.{In_ok-here, After-word-head}

-- THE NODE is open
module _ (c : In_ok-here) where
  abbrev n : Names c.args.seat.now.view c.args.path_node.at.name c.args.path_node.at.key c.args.path_node.at.height
  n = c.requires.path_node.0.2

  opened : HasOpened c.open.new.seat.view c.open.new.seat.book c.in_ok-here.here.words.now c.in_ok-here.here.taken n.spot
  opened = c.in_ok-here.ensures.opened.1 (sights_names c.args.seat.now.view c.args.path_node.at.name c.args.path_node.at.key c.args.path_node.at.height n)

  placed : IsIn (place_at n.spot) c.open.new.seat.view.places
  placed = c.open.ensures.keeps.places (place_at n.spot) n.placed

-- and its head was read
module _ (c : After-word-head) where
  abbrev o : In_ok-here
  o = (goal.at.After-word-head c).In_ok-here

  keeps : Keeps c.args.seat.now.view c.word-head.new.seat.view × (c.word-head.new.seat.view.client.seen ≡ c.args.seat.now.view.client.seen)
  keeps =
      let v = c.args.seat.now.view in
      let u = c.open.new.seat.view in
      let v₂ = c.word-head.new.seat.view in
      let told = c.open.ensures in
      let rest = ap (λ s. s.view) c.word-head.ensures.seat.others in
      let spot = (n o).spot in
      let on = reading_on_keeps u v₂ (opened o).before spot.number c.in_ok-here.here.taken (last_saw v₂.reads) (open_read u c.open.new.seat.book c.in_ok-here.here.words.now c.in_ok-here.here.taken spot (placed o) (opened o) v₂ rest) in
      (keeps_then v u v₂ told.keeps on.0, ap (λ (z : View). z.seen) (on.1 ∙ told.client))

  book_since : c.word-head.new.seat.book ≡ c.open.new.seat.book
  book_since = ap (λ s. s.book) c.word-head.ensures.seat.others

  book : c.word-head.new.seat.book ≡ c.args.seat.now.book
  book = book_since ∙ c.open.ensures.book

  id : c.word-head.new.seat.id ≡ c.args.seat.now.id
  id = ap (λ s. s.id) c.word-head.ensures.seat.others ∙ c.open.ensures.id

pub word-head-requires-clause-may : goal.word-head-requires-clause-may
word-head-requires-clause-may c =
    let i = (goal.at.word-head-requires-clause-may c).In_ok-here in
    may_read_open c.open.new.seat.view c.open.new.seat.book c.in_ok-here.here.words.now c.in_ok-here.here.taken (n i).spot (placed i) (opened i)

pub word-head-requires-clause-inside : goal.word-head-requires-clause-inside
word-head-requires-clause-inside c =
    let i = (goal.at.word-head-requires-clause-inside c).In_ok-here in
    open_long c.open.new.seat.view c.open.new.seat.book c.in_ok-here.here.words.now c.in_ok-here.here.taken (n i).spot (placed i) (opened i)

pub returns-in-Covers : goal.returns-in-Covers
returns-in-Covers c =
    let z = (goal.at.returns-in-Covers c).After-word-head in
    let v = c.args.seat.now.view in
    let w = c.word-head.new.seat.view in
    let at = c.args.path_node.at in
    let names = c.requires.path_node.0.2 in
    let k = keeps z in
    let same : c.in-Covers.height ≡ at.height = omega arith in
    let found = c.in-Covers.is ∙ ap prefix_matches.Covers same in
    let sees = λ (form : ℕ) (p : List ℕ) (h : IsHead c.word-head.result form p). subst (Sees p at.key) found (c.compare.ensures form p h) in
    record {
      book = book z;
      id = id z;
      keeps = k.0;
      seen = k.1;
      known = record {
        names = names_kept v w at.name at.key at.height k.0 names;
        are = subst (λ (y : Book). AreOf (place_at names.spot) y c.in_ok-here.here.words.now) (sym (book_since z)) (opened (o z)).are;
        sure = λ saw shape at_head is. sure_by at.key (omega arith) saw c.word-head.result at_head at.height sees names.spot names.high names.covers shape is;
      };
    }

pub returns-in-Covers-2 : goal.returns-in-Covers-2
returns-in-Covers-2 c =
    let z = (goal.at.returns-in-Covers-2 c).After-word-head in
    record { book = book z; id = id z; keeps = (keeps z).0; seen = (keeps z).1; known = tt }

pub returns-in-Leaves : goal.returns-in-Leaves
returns-in-Leaves c =
    let z = (goal.at.returns-in-Leaves c).After-word-head in
    record { book = book z; id = id z; keeps = (keeps z).0; seen = (keeps z).1; known = tt }
