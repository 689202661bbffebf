use Rattle.std.proofs.Common.{rules, arith, sym, ap, subst, ℕ, [], ◌∷◌, ◌≡◌, ◌∙◌}
use Rattle.word_book.specs.Book.{Name, name}
use Rattle.live_nodes.specs.Views.{View}
use Rattle.live_nodes.specs.Roots.{MayLearnRoot}
use Rattle.live_reads.proofs.Views.{reading, root_word_place, root_word_taken, root_word_read, root_word_cell, reading_keeps}
use Rattle.live_reads.proofs.Roots.{may_check_root, root_missed, root_none, root_names}
use Rattle.live_reads.proofs.path.root_by.Given.{Over}
use Rattle.live_reads.proofs.path.root_by.Goals as goal
use Rattle.live_reads.proofs.path.root_by.Goals.{After-index-words-1, After-read-name, After-check}

-- THE TWO WORDS are those with these keys
module _ (g : Over) (c : After-index-words-1 g) where
  first : 1 ≡ c.index-words-0.result.key
  first = let e : c.index-words-0.result ≡ name 1 c.args.nodes.now = search rules in sym (ap (λ (w : Name). w.key) e)

  second : 2 ≡ c.index-words-1.result.key
  second = let e : c.index-words-1.result ≡ name 2 c.args.nodes.now = search rules in sym (ap (λ (w : Name). w.key) e)

-- both were read
module _ (g : Over) (c : After-read-name g) where
  was_read : c.read-name.new.seat.view ≡ reading c.args.seat.now.view 0 c.take-taken.result ((0, c.read-name.result) ∷ [])
  was_read =
      let at = goal.at.After-read-name g c in
      root_word_read c.args.seat.now.view c.requires.root_word c.index-words-0.result.key (first g at.After-index-words-1) c.take-taken.new.seat.view c.take-taken.result c.take-taken.ensures.taken
      c.index-words-1.result.key (second g at.After-index-words-1) c.read-name.new.seat.view c.read-name.result c.read-name.ensures.read

-- and the first is compared
module _ (g : Over) (c : After-check g) where
  abbrev read_it : After-read-name g
  read_it = (goal.at.After-check g c).After-read-name

  abbrev one : 1 ≡ c.index-words-0.result.key
  one = first g (goal.at.After-check g c).After-index-words-1

  book : c.check.new.seat.book ≡ c.args.seat.now.book
  book = c.check.ensures.seat.0 ∙ (c.read-name.ensures.seat.0 ∙ c.take-taken.ensures.seat.0)

  id : c.check.new.seat.id ≡ c.args.seat.now.id
  id = c.check.ensures.seat.1 ∙ (c.read-name.ensures.seat.1 ∙ c.take-taken.ensures.seat.1)

pub take-taken-requires-clause-known : goal.take-taken-requires-clause-known
take-taken-requires-clause-known g c = root_word_place c.args.seat.now.view c.requires.root_word c.index-words-0.result.key (first g (goal.at.take-taken-requires-clause-known g c).After-index-words-1)

pub returns-then-taken-ne0 : goal.returns-then-taken-ne0
returns-then-taken-ne0 g c =
    let v = c.args.seat.now.view in
    let v₁ = c.take-taken.new.seat.view in
    let n = c.take-taken.result in
    let one = first g (goal.at.returns-then-taken-ne0 g c).After-index-words-1 in
    let keeps = reading_keeps v v₁ 0 n [] (root_word_taken v c.requires.root_word c.index-words-0.result.key one v₁ n c.take-taken.ensures.taken) in
    record { book = c.take-taken.ensures.seat.0; id = c.take-taken.ensures.seat.1; keeps = keeps.0; root = ap (λ (z : View). z.seen) keeps.1; named = tt }

pub read-name-requires-clause-known : goal.read-name-requires-clause-known
read-name-requires-clause-known g c =
    let at = goal.at.read-name-requires-clause-known g c in
    root_word_cell c.args.seat.now.view c.requires.root_word c.index-words-0.result.key (first g at.After-index-words-1) c.take-taken.new.seat.view c.take-taken.result c.take-taken.ensures.taken
    c.index-words-1.result.key (second g at.After-index-words-1)

pub check-requires-clause-learns : goal.check-requires-clause-learns
check-requires-clause-learns g c =
    let at = goal.at.check-requires-clause-learns g c in
    let same = c.read-name.ensures.seat.1 ∙ c.take-taken.ensures.seat.1 in
    let may = subst (λ (z : ℕ). MayLearnRoot g.S.Sees.sees z c.args.seat.now.view.client) (sym same) c.requires.learns in
    may_check_root g.S.Sees.sees c.requires.root_word (was_read g at.After-read-name) c.index-words-0.result.key (first g at.After-index-words-1) c.read-name.new.seat.id may

pub returns-then-not-check : goal.returns-then-not-check
returns-then-not-check g c =
    let k = (goal.at.returns-then-not-check g c).After-check in
    let t = c.check.ensures.checked in
    let keeps = root_missed g.S.Sees.sees c.requires.root_word (was_read g (read_it g k)) c.index-words-0.result.key (one g k) c.check.new.seat.view t.0 t.2 (search rules) in
    record { book = book g k; id = id g k; keeps = keeps.0; root = ap (λ (z : View). z.seen) keeps.1; named = tt }

pub returns-then-name-eq0 : goal.returns-then-name-eq0
returns-then-name-eq0 g c =
    let k = (goal.at.returns-then-name-eq0 g c).After-check in
    let t = c.check.ensures.checked in
    let keeps = root_none g.S.Sees.sees c.requires.root_word (was_read g (read_it g k)) c.index-words-0.result.key (one g k) c.check.new.seat.view t.0 t.2 (search rules) (search rules) in
    record { book = book g k; id = id g k; keeps = keeps.0; root = ap (λ (z : View). z.seen) keeps.1; named = tt }

pub returns : goal.returns
returns g c =
    let k = (goal.at.returns g c).After-check in
    let t = c.check.ensures.checked in
    let names = root_names g.S.Sees.sees c.requires.root_word (was_read g (read_it g k)) c.index-words-0.result.key (one g k) c.check.new.seat.view t.0 t.2 (search rules) (omega (arith, c.if-name-eq0.false)) c.args.key c.ranges.key.fits in
    record { book = book g k; id = id g k; keeps = names.0; root = names.1; named = names.2 }
