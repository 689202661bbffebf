use Rattle.std.proofs.Common.{rules, arith, refl, sym, subst, get_or, ℕ, List, Bool, None, false, IsTrue, ◌≡◌, ◌≢◌, ◌/◌, ◌∙◌}
use mathlib.Core.Logic.{dite}
use native.Mathlib.Decide.{ℕ_discrete}
use Rattle.word_book.specs.Book.{Name}
use Rattle.share_rule.specs.History.{Entry}
use Rattle.live_nodes.specs.Levels.{place_at}
use Rattle.live_nodes.specs.Views.{got}
use Rattle.live_nodes.specs.Tree.{Answers}
use Rattle.live_reads.specs.Mismatches.{IsMismatched}
use Rattle.live_reads.specs.Paths.{Keeps}
use Rattle.live_reads.proofs.Finds.{keeps_then}
use Rattle.live_reads.proofs.Views.{first_word}
use Rattle.live_reads.proofs.Sights.{sights_kept}
use Rattle.live_reads.proofs.Mismatches.{may_miss, miss_lost, miss_ends}
use Rattle.live_reads.proofs.mismatch.ends_above.Given.{Over}
use Rattle.live_reads.proofs.mismatch.ends_above.Goals as goal
use Rattle.live_reads.proofs.mismatch.ends_above.Goals.{After-watch, After-check}

not_both : (b : Bool) → b ≡ false → IsTrue b → ⊥
not_both b off holds = search rules

-- WHETHER THE NODE BELOW MISMATCHES was read
module _ (g : Over) (c : After-watch g) where
  kept : Keeps c.args.seat.now.view c.watch.new.seat.view
  kept = keeps_then c.args.seat.now.view c.enter.new.seat.view c.watch.new.seat.view c.enter.ensures.keeps c.watch.ensures.keeps

  abbrev Mismatched : Type 0
  Mismatched = IsMismatched c.watch.new.seat.view c.watch.new.seat.book c.in-Some.here.words.now c.in-Some.here.taken c.args.name c.args.key c.args.height

  at_first : (f : Mismatched) (d : Name) → (place_at f.names.spot).key ≡ (get_or c.in-Some.here.words.now 0 d).key
  at_first f d = (first_word (place_at f.names.spot) c.watch.new.seat.book c.in-Some.here.words.now f.are (get_or c.in-Some.here.words.now 0 d) d refl).0

-- and the word of the node above is compared
module _ (g : Over) (c : After-check g) where
  abbrev w : After-watch g
  w = (goal.at.After-check g c).After-watch

  abbrev f : Mismatched g w
  f = c.in-Some-watch.ensures.aside.mismatched

  lost : c.check.ensures.checked.0 ≢ c.in-Some.here.taken → Keeps c.watch.new.seat.view c.check.new.seat.view × (c.check.new.seat.view.client.seen ≡ c.watch.new.seat.view.client.seen)
  lost = miss_lost c.watch.new.seat.view c.watch.new.seat.book c.in-Some.here.words.now c.in-Some.here.taken c.args.name c.args.key c.args.height f c.requires.height.0 _ (at_first g w f c.index-here-0.result) g.A.Asks.ask c.requires.asks.0 c.check.new.seat.view c.check.ensures.checked.0 c.check.ensures.checked.2

  ends : c.check.ensures.checked.0 ≡ c.in-Some.here.taken → Keeps c.watch.new.seat.view c.check.new.seat.view × Answers g.A.Asks.ask.caller (got g.A.Asks.ask None) c.watch.new.seat.view.client.seen c.check.new.seat.view.client.seen
  ends = miss_ends c.watch.new.seat.view c.watch.new.seat.book c.in-Some.here.words.now c.in-Some.here.taken c.args.name c.args.key c.args.height f c.requires.height.0 _ (at_first g w f c.index-here-0.result) g.A.Asks.ask c.requires.asks.0 c.check.new.seat.view c.check.ensures.checked.0 c.check.ensures.checked.2

pub watch-requires-clause-below : goal.watch-requires-clause-below
watch-requires-clause-below g c = sights_kept c.args.seat.now.view c.enter.new.seat.view c.enter.ensures.keeps c.args.below c.requires.sighted.1

pub returns-in_default-watch-clause-keeps : goal.returns-in_default-watch-clause-keeps
returns-in_default-watch-clause-keeps g c = kept g (goal.at.returns-in_default-watch-clause-keeps g c).After-watch

pub check-requires-clause-learns : goal.check-requires-clause-learns
check-requires-clause-learns g c =
    let w = (goal.at.check-requires-clause-learns g c).After-watch in
    let f = c.in-Some-watch.ensures.aside.mismatched in
    let free = f.free in
    may_miss c.watch.new.seat.view c.watch.new.seat.book c.in-Some.here.words.now c.in-Some.here.taken c.args.name c.args.key c.args.height f c.requires.height.0 _ (at_first g w f c.index-here-0.result) g.A.Asks.ask c.requires.asks.0
    c.watch.new.seat.id (c.in-Some.here.taken / 4) (c.requires.asks.1 ∙ sym (c.watch.ensures.id ∙ c.enter.ensures.id)) (omega (arith, free))

pub returns-clause-keeps : goal.returns-clause-keeps
returns-clause-keeps g c =
    let k = (goal.at.returns-clause-keeps g c).After-check in
    let t = c.check.ensures.checked.0 in
    let keeps = dite (ℕ_discrete t c.in-Some.here.taken) (λ hit. (ends g k hit).0) (λ ne. (lost g k ne).0) in
    keeps_then c.args.seat.now.view c.watch.new.seat.view c.check.new.seat.view (kept g (w g k)) keeps

pub returns-clause-ends : goal.returns-clause-ends
returns-clause-ends g c = λ yes.
    subst (λ (z : List (Entry ℕ)). Answers g.A.Asks.ask.caller (got g.A.Asks.ask None) z c.check.new.seat.view.client.seen) (c.watch.ensures.seen ∙ c.enter.ensures.seen)
    (ends g (goal.at.returns-clause-ends g c).After-check (c.check.ensures.checked.1.0 yes)).1

pub returns-clause-busy : goal.returns-clause-busy
returns-clause-busy g c = λ off.
    (lost g (goal.at.returns-clause-busy g c).After-check (λ hit. not_both c.check.result off (c.check.ensures.checked.1.1 hit))).1 ∙ (c.watch.ensures.seen ∙ c.enter.ensures.seen)
