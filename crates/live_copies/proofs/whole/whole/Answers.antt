use Rattle.std.proofs.Common.{rules, sym, subst, ap, ◌∙◌}
use mathlib.Core.Logic.{dite}
use native.Mathlib.Decide.{ℕ_discrete}
use Rattle.word_book.specs.Book.{Name}
use Rattle.live_reads.proofs.Views.{root_word_place}
use Rattle.live_copies.specs.inner.Whole.{HasWhole}
use Rattle.live_copies.proofs.Wholes.{HasRootTaken, taken_keeps, may_whole, whole_missed, whole_hit}
use Rattle.live_copies.proofs.whole.whole.Given.{Over}
use Rattle.live_copies.proofs.whole.whole.Goals as goal
use Rattle.live_copies.proofs.whole.whole.Goals.{After-take-taken}

root : (g : Over) (c : After-take-taken g) → HasRootTaken c.args.seat.now.view c.take-taken.new.seat.view c.take-taken.result c.in-Some.root_word.now.key
root g c = record { known = c.requires.root_word; at_k = sym (ap (λ (w : Name). w.key) c.in-Some.ensures.word); took = c.take-taken.ensures.taken }

pub take-taken-requires-clause-known : goal.take-taken-requires-clause-known
take-taken-requires-clause-known g c = root_word_place c.args.seat.now.view c.requires.root_word c.in-Some.root_word.now.key (sym (ap (λ (w : Name). w.key) c.in-Some.ensures.word))

pub returns-then-taken-ne0-clause-keeps : goal.returns-then-taken-ne0-clause-keeps
returns-then-taken-ne0-clause-keeps g c = (taken_keeps (root g (goal.at.returns-then-taken-ne0-clause-keeps g c).After-take-taken)).0

pub returns-then-taken-ne0-clause-busy : goal.returns-then-taken-ne0-clause-busy
returns-then-taken-ne0-clause-busy g c = λ _. (taken_keeps (root g (goal.at.returns-then-taken-ne0-clause-busy g c).After-take-taken)).1

pub check-requires-clause-learns : goal.check-requires-clause-learns
check-requires-clause-learns g c = may_whole (root g (goal.at.check-requires-clause-learns g c).After-take-taken) g.A.Asks.ask.caller c.take-taken.new.seat.id (c.requires.asks ∙ sym c.take-taken.ensures.seat.1)

pub returns-clause-keeps : goal.returns-clause-keeps
returns-clause-keeps g c =
    let r = root g (goal.at.returns-clause-keeps g c).After-take-taken in
    let by = g.A.Asks.ask.caller in
    let w = c.check.new.seat.view in
    let t = c.check.ensures.checked in
    dite (ℕ_discrete t.0 c.take-taken.result) (λ hit. (whole_hit r by w t.0 t.2 hit).0) (λ ne. (whole_missed r by w t.0 t.2 ne).0)

pub returns-clause-whole : goal.returns-clause-whole
returns-clause-whole g c = λ yes.
    let r = root g (goal.at.returns-clause-whole g c).After-take-taken in
    let t = c.check.ensures.checked in
    subst (λ z. HasWhole z c.args.seat.now.view.client c.check.new.seat.view.client) c.requires.asks (whole_hit r g.A.Asks.ask.caller c.check.new.seat.view t.0 t.2 (search rules)).1

pub returns-clause-busy : goal.returns-clause-busy
returns-clause-busy g c = λ no.
    let r = root g (goal.at.returns-clause-busy g c).After-take-taken in
    let t = c.check.ensures.checked in
    (whole_missed r g.A.Asks.ask.caller c.check.new.seat.view t.0 t.2 (search rules)).1
