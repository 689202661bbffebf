use Rattle.std.proofs.Common.{◌≡◌, length, sym, subst, ap, ◌∙◌}
use Rattle.spec_olc.specs.Content.{IsContent}
use Rattle.spec_olc.specs.Meaning.{meant}
use Rattle.share_machine.proofs.Seating.{no_pairs}
use Rattle.share_machine.proofs.calls.made.Goals as goal

pub returns-clause-content : goal.returns-clause-content
returns-clause-content g c =
    let i = g.P.HasMeaning.meaning in
    let there = c.entry_count.ensures.content in
    let none : length there.0 ≡ 0 = sym there.2 ∙ (c.entry_count.ensures.count ∙ ap (λ s. s.entries) c.in_ok-machine.ensures.fresh.1) in
    subst (λ m. IsContent (meant i c.in_ok-machine.machine) m) (no_pairs there.0 none) there.1
