use Rattle.std.proofs.Common.{ℕ, ◌∙◌, ap, sym}
use Rattle.share_backend.specs.Upward.{upward_of}
use Rattle.spec_map.specs.Map.{Pairs}
use Rattle.spec_map.specs.Near.{first_of, ceiling_of, above_of, pair_near}
use Rattle.share_tree.proofs.ascending.DirectU64Ascending.upward.Goals as goal

pub returns-in-First : goal.returns-in-First
returns-in-First g c = λ m has.
    c.first.ensures
    ∙ (ap (λ (es : Pairs ℕ). first_of es) (sym (c.law_contains.ensures.only m has)) ∙ ap (λ place. pair_near m (upward_of place)) (sym c.in-First.is))

pub returns-in-Ceiling : goal.returns-in-Ceiling
returns-in-Ceiling g c = λ m has.
    c.ceiling.ensures
    ∙ (ap (λ (es : Pairs ℕ). ceiling_of es c.in-Ceiling.key) (sym (c.law_contains.ensures.only m has)) ∙ ap (λ place. pair_near m (upward_of place)) (sym c.in-Ceiling.is))

pub returns-in-Above : goal.returns-in-Above
returns-in-Above g c = λ m has.
    c.above.ensures
    ∙ (ap (λ (es : Pairs ℕ). above_of es c.in-Above.key) (sym (c.law_contains.ensures.only m has)) ∙ ap (λ place. pair_near m (upward_of place)) (sym c.in-Above.is))
