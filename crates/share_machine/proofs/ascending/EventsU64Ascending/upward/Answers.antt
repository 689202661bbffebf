use Rattle.std.proofs.Common.{ℕ, ◌^◌, ◌∙◌, ap, sym, arith}
use Rattle.share_backend.specs.Upward.{upward_of}
use Rattle.spec_map.specs.Map.{Pairs}
use Rattle.spec_map.specs.Near.{first_of, pair_near}
use Rattle.spec_map.proofs.RangeLaws.{between-all}
use Rattle.share_machine.proofs.ascending.EventsU64Ascending.upward.Goals as goal

pub returns-in-First : goal.returns-in-First
returns-in-First g c = λ m has.
    let all = between-all 0 (2 ^ 64) 0 (2 ^ 64) m has.map (omega arith) (omega arith) in
    c.pair_at_least.ensures m has
    ∙ (ap (λ (es : Pairs ℕ). first_of es) all ∙ ap (λ place. pair_near m (upward_of place)) (sym c.in-First.is))

pub returns-in-Ceiling : goal.returns-in-Ceiling
returns-in-Ceiling g c = λ m has. c.pair_at_least-in-Ceiling.ensures m has ∙ ap (λ place. pair_near m (upward_of place)) (sym c.in-Ceiling.is)

pub returns-in-Above : goal.returns-in-Above
returns-in-Above g c = λ m has. c.pair_above.ensures m has ∙ ap (λ place. pair_near m (upward_of place)) (sym c.in-Above.is)
