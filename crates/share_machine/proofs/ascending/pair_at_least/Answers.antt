use Rattle.std.proofs.Common.{ℕ, ◌∙◌, ap}
use Rattle.spec_map.specs.Map.{Pairs}
use Rattle.spec_map.specs.Near.{ceiling_of}
use Rattle.spec_olc.specs.Meaning.{meant}
use Rattle.share_machine.proofs.Contents.{one_content}
use Rattle.share_machine.proofs.ascending.pair_at_least.Goals as goal

pub returns : goal.returns
returns g c = λ m has.
    let found = c.pair_from.ensures in
    let same = one_content (meant (λ x. x) c.args.machine.now) m found.0 has found.1 in
    c.copied.ensures ∙ (found.2 ∙ ap (λ (es : Pairs ℕ). ceiling_of es c.args.key) same)
