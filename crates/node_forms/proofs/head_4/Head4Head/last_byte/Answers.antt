use Rattle.std.proofs.Common.{◌≡◌, length, ◌∙◌, arith}
use Rattle.node_base.specs.inner.Few.{listed}
use Rattle.node_forms.proofs.LastLaws.{last_none, last_some}
use Rattle.node_forms.proofs.head_4.Head4Head.last_byte.Goals as goal

pub returns-then-i-eq0 : goal.returns-then-i-eq0
returns-then-i-eq0 g c =
    let n : c.value_count-count.result ≡ length (listed c.args._row.now) = c.value_count-count.ensures ∙ c.requires.node.0.counted in
    last_none c.requires.node.0 c.args.to n c.place-i.ensures.at c.if-i-eq0.true

pub returns-else-i-eq0 : goal.returns-else-i-eq0
returns-else-i-eq0 g c =
    let n : c.value_count-count.result ≡ length (listed c.args._row.now) = c.value_count-count.ensures ∙ c.requires.node.0.counted in
    last_some c.requires.node.0 c.args.to n c.place-i.ensures.at (omega (arith, c.if-i-eq0.false))
