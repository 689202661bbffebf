use Rattle.std.proofs.Common.{◌∙◌, ◌≡◌, length, sym, arith}
use Rattle.node_base.specs.inner.Few.{listed}
use Rattle.node_forms.proofs.SearchLaws.{found-get, none-found}
use Rattle.node_forms.proofs.head_4.Head4Head.get_child.Goals as goal

pub returns-then-i-count-clause-found : goal.returns-then-i-count-clause-found
returns-then-i-count-clause-found g c =
    let n : c.value_count-count.result ≡ length (listed c.args.row.now) = c.value_count-count.ensures ∙ c.requires.0.counted in
    c.get.ensures ∙ found-get c.requires.0 n c.args.byte c.find_4-i.ensures c.if-i-count.true

pub returns-else-i-count-clause-found : goal.returns-else-i-count-clause-found
returns-else-i-count-clause-found g c =
    let n : c.value_count-count.result ≡ length (listed c.args.row.now) = c.value_count-count.ensures ∙ c.requires.0.counted in
    sym (none-found c.requires.0 n c.args.byte c.find_4-i.ensures (omega (arith, c.if-i-count.false)))
