use Rattle.std.proofs.Common.{length, drop, ap, sym, ◌∙◌}
use Rattle.node_base.specs.inner.Few.{listed}
use Rattle.node_base.specs.inner.Sorted.{pairs}
use Rattle.tree_walk.proofs.BackwardLaws.{few_from, pairs_more, pairs_same}
use Rattle.tree_walk.proofs.backward.last_4.Goals as goal

pub returns-in-Some-get-clause-some : goal.returns-in-Some-get-clause-some
returns-in-Some-get-clause-some g c =
    let row = c.bytes.left.children.now in
    let at = c.bytes.left.at in
    c.bytes.invariant ∙ ap (λ ks. pairs ks (drop at (listed row))) c.in-Some.ensures.cases.0
    ∙ pairs_more c.in-Some.before.now c.in-Some.byte.now (drop at (listed row)) c.in-Some-get.child.now
    (few_from row at (length c.in-Some.before.now) _ c.saturating_add.ensures ∙ sym c.in-Some-get.ensures)

pub bytes-preserved : goal.bytes-preserved
bytes-preserved g c =
    let row = c.bytes.left.children.now in
    let at = c.bytes.left.at in
    c.bytes.invariant ∙ ap (λ ks. pairs ks (drop at (listed row))) c.in-Some.ensures.cases.0
    ∙ pairs_same c.in-Some.before.now c.in-Some.byte.now (drop at (listed row))
    (few_from row at (length c.in-Some.before.now) _ c.saturating_add.ensures ∙ sym c.in_default-get.ensures)
