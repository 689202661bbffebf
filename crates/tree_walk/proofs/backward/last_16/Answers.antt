use Rattle.std.proofs.Common.{length, ap, refl, ◌∙◌}
use Rattle.std.proofs.lemmas.Option.{slice_get_past, slice_get_read}
use Rattle.node_base.specs.inner.Sorted.{pairs}
use Rattle.tree_walk.proofs.BackwardLaws.{pairs_more, pairs_same}
use Rattle.tree_walk.proofs.backward.last_16.Goals as goal

pub returns-in-Some-get-clause-some : goal.returns-in-Some-get-clause-some
returns-in-Some-get-clause-some g c =
    let row = c.bytes.left.children.now in
    let e = c.in-Some-get.ensures.lookup in
    c.bytes.invariant ∙ ap (λ ks. pairs ks row) c.in-Some.ensures.cases.0
    ∙ pairs_more c.in-Some.before.now c.in-Some.byte.now row c.in-Some-get.child.now (slice_get_read row (length row) (length c.in-Some.before.now) c.in-Some-get.child.now refl e.3.0 e.1)

pub bytes-preserved : goal.bytes-preserved
bytes-preserved g c =
    let row = c.bytes.left.children.now in
    c.bytes.invariant ∙ ap (λ ks. pairs ks row) c.in-Some.ensures.cases.0
    ∙ pairs_same c.in-Some.before.now c.in-Some.byte.now row (slice_get_past row (length c.in-Some.before.now) c.in_default-get.ensures.lookup.3)
