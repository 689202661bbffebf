use Rattle.std.proofs.Common.{rules, ◌≡◌, refl, replicate, slice_index}
use Rattle.std.proofs.lemmas.List.{get_or-replicate}
use Rattle.node_base.proofs.RowLaws.{row-empty}
use Rattle.node_forms.proofs.node_48.Node48.new.Goals as goal

pub invariant_of-result : goal.invariant_of-result
invariant_of-result g c =
    let marks : c.in_ok-index.index.value ≡ replicate 256 48 = search rules in
    rw (marks, c.in_ok-children.ensures.items) ((row-empty 48 (slice_index (replicate 256 48)) c.new-base.result.count (λ b l. get_or-replicate 256 b 48 0 l) (search rules)).0, search rules, search rules)

pub returns-clause-empty : goal.returns-clause-empty
returns-clause-empty g c =
    let marks : c.in_ok-index.index.value ≡ replicate 256 48 = search rules in
    rw (marks, c.in_ok-children.ensures.items) (row-empty 48 (slice_index (replicate 256 48)) 0 (λ b l. get_or-replicate 256 b 48 0 l) refl).1
