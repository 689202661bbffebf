use Rattle.std.proofs.Common.{◌≢◌, ◌∙◌, ap, arith, get_or, set, subst, sym}
use Rattle.std.specs.Int.{from_be_bytes, w64}
use Rattle.tree_edit.specs.Calls.{HasNoneAfter}
use Rattle.spec_map.specs.Map.{without}
use Rattle.node_table.proofs.KeyLaws.{key_number-be_bytes}
use Rattle.tree_path.specs.inner.Root.{tree_pairs}
use Rattle.tree_links.specs.SeenTable.{name_of}
use Rattle.tree_edit.proofs.HandedLaws.{none_next}
use Rattle.tree_edit.proofs.RunLaws.{leaf_here, not_nothing, counted_left, few_left, removal, one_less, beside, none_beside, ordered_here, taken_here}
use Rattle.tree_edit.proofs.leaf_run.take_beside.Goals as goal

pub take_payload-requires : goal.take_payload-requires
take_payload-requires g c =
    leaf_here _ _ _ _ _ _ _ c.requires.at _ c.requires.stop

pub unreachable-requires : goal.unreachable-requires
unreachable-requires g c =
    not_nothing _ _ _ _ _ _ _ c.requires.at _ c.requires.stop c.in_default.ensures.none

pub shrink_if_due-requires-clause-counted : goal.shrink_if_due-requires-clause-counted
shrink_if_due-requires-clause-counted g c =
    counted_left _ _ _ _ _ _ _ c.requires.at _ c.requires.stop _ _ c.in-Some.ensures.takes

pub shrink_if_due-requires-clause-few : goal.shrink_if_due-requires-clause-few
shrink_if_due-requires-clause-few g c =
    few_left _ _ _ _ _ _ _ c.requires.at _ c.requires.stop _ _ c.in-Some.ensures.takes

pub overflow_sub-count : goal.overflow_sub-count
overflow_sub-count g c =
    let other : c.args.next ≢ c.args.byte = omega (arith, c.requires.above) in
    let e = c.shrink_if_due.ensures in
    let x = removal _ _ _ _ _ _ _ c.requires.at _ c.requires.stop _ _ c.in-Some.ensures.takes c.args.next (omega arith) other c.requires.present _ _ e.keeps e.thins in
    let less = one_less _ _ _ _ _ _ _ c.requires.at _ _ _ x in
    omega (arith, less)

pub returns-clause-at : goal.returns-clause-at
returns-clause-at g c =
    let other : c.args.next ≢ c.args.byte = omega (arith, c.requires.above) in
    let e = c.shrink_if_due.ensures in
    beside _ _ _ _ _ _ _ c.requires.at _ c.requires.stop _ _ c.in-Some.ensures.takes c.args.next (omega arith) other c.requires.present _ _ e.keeps e.thins

pub returns-clause-pairs : goal.returns-clause-pairs
returns-clause-pairs g c =
    let other : c.args.next ≢ c.args.byte = omega (arith, c.requires.above) in
    let e = c.shrink_if_due.ensures in
    let x = removal _ _ _ _ _ _ _ c.requires.at _ c.requires.stop _ _ c.in-Some.ensures.takes c.args.next (omega arith) other c.requires.present _ _ e.keeps e.thins in
    x.pairs ∙ ap (λ k. without (tree_pairs c.args.nodes.now.table (name_of (get_or c.args.trail.now 0 0))) k) (key_number-be_bytes _ c.requires.at.full)

pub returns-clause-before : goal.returns-clause-before
returns-clause-before g c = taken_here _ _ _ _ _ _ _ c.requires.at _ c.requires.stop _ _ c.in-Some.ensures.takes

pub returns-clause-next : goal.returns-clause-next
returns-clause-next g c =
    let other : c.args.next ≢ c.args.byte = omega (arith, c.requires.above) in
    let e = c.shrink_if_due.ensures in
    let x = removal _ _ _ _ _ _ _ c.requires.at _ c.requires.stop _ _ c.in-Some.ensures.takes c.args.next (omega arith) other c.requires.present _ _ e.keeps e.thins in
    let pairs = x.pairs ∙ ap (λ k. without (tree_pairs c.args.nodes.now.table (name_of (get_or c.args.trail.now 0 0))) k) (key_number-be_bytes _ c.requires.at.full) in
    subst (λ m. HasNoneAfter m (from_be_bytes w64 c.args.key.now) (from_be_bytes w64 (set c.args.key.now 7 c.args.next))) (sym pairs)
    (none_next _ _ _ (ordered_here _ _ _ _ _ _ _ c.requires.at) (none_beside _ _ _ _ _ _ _ c.requires.at _ c.requires.stop c.args.next (omega arith) c.requires.next))
