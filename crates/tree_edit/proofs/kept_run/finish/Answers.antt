use Rattle.std.proofs.Common.{◌∙◌, ap, arith, get_or, refl, true}
use Rattle.spec_map.specs.Map.{without}
use Rattle.node_table.proofs.KeyLaws.{key_number-be_bytes}
use Rattle.tree_path.specs.inner.Root.{tree_pairs}
use Rattle.tree_edit.proofs.RunLaws.{one_less, short_here, whole_after, whole_here}
use Rattle.tree_edit.proofs.SpotLaws.{stands_alone}
use Rattle.tree_links.specs.SeenTable.{name_of}
use Rattle.tree_links.specs.Seeks.{seen_end}
use Rattle.tree_edit.proofs.kept_run.finish.Goals as goal

pub take_out-requires-clause-spot : goal.take_out-requires-clause-spot
take_out-requires-clause-spot g c = c.requires.ends

pub take_out-requires-clause-pair : goal.take_out-requires-clause-pair
take_out-requires-clause-pair g c = c.requires.pair

pub take_out-requires-clause-short : goal.take_out-requires-clause-short
take_out-requires-clause-short g c = short_here _ _ _ _ _ _ _ c.requires

pub take_out-requires-clause-whole : goal.take_out-requires-clause-whole
take_out-requires-clause-whole g c = whole_here _ _ _ _ _ _ _ c.requires

pub unreachable-requires : goal.unreachable-requires
unreachable-requires g c =
    let at = c.requires in
    stands_alone _ _ _ (seen_end c.args.key.now c.args.spot.now) at.ends at.bytes at.full at.payload at.there c.in_default.ensures.none

pub overflow_sub-count : goal.overflow_sub-count
overflow_sub-count g c =
    let less = one_less _ _ _ _ _ _ _ c.requires true c.take_out.new.nodes.table c.take_out.new.supply.forms (c.in-Some.ensures.taken refl) in
    omega (arith, less)

pub returns-in-Some-clause-whole : goal.returns-in-Some-clause-whole
returns-in-Some-clause-whole g c = whole_after _ _ _ _ _ _ _ c.requires true c.take_out.new.nodes.table c.take_out.new.supply.forms (c.in-Some.ensures.taken refl)

pub returns-in-Some-clause-pairs : goal.returns-in-Some-clause-pairs
returns-in-Some-clause-pairs g c =
    let x = c.in-Some.ensures.taken refl in
    let pairs = x.pairs ∙ ap (λ k. without (tree_pairs c.args.nodes.now.table (name_of (get_or c.args.trail.now 0 0))) k) (key_number-be_bytes _ c.requires.full) in
    rw c.if-not-stays.true pairs

pub returns-else-not-stays-clause-whole : goal.returns-else-not-stays-clause-whole
returns-else-not-stays-clause-whole g c = c.requires.whole
