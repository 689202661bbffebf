use Rattle.std.proofs.Common.{◌^◌, [], ◌∷◌, ap, sym, subst, arith, rules, ◌∙◌}
use Rattle.spec_map.proofs.RangeLaws.{between-all}
use Rattle.node_base.specs.Rest.{rest, rest_4, rest_16, rest_48, rest_256}
use Rattle.spec_node.specs.Key.{low}
use Rattle.node_table.specs.Table.{pairs_at, pairs_of}
use Rattle.tree_links.specs.Places.{as_link, as_linked}
use Rattle.tree_links.specs.SeenTable.{name_of, seen_links, seen_node}
use Rattle.spec_node.specs.declared.child.Child.TheVariants.{Node}
use Rattle.tree_walk.specs.inner.Scan.{AddsAll, AddsEntries, HasLinks, entries_of, entries_under, links_at}
use Rattle.tree_walk.proofs.WindowLaws.{whole_window}
use Rattle.tree_walk.proofs.ScanLaws.{at_node, first_number_is, in_leaf_window}
use Rattle.tree_walk.proofs.LinkLaws.{between-seen, payloads_seen}
use Rattle.tree_walk.proofs.InsideLaws.{inside_start, inside_end, inside_full, inside_next, inside_on, below_one, slot_written, pair_written}
use Rattle.tree_walk.proofs.range_scan.+inside.Goals as goal

pub scan_inside-returns-in-Payloads : goal.scan_inside-returns-in-Payloads
scan_inside-returns-in-Payloads g t c = λ less tree.
    let s = c.args.nodes.now.table in
    let n = as_linked c.in-Some.node.now in
    let payloads = rest c.in-Payloads.payloads in
    let a = at_node s less (name_of c.args.slot) (seen_node c.args.slot n) tree c.in-Some.ensures.node in
    let first = c.first_key.ensures ∙ first_number_is s less (name_of c.args.slot) (seen_node c.args.slot n) tree c.in-Some.ensures.node c.base-base.result.now.prefix c.base-base.ensures.prefix in
    let left = sym (payloads_seen c.args.slot payloads) ∙ ap (λ es. seen_links c.args.slot es) c.in-Payloads.ensures.links ∙ sym (between-seen c.args.slot n.links 0 256) in
    subst (λ entries. AddsEntries entries c.args.buffer.now c.args.count c.write_payloads.new.buffer c.write_payloads.result)
    (in_leaf_window g.E.RangeEntry.entry 0 (2 ^ 64) s less (name_of c.args.slot) (seen_node c.args.slot n) tree c.in-Some.ensures.node (record { first = low n.prefix; from = 0; to = 256 }) (whole_window n.prefix a.sound.bytes a.sound.short) payloads c.in-Payloads.ensures.kind left)
    (subst (λ k. AddsEntries (entries_under g.E.RangeEntry.entry k payloads) c.args.buffer.now c.args.count c.write_payloads.new.buffer c.write_payloads.result) first c.write_payloads.ensures)

pub scan_inside-returns-in-Nodes : goal.scan_inside-returns-in-Nodes
scan_inside-returns-in-Nodes g t c = λ less tree.
    let s = c.args.nodes.now.table in
    let n = as_linked c.in-Some.node.now in
    let a = at_node s less (name_of c.args.slot) (seen_node c.args.slot n) tree c.in-Some.ensures.node in
    subst (λ entries. AddsEntries entries c.args.buffer.now c.args.count c.scan_places.new.buffer c.scan_places.result)
    (ap (λ l. entries_of g.E.RangeEntry.entry 0 (2 ^ 64) (pairs_of (λ j. pairs_at s less j) n.prefix (seen_links c.args.slot l))) (c.in-Nodes.ensures.links ∙ between-all 0 256 0 256 n.links c.base-base.ensures.ascending (omega arith) (omega arith))
    ∙ ap (λ ps. entries_of g.E.RangeEntry.entry 0 (2 ^ 64) ps) (sym a.pairs))
    (c.scan_places.ensures less tree)

pub scan_place-scan_inside-requires : goal.scan_place-scan_inside-requires
scan_place-scan_inside-requires g t c κs within =
    let h = c.requires.place in
    let down = below_one c.args.nodes.now.table c.args._slot (as_linked c.args.node.now) c.args.byte c.in-Slot.below (subst (λ p. HasLinks c.args.nodes.now.table c.args._slot (as_linked c.args.node.now) (links_at ((c.args.byte, p) ∷ []))) c.in-Slot.is h) in
    (omega (arith, down.shorter), (search rules, (down.at_key, omega (arith, c.requires.room))))

pub scan_place-returns-in-Slot : goal.scan_place-returns-in-Slot
scan_place-returns-in-Slot g t c =
    subst (λ p. AddsAll c.args.nodes.now.table g.E.RangeEntry.entry c.args._slot (as_linked c.args.node.now) (links_at ((c.args.byte, p) ∷ [])) c.args.buffer.now c.args.count c.scan_inside.new.buffer c.scan_inside.result) (sym c.in-Slot.is)
    (slot_written c.args.nodes.now.table c.args._slot (as_linked c.args.node.now) c.args.byte g.E.RangeEntry.entry c.args.buffer.now c.args.count (omega (arith, c.requires.room)) c.scan_inside.new.buffer c.scan_inside.result c.in-Slot.below
    (subst (λ p. HasLinks c.args.nodes.now.table c.args._slot (as_linked c.args.node.now) (links_at ((c.args.byte, p) ∷ []))) c.in-Slot.is c.requires.place) c.scan_inside.ensures)

pub scan_place-returns-in-Pair : goal.scan_place-returns-in-Pair
scan_place-returns-in-Pair g t c =
    subst (λ p. AddsAll c.args.nodes.now.table g.E.RangeEntry.entry c.args._slot (as_linked c.args.node.now) (links_at ((c.args.byte, p) ∷ [])) c.args.buffer.now c.args.count c.write_one.new.buffer c.write_one.result) (sym c.in-Pair.is)
    (pair_written c.args.nodes.now.table c.args._slot (as_linked c.args.node.now) c.args.byte g.E.RangeEntry.entry c.args.buffer.now c.args.count (omega (arith, c.requires.room)) c.write_one.new.buffer c.write_one.result c.in-Pair.rest c.in-Pair.value
    (subst (λ p. HasLinks c.args.nodes.now.table c.args._slot (as_linked c.args.node.now) (links_at ((c.args.byte, p) ∷ []))) c.in-Pair.is c.requires.place) c.base.result.now.prefix c.base.ensures.prefix _ c.pair_number-number.ensures.number c.pair_number-number.ensures.seven c.write_one.ensures)

pub scan_places-few-init : goal.scan_places-few-init
scan_places-few-init g t c =
    inside_start g.E.RangeEntry.entry c.args.nodes.now.table c.args._slot (as_linked c.args.node.now) (links_at (rest_4 c.in-N4.places)) c.args.buffer.now c.args.count (subst (λ p. HasLinks c.args.nodes.now.table c.args._slot (as_linked c.args.node.now) (links_at (rest p))) c.in-N4.is c.requires.places) c.requires.room

pub scan_places-returns-in_default : goal.scan_places-returns-in_default
scan_places-returns-in_default g t c =
    subst (λ p. AddsAll c.args.nodes.now.table g.E.RangeEntry.entry c.args._slot (as_linked c.args.node.now) (links_at (rest p)) c.args.buffer.now c.args.count c.few.buffer c.few.count) (sym c.in-N4.is)
    (inside_end g.E.RangeEntry.entry c.args.nodes.now.table c.args._slot (as_linked c.args.node.now) (links_at (rest_4 c.in-N4.places)) (links_at (rest_4 c.few.places)) c.args.buffer.now c.args.count c.few.buffer c.few.count c.few.invariant (ap (λ es. links_at es) c.in_default.ensures.none))

pub scan_places-scan_place-count-requires : goal.scan_places-scan_place-count-requires
scan_places-scan_place-count-requires g t c κs within =
    (search rules, (search rules, (inside_next g.E.RangeEntry.entry c.args.nodes.now.table c.args._slot (as_linked c.args.node.now) (links_at (rest_4 c.in-N4.places)) (links_at (rest_4 c.few.places)) c.args.buffer.now c.args.count c.few.buffer c.few.count c.few.invariant (c.in-Some.byte, as_link (Node c.in-Some.place.now)) (links_at (rest_4 c.next_4.new.places)) (ap (λ es. links_at es) c.in-Some.ensures.some) (subst (λ p. HasLinks c.args.nodes.now.table c.args._slot (as_linked c.args.node.now) (links_at (rest p))) c.in-N4.is c.requires.places), c.few-test.true)))

pub scan_places-few-preserved : goal.scan_places-few-preserved
scan_places-few-preserved g t c =
    inside_on g.E.RangeEntry.entry c.args.nodes.now.table c.args._slot (as_linked c.args.node.now) (links_at (rest_4 c.in-N4.places)) (links_at (rest_4 c.few.places)) c.args.buffer.now c.args.count c.few.buffer c.few.count c.few.invariant (c.in-Some.byte, as_link (Node c.in-Some.place.now)) (links_at (rest_4 c.next_4.new.places)) (ap (λ es. links_at es) c.in-Some.ensures.some) _ _ c.scan_place-count.ensures

pub scan_places-returns-after-few : goal.scan_places-returns-after-few
scan_places-returns-after-few g t c =
    subst (λ p. AddsAll c.args.nodes.now.table g.E.RangeEntry.entry c.args._slot (as_linked c.args.node.now) (links_at (rest p)) c.args.buffer.now c.args.count c.few.buffer c.few.count) (sym c.in-N4.is)
    (inside_full g.E.RangeEntry.entry c.args.nodes.now.table c.args._slot (as_linked c.args.node.now) (links_at (rest_4 c.in-N4.places)) (links_at (rest_4 c.few.places)) c.args.buffer.now c.args.count c.few.buffer c.few.count c.few.invariant c.few-test.false)

pub scan_places-row-init : goal.scan_places-row-init
scan_places-row-init g t c =
    inside_start g.E.RangeEntry.entry c.args.nodes.now.table c.args._slot (as_linked c.args.node.now) (links_at (rest_16 c.in-N16.places)) c.args.buffer.now c.args.count (subst (λ p. HasLinks c.args.nodes.now.table c.args._slot (as_linked c.args.node.now) (links_at (rest p))) c.in-N16.is c.requires.places) c.requires.room

pub scan_places-returns-in_default-next_16 : goal.scan_places-returns-in_default-next_16
scan_places-returns-in_default-next_16 g t c =
    subst (λ p. AddsAll c.args.nodes.now.table g.E.RangeEntry.entry c.args._slot (as_linked c.args.node.now) (links_at (rest p)) c.args.buffer.now c.args.count c.row.buffer c.row.count) (sym c.in-N16.is)
    (inside_end g.E.RangeEntry.entry c.args.nodes.now.table c.args._slot (as_linked c.args.node.now) (links_at (rest_16 c.in-N16.places)) (links_at (rest_16 c.row.places)) c.args.buffer.now c.args.count c.row.buffer c.row.count c.row.invariant (ap (λ es. links_at es) c.in_default-next_16.ensures.none))

pub scan_places-scan_place-count-requires-in-row : goal.scan_places-scan_place-count-requires-in-row
scan_places-scan_place-count-requires-in-row g t c κs within =
    (search rules, (search rules, (inside_next g.E.RangeEntry.entry c.args.nodes.now.table c.args._slot (as_linked c.args.node.now) (links_at (rest_16 c.in-N16.places)) (links_at (rest_16 c.row.places)) c.args.buffer.now c.args.count c.row.buffer c.row.count c.row.invariant (c.in-Some-next_16.byte, as_link (Node c.in-Some-next_16.place.now)) (links_at (rest_16 c.next_16.new.places)) (ap (λ es. links_at es) c.in-Some-next_16.ensures.some) (subst (λ p. HasLinks c.args.nodes.now.table c.args._slot (as_linked c.args.node.now) (links_at (rest p))) c.in-N16.is c.requires.places), c.row-test.true)))

pub scan_places-row-preserved : goal.scan_places-row-preserved
scan_places-row-preserved g t c =
    inside_on g.E.RangeEntry.entry c.args.nodes.now.table c.args._slot (as_linked c.args.node.now) (links_at (rest_16 c.in-N16.places)) (links_at (rest_16 c.row.places)) c.args.buffer.now c.args.count c.row.buffer c.row.count c.row.invariant (c.in-Some-next_16.byte, as_link (Node c.in-Some-next_16.place.now)) (links_at (rest_16 c.next_16.new.places)) (ap (λ es. links_at es) c.in-Some-next_16.ensures.some) _ _ c.scan_place-count-in-row.ensures

pub scan_places-returns-after-row : goal.scan_places-returns-after-row
scan_places-returns-after-row g t c =
    subst (λ p. AddsAll c.args.nodes.now.table g.E.RangeEntry.entry c.args._slot (as_linked c.args.node.now) (links_at (rest p)) c.args.buffer.now c.args.count c.row.buffer c.row.count) (sym c.in-N16.is)
    (inside_full g.E.RangeEntry.entry c.args.nodes.now.table c.args._slot (as_linked c.args.node.now) (links_at (rest_16 c.in-N16.places)) (links_at (rest_16 c.row.places)) c.args.buffer.now c.args.count c.row.buffer c.row.count c.row.invariant c.row-test.false)

pub scan_places-index-init : goal.scan_places-index-init
scan_places-index-init g t c =
    inside_start g.E.RangeEntry.entry c.args.nodes.now.table c.args._slot (as_linked c.args.node.now) (links_at (rest_48 c.in-N48.places)) c.args.buffer.now c.args.count (subst (λ p. HasLinks c.args.nodes.now.table c.args._slot (as_linked c.args.node.now) (links_at (rest p))) c.in-N48.is c.requires.places) c.requires.room

pub scan_places-returns-in_default-next_48 : goal.scan_places-returns-in_default-next_48
scan_places-returns-in_default-next_48 g t c =
    subst (λ p. AddsAll c.args.nodes.now.table g.E.RangeEntry.entry c.args._slot (as_linked c.args.node.now) (links_at (rest p)) c.args.buffer.now c.args.count c.index.buffer c.index.count) (sym c.in-N48.is)
    (inside_end g.E.RangeEntry.entry c.args.nodes.now.table c.args._slot (as_linked c.args.node.now) (links_at (rest_48 c.in-N48.places)) (links_at (rest_48 c.index.places)) c.args.buffer.now c.args.count c.index.buffer c.index.count c.index.invariant (ap (λ es. links_at es) c.in_default-next_48.ensures.none))

pub scan_places-scan_place-count-requires-in-index : goal.scan_places-scan_place-count-requires-in-index
scan_places-scan_place-count-requires-in-index g t c κs within =
    (search rules, (search rules, (inside_next g.E.RangeEntry.entry c.args.nodes.now.table c.args._slot (as_linked c.args.node.now) (links_at (rest_48 c.in-N48.places)) (links_at (rest_48 c.index.places)) c.args.buffer.now c.args.count c.index.buffer c.index.count c.index.invariant (c.in-Some-next_48.byte, as_link (Node c.in-Some-next_48.place.now)) (links_at (rest_48 c.next_48.new.places)) (ap (λ es. links_at es) c.in-Some-next_48.ensures.some) (subst (λ p. HasLinks c.args.nodes.now.table c.args._slot (as_linked c.args.node.now) (links_at (rest p))) c.in-N48.is c.requires.places), c.index-test.true)))

pub scan_places-index-preserved : goal.scan_places-index-preserved
scan_places-index-preserved g t c =
    inside_on g.E.RangeEntry.entry c.args.nodes.now.table c.args._slot (as_linked c.args.node.now) (links_at (rest_48 c.in-N48.places)) (links_at (rest_48 c.index.places)) c.args.buffer.now c.args.count c.index.buffer c.index.count c.index.invariant (c.in-Some-next_48.byte, as_link (Node c.in-Some-next_48.place.now)) (links_at (rest_48 c.next_48.new.places)) (ap (λ es. links_at es) c.in-Some-next_48.ensures.some) _ _ c.scan_place-count-in-index.ensures

pub scan_places-returns-after-index : goal.scan_places-returns-after-index
scan_places-returns-after-index g t c =
    subst (λ p. AddsAll c.args.nodes.now.table g.E.RangeEntry.entry c.args._slot (as_linked c.args.node.now) (links_at (rest p)) c.args.buffer.now c.args.count c.index.buffer c.index.count) (sym c.in-N48.is)
    (inside_full g.E.RangeEntry.entry c.args.nodes.now.table c.args._slot (as_linked c.args.node.now) (links_at (rest_48 c.in-N48.places)) (links_at (rest_48 c.index.places)) c.args.buffer.now c.args.count c.index.buffer c.index.count c.index.invariant c.index-test.false)

pub scan_places-cells-init : goal.scan_places-cells-init
scan_places-cells-init g t c =
    inside_start g.E.RangeEntry.entry c.args.nodes.now.table c.args._slot (as_linked c.args.node.now) (links_at (rest_256 c.in-N256.places)) c.args.buffer.now c.args.count (subst (λ p. HasLinks c.args.nodes.now.table c.args._slot (as_linked c.args.node.now) (links_at (rest p))) c.in-N256.is c.requires.places) c.requires.room

pub scan_places-returns-in_default-next_256 : goal.scan_places-returns-in_default-next_256
scan_places-returns-in_default-next_256 g t c =
    subst (λ p. AddsAll c.args.nodes.now.table g.E.RangeEntry.entry c.args._slot (as_linked c.args.node.now) (links_at (rest p)) c.args.buffer.now c.args.count c.cells.buffer c.cells.count) (sym c.in-N256.is)
    (inside_end g.E.RangeEntry.entry c.args.nodes.now.table c.args._slot (as_linked c.args.node.now) (links_at (rest_256 c.in-N256.places)) (links_at (rest_256 c.cells.places)) c.args.buffer.now c.args.count c.cells.buffer c.cells.count c.cells.invariant (ap (λ es. links_at es) c.in_default-next_256.ensures.none))

pub scan_places-scan_place-count-requires-in-cells : goal.scan_places-scan_place-count-requires-in-cells
scan_places-scan_place-count-requires-in-cells g t c κs within =
    (search rules, (search rules, (inside_next g.E.RangeEntry.entry c.args.nodes.now.table c.args._slot (as_linked c.args.node.now) (links_at (rest_256 c.in-N256.places)) (links_at (rest_256 c.cells.places)) c.args.buffer.now c.args.count c.cells.buffer c.cells.count c.cells.invariant (c.in-Some-next_256.byte, as_link (Node c.in-Some-next_256.place.now)) (links_at (rest_256 c.next_256.new.places)) (ap (λ es. links_at es) c.in-Some-next_256.ensures.some) (subst (λ p. HasLinks c.args.nodes.now.table c.args._slot (as_linked c.args.node.now) (links_at (rest p))) c.in-N256.is c.requires.places), c.cells-test.true)))

pub scan_places-cells-preserved : goal.scan_places-cells-preserved
scan_places-cells-preserved g t c =
    inside_on g.E.RangeEntry.entry c.args.nodes.now.table c.args._slot (as_linked c.args.node.now) (links_at (rest_256 c.in-N256.places)) (links_at (rest_256 c.cells.places)) c.args.buffer.now c.args.count c.cells.buffer c.cells.count c.cells.invariant (c.in-Some-next_256.byte, as_link (Node c.in-Some-next_256.place.now)) (links_at (rest_256 c.next_256.new.places)) (ap (λ es. links_at es) c.in-Some-next_256.ensures.some) _ _ c.scan_place-count-in-cells.ensures

pub scan_places-returns-after-cells : goal.scan_places-returns-after-cells
scan_places-returns-after-cells g t c =
    subst (λ p. AddsAll c.args.nodes.now.table g.E.RangeEntry.entry c.args._slot (as_linked c.args.node.now) (links_at (rest p)) c.args.buffer.now c.args.count c.cells.buffer c.cells.count) (sym c.in-N256.is)
    (inside_full g.E.RangeEntry.entry c.args.nodes.now.table c.args._slot (as_linked c.args.node.now) (links_at (rest_256 c.in-N256.places)) (links_at (rest_256 c.cells.places)) c.args.buffer.now c.args.count c.cells.buffer c.cells.count c.cells.invariant c.cells-test.false)
