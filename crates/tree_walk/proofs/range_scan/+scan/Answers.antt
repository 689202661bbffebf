use Rattle.std.proofs.Common.{ℕ, ◌≡◌, ◌+◌, ◌-◌, ◌++◌, Some, ap, sym, subst, refl, arith, rules, ◌∙◌}
use Rattle.spec_map.specs.Map.{Pairs, lookup, between, Rises}
use Rattle.spec_map.proofs.RangeLaws.{between-crossed, between-split, between-within}
use Rattle.node_base.specs.Rest.{rest}
use Rattle.tree_links.specs.LinkNode.{looked_at}
use Rattle.tree_links.specs.Places.{as_linked}
use Rattle.tree_links.specs.SeenTable.{name_of, seen_links, seen_node}
use Rattle.tree_walk.specs.inner.Scan.{AddsEntries, HasLinks, IsWindow, entries_of, links_at}
use Rattle.tree_walk.proofs.ScanLaws.{all_entries, in_leaf_window, keys_fit}
use Rattle.tree_walk.proofs.LinkLaws.{between-seen, rises_seen, payloads_seen, each_pair}
use Rattle.tree_walk.proofs.InsideLaws.{Walk, link_next, same_entries, walk_window, walk_end, walk_full, walk_seen, walk_part, walk_below, walk_slot, walk_pair, walk_payload}
use Rattle.tree_walk.proofs.range_scan.+scan.Goals as goal
use Rattle.tree_walk.proofs.range_scan.+scan.Goals.{in-Some-Slot, in-Some-Pair, in-None}

pub write_payloads-requires-clause-keys : goal.write_payloads-requires-clause-keys
write_payloads-requires-clause-keys g t c =
    let n = as_linked c.in-Some.node.now in
    let is = subst (λ p. IsWindow p c.args.start (c.args.last + 1) c.window_of-window.result) c.base-base.ensures.prefix c.window_of-window.ensures in
    let fits = keys_fit c.args.nodes.now.table (name_of c.args.slot) (seen_node c.args.slot n) c.requires.tree c.in-Some.ensures.node c.in-Payloads.ensures.kind in
    omega (arith, is.first, fits)

pub returns-then-is_leaf : goal.returns-then-is_leaf
returns-then-is_leaf g t c =
    let n = as_linked c.in-Some.node.now in
    let is = subst (λ p. IsWindow p c.args.start (c.args.last + 1) c.window_of-window.result) c.base-base.ensures.prefix c.window_of-window.ensures in
    let w = c.window_of-window.result in
    let left = sym (payloads_seen c.args.slot (rest c.in-Payloads.payloads)) ∙ ap (λ es. seen_links c.args.slot es) c.in-Payloads.ensures.links ∙ sym (between-seen c.args.slot n.links w.from w.to) in
    λ less tree. subst (λ entries. AddsEntries entries c.args.buffer.now c.args.count c.write_payloads.new.buffer c.write_payloads.result)
    (in_leaf_window g.E.RangeEntry.entry c.args.start (c.args.last + 1) c.args.nodes.now.table less (name_of c.args.slot) (seen_node c.args.slot n) tree c.in-Some.ensures.node _ is (rest c.in-Payloads.payloads) c.in-Payloads.ensures.kind left)
    c.write_payloads.ensures

pub parts-init : goal.parts-init
parts-init g t c =
    let s = c.args.nodes.now.table in
    let i = c.args.slot in
    let n = as_linked c.in-Some.node.now in
    let w = c.window_of-window.result in
    let is = subst (λ p. IsWindow p c.args.start (c.args.last + 1) c.window_of-window.result) c.base-base.ensures.prefix c.window_of-window.ensures in
    let h : HasLinks s i n (between n.links w.from w.to) = record { tree = c.requires.tree; here = c.in-Some.ensures.node; pairs = c.in-Some.ensures.pairs; ascending = c.base-base.ensures.ascending; from = w.from; to = w.to; within = c.window_of-window.ensures.within; are = refl } in
    record {
      walk = walk_window g.E.RangeEntry.entry c.args.start (c.args.last + 1) s i n w is (between n.links w.from w.to) c.args.buffer.now c.args.count h refl refl c.requires.room;
      begun = omega arith;
    }

pub returns-then-count-buffer : goal.returns-then-count-buffer
returns-then-count-buffer g t c =
    let s = c.args.nodes.now.table in
    let i = c.args.slot in
    let n = as_linked c.in-Some.node.now in
    let all = λ (less : ℕ). all_entries g.E.RangeEntry.entry c.args.start (c.args.last + 1) s less (name_of i) in
    let to = c.window_of-window.result.to in
    walk_full g.E.RangeEntry.entry c.args.start (c.args.last + 1) s i n all (between n.links c.parts.from to) c.args.buffer.now c.args.count c.parts.buffer c.parts.count c.parts.invariant.walk c.if-count-buffer.true

pub scan-count-requires : goal.scan-count-requires
scan-count-requires g t c κs within =
    let s = c.args.nodes.now.table in
    let i = c.args.slot in
    let n = as_linked c.in-Some.node.now in
    let all = λ (less : ℕ). all_entries g.E.RangeEntry.entry c.args.start (c.args.last + 1) s less (name_of i) in
    let to = c.window_of-window.result.to in
    let next = link_next n.links c.parts.from to _ c.base-base.ensures.ascending c.parts-test.true (subst (λ x. Some (looked_at x) ≡ lookup n.links c.parts.from) c.in-Some-Slot.field-0-is c.in-Some-Slot.ensures) in
    let down = walk_below g.E.RangeEntry.entry c.args.start (c.args.last + 1) s i n all (between n.links c.parts.from to) c.args.buffer.now c.args.count c.parts.buffer c.parts.count c.parts.invariant.walk c.parts.from c.in-Some-Slot.below (between n.links (c.parts.from + 1) to) next c.requires.tree c.in-Some.ensures.node in
    let smaller = down.shorter in
    (search rules, (search rules, (down.at_key, omega (arith, c.if-count-buffer.false))))

pub unreachable-requires-in-Some-Payload : goal.unreachable-requires-in-Some-Payload
unreachable-requires-in-Some-Payload g t c =
    let s = c.args.nodes.now.table in
    let i = c.args.slot in
    let n = as_linked c.in-Some.node.now in
    let all = λ (less : ℕ). all_entries g.E.RangeEntry.entry c.args.start (c.args.last + 1) s less (name_of i) in
    let to = c.window_of-window.result.to in
    let next = link_next n.links c.parts.from to _ c.base-base.ensures.ascending c.parts-test.true (subst (λ x. Some (looked_at x) ≡ lookup n.links c.parts.from) c.in-Some-Payload.field-0-is c.in-Some-Payload.ensures) in
    let seven = walk_payload g.E.RangeEntry.entry c.args.start (c.args.last + 1) s i n all (between n.links c.parts.from to) c.args.buffer.now c.args.count c.parts.buffer c.parts.count c.parts.invariant.walk c.parts.from _ (between n.links (c.parts.from + 1) to) next c.requires.tree in
    omega (arith, seven, c.is_leaf.ensures.inner c.if-is_leaf.false)

pub parts-preserved-then-from-window-2 : goal.parts-preserved-then-from-window-2
parts-preserved-then-from-window-2 g t c =
    let s = c.args.nodes.now.table in
    let i = c.args.slot in
    let n = as_linked c.in-Some.node.now in
    let all = λ (less : ℕ). all_entries g.E.RangeEntry.entry c.args.start (c.args.last + 1) s less (name_of i) in
    let is = subst (λ p. IsWindow p c.args.start (c.args.last + 1) c.window_of-window.result) c.base-base.ensures.prefix c.window_of-window.ensures in
    let from = c.parts.from in
    let to = c.window_of-window.result.to in
    let end = to - 1 in
    let inside = links_at (rest c.in-Nodes.places) in
    let h : HasLinks s i n inside = record { tree = c.requires.tree; here = c.in-Some.ensures.node; pairs = c.in-Some.ensures.pairs; ascending = c.base-base.ensures.ascending; from = from; to = end; within = omega (arith, is.within); are = c.in-Nodes.ensures.links } in
    let rises : Rises from end (seen_links i inside) = rises_seen i from end inside (subst (λ l. Rises from end l) (sym c.in-Nodes.ensures.links) (between-within 0 256 from end n.links c.base-base.ensures.ascending)) in
    let split = between-split 0 256 from end to n.links c.base-base.ensures.ascending (omega (arith, c.if-from-window-2.true)) (omega arith) ∙ ap (λ t. t ++ between n.links end to) (sym c.in-Nodes.ensures.links) in
    record {
      walk = walk_part g.E.RangeEntry.entry c.args.start (c.args.last + 1) s i n all (between n.links from to) c.args.buffer.now c.args.count c.parts.buffer c.parts.count c.parts.invariant.walk inside (between n.links end to) _ _ split
          (λ less tree. subst (λ entries. AddsEntries entries c.parts.buffer c.parts.count c.scan_places-count.new.buffer c.scan_places-count.result)
          (same_entries g.E.RangeEntry.entry c.args.start (c.args.last + 1) s i n inside h from end rises (omega (arith, is.within, c.if-from-window-2.true))
          (λ b l k. is.after_first b (omega (arith, l, c.if-from-window.true))) (λ b l k. is.before_last b (omega (arith, k))) less tree)
          (c.scan_places-count.ensures less tree));
      begun = omega (arith, c.parts.invariant.begun, c.if-from-window-2.true);
    }

pub parts-preserved : goal.parts-preserved
parts-preserved g t c =
    let s = c.args.nodes.now.table in
    let i = c.args.slot in
    let n = as_linked c.in-Some.node.now in
    let all = λ (less : ℕ). all_entries g.E.RangeEntry.entry c.args.start (c.args.last + 1) s less (name_of i) in
    let to = c.window_of-window.result.to in
    let ys = between n.links (c.parts.from + 1) to in
    let after : Walk g.E.RangeEntry.entry c.args.start (c.args.last + 1) s i n all ys c.args.buffer.now c.args.count c.match-get_link.buffer c.match-get_link.count = elim c.match-get_link.branch [
      | in-Some-Slot w ↦
          let next = link_next n.links c.parts.from to _ c.base-base.ensures.ascending c.parts-test.true (subst (λ x. Some (looked_at x) ≡ lookup n.links c.parts.from) w.in-Some-Slot.field-0-is w.in-Some-Slot.ensures) in
          rw (w.buffer-is, w.count-is) (walk_slot g.E.RangeEntry.entry c.args.start (c.args.last + 1) s i n all (between n.links c.parts.from to) c.args.buffer.now c.args.count c.parts.buffer c.parts.count c.parts.invariant.walk c.parts.from w.in-Some-Slot.below ys _ _ next w.scan-count.ensures)
      | in-Some-Pair w ↦
          let next = link_next n.links c.parts.from to _ c.base-base.ensures.ascending c.parts-test.true (subst (λ x. Some (looked_at x) ≡ lookup n.links c.parts.from) w.in-Some-Pair.field-0-is w.in-Some-Pair.ensures) in
          let stored = (walk_seen g.E.RangeEntry.entry c.args.start (c.args.last + 1) s i n all (between n.links c.parts.from to) c.args.buffer.now c.args.count c.parts.buffer c.parts.count c.parts.invariant.walk _ next).stored in
          let entries = λ (pairs : Pairs ℕ). AddsEntries (entries_of g.E.RangeEntry.entry c.args.start (c.args.last + 1) pairs) c.parts.buffer c.parts.count w.write_pair-count.new.buffer w.write_pair-count.result in
          rw (w.buffer-is, w.count-is) (walk_pair g.E.RangeEntry.entry c.args.start (c.args.last + 1) s i n all (between n.links c.parts.from to) c.args.buffer.now c.args.count c.parts.buffer c.parts.count c.parts.invariant.walk c.parts.from _ _ ys _ _ next
          (each_pair s i n c.in-Some.ensures.pairs c.base-base.ensures.ascending c.parts.from _ _ stored.0 entries c.base-base.result.now.prefix c.base-base.ensures.prefix _ w.pair_number-number.ensures.number w.pair_number-number.ensures.seven w.write_pair-count.ensures.up))
      | in-None w ↦
          let next = link_next n.links c.parts.from to _ c.base-base.ensures.ascending c.parts-test.true w.in-None.ensures in
          rw (w.buffer-is, w.count-is) (walk_seen g.E.RangeEntry.entry c.args.start (c.args.last + 1) s i n all (between n.links c.parts.from to) c.args.buffer.now c.args.count c.parts.buffer c.parts.count c.parts.invariant.walk ys next)
    ] in
    record { walk = after; begun = omega (arith, c.parts.invariant.begun) }

pub returns : goal.returns
returns g t c =
    let s = c.args.nodes.now.table in
    let i = c.args.slot in
    let n = as_linked c.in-Some.node.now in
    let all = λ (less : ℕ). all_entries g.E.RangeEntry.entry c.args.start (c.args.last + 1) s less (name_of i) in
    let to = c.window_of-window.result.to in
    walk_end g.E.RangeEntry.entry c.args.start (c.args.last + 1) s i n all (between n.links c.parts.from to) c.args.buffer.now c.args.count c.parts.buffer c.parts.count c.parts.invariant.walk (between-crossed c.parts.from to n.links c.parts-test.false)
