use Rattle.std.proofs.Common.{◌≡◌, ℕ, ◌+◌, ◌≤◌, ◌∙◌, Some, ap, sym, subst, arith, rules}
use Rattle.node_base.specs.Rest.{rest}
use Rattle.spec_map.specs.Map.{Pairs, Rises}
use Rattle.spec_map.specs.Near.{below_of}
use Rattle.tree_links.specs.Places.{as_linked}
use Rattle.tree_links.specs.LinkNode.{looked_at}
use Rattle.tree_links.specs.SeenTable.{name_of, name_under, seen_links, seen_node}
use Rattle.tree_walk.specs.inner.Scan.{AddsEntries, entries_down}
use Rattle.tree_walk.proofs.ScanLaws.{keys_fit}
use Rattle.tree_walk.proofs.ScanDownLaws.{down_start, down_leaf, down_end, down_full, down_node, last_down, last_in_leaf}
use Rattle.tree_walk.specs.inner.Scan.{IsWindow}
use Rattle.tree_walk.proofs.LinkLaws.{between-seen, payloads_seen, last_seen, none_seen, rises_seen, stored_last, each_pair}
use Rattle.tree_walk.proofs.range_down.+scan_down.Goals as goal

pub write_payloads-requires-clause-keys : goal.write_payloads-requires-clause-keys
write_payloads-requires-clause-keys g t c =
    let n = as_linked c.in-Some.node.now in
    let is = subst (λ p. IsWindow p c.args.start (c.args.last + 1) c.window_of-window.result) c.base-base.ensures.prefix c.window_of-window.ensures in
    let fits = keys_fit c.args.nodes.now.table (name_of c.args.slot) (seen_node c.args.slot n) c.requires.tree c.in-Some.ensures.node c.in-Payloads.ensures.kind in
    omega (arith, is.first, fits)

pub returns-then-is_leaf : goal.returns-then-is_leaf
returns-then-is_leaf g t c =
    let n = as_linked c.in-Some.node.now in
    let is = subst (λ p. IsWindow p c.args.start (c.args.last + 1) c.window_of-window.result) c.base-base.ensures.prefix c.window_of-window.ensures in
    let w = c.window_of-window.result in
    let left = sym (payloads_seen c.args.slot (rest c.in-Payloads.payloads)) ∙ ap (λ es. seen_links c.args.slot es) c.in-Payloads.ensures.links ∙ sym (between-seen c.args.slot n.links w.from w.to) in
    λ less tree. subst (λ entries. AddsEntries entries c.args.buffer.now c.args.count c.write_payloads.new.buffer c.write_payloads.result)
    (down_leaf g.E.RangeEntry.entry c.args.start (c.args.last + 1) c.args.nodes.now.table less (name_of c.args.slot) (seen_node c.args.slot n) tree c.in-Some.ensures.node w is (rest c.in-Payloads.payloads) c.in-Payloads.ensures.kind left)
    c.write_payloads.ensures

pub children-init : goal.children-init
children-init g t c =
    let n = as_linked c.in-Some.node.now in
    let is = subst (λ p. IsWindow p c.args.start (c.args.last + 1) c.window_of-window.result) c.base-base.ensures.prefix c.window_of-window.ensures in
    record {
      down = λ less tree. down_start g.E.RangeEntry.entry c.args.start (c.args.last + 1) c.args.nodes.now.table less (name_of c.args.slot) (seen_node c.args.slot n) tree c.in-Some.ensures.node _ is c.args.buffer.now c.args.count c.requires.room;
      to = omega arith;
    }

pub read_ahead-ahead-requires : goal.read_ahead-ahead-requires
read_ahead-ahead-requires g t c = omega (arith, c.children.invariant.to, c.window_of-window.ensures.within)

pub last_between-requires : goal.last_between-requires
last_between-requires g t c = omega (arith, c.children.invariant.to, c.window_of-window.ensures.within)

pub returns-then-count-buffer : goal.returns-then-count-buffer
returns-then-count-buffer g t c = λ less tree.
    let n = as_linked c.in-Some.node.now in
    down_full g.E.RangeEntry.entry c.args.start (c.args.last + 1) c.args.nodes.now.table less (name_of c.args.slot) (seen_node c.args.slot n) tree c.in-Some.ensures.node _ c.children.to c.args.buffer.now c.children.buffer c.args.count c.children.count (c.children.invariant.down less tree)
    c.if-count-buffer.true

pub returns : goal.returns
returns g t c = λ less tree.
    let n = as_linked c.in-Some.node.now in
    down_end g.E.RangeEntry.entry c.args.start (c.args.last + 1) c.args.nodes.now.table less (name_of c.args.slot) (seen_node c.args.slot n) tree c.in-Some.ensures.node _ c.children.to c.args.buffer.now c.children.buffer c.args.count c.children.count (c.children.invariant.down less tree)
    (none_seen c.args.slot n.links c.window_of-window.result.from c.children.to c.in_default-last_between.ensures.none)

pub unreachable-requires-in-Payload : goal.unreachable-requires-in-Payload
unreachable-requires-in-Payload g t c =
    let n = as_linked c.in-Some.node.now in
    let byte = c.in-Some-last_between.byte in
    let within : c.children.to ≤ 256 = omega (arith, c.children.invariant.to, c.window_of-window.ensures.within) in
    let rises : Rises 0 256 (seen_links c.args.slot n.links) = rises_seen c.args.slot 0 256 n.links c.base-base.ensures.ascending in
    let found = last_seen c.args.slot n.links c.children.to byte _ (subst (λ x. Some (byte, looked_at x) ≡ below_of n.links c.children.to) c.in-Payload.is (sym c.in-Some-last_between.ensures.some)) in
    let seven = last_in_leaf c.args.nodes.now.table (name_of c.args.slot) (seen_node c.args.slot n) c.requires.tree c.in-Some.ensures.node c.children.to within rises byte _ found in
    let less = c.is_leaf.ensures.inner c.if-is_leaf.false in
    omega (arith, seven, less)

pub scan_down-count-requires : goal.scan_down-count-requires
scan_down-count-requires g t c κs within =
    let n = as_linked c.in-Some.node.now in
    let byte = c.in-Some-last_between.byte in
    let inside : c.children.to ≤ 256 = omega (arith, c.children.invariant.to, c.window_of-window.ensures.within) in
    let rises : Rises 0 256 (seen_links c.args.slot n.links) = rises_seen c.args.slot 0 256 n.links c.base-base.ensures.ascending in
    let found = last_seen c.args.slot n.links c.children.to byte _ (subst (λ x. Some (byte, looked_at x) ≡ below_of n.links c.children.to) c.in-Slot.is (sym c.in-Some-last_between.ensures.some)) in
    let down = last_down c.args.nodes.now.table (name_of c.args.slot) (seen_node c.args.slot n) c.requires.tree c.in-Some.ensures.node c.children.to inside rises byte (name_of c.in-Slot.below) found in
    let smaller = down.shorter in
    (search rules, (search rules, (down.at_key, omega arith)))

pub children-smaller-in-Slot : goal.children-smaller-in-Slot
children-smaller-in-Slot g t c = c.in-Some-last_between.ensures.before

pub children-smaller : goal.children-smaller
children-smaller g t c = c.in-Some-last_between.ensures.before

pub children-preserved-in-Slot : goal.children-preserved-in-Slot
children-preserved-in-Slot g t c =
    let n = as_linked c.in-Some.node.now in
    let l = c.children in
    let byte = c.in-Some-last_between.byte in
    let here = c.in-Some-last_between.ensures in
    let within : l.to ≤ 256 = omega (arith, l.invariant.to, c.window_of-window.ensures.within) in
    let found = last_seen c.args.slot n.links c.children.to byte _ (subst (λ x. Some (byte, looked_at x) ≡ below_of n.links c.children.to) c.in-Slot.is (sym c.in-Some-last_between.ensures.some)) in
    record {
      down = λ less tree.
          down_node g.E.RangeEntry.entry c.args.start (c.args.last + 1) c.args.nodes.now.table less (name_of c.args.slot) (seen_node c.args.slot n) tree c.in-Some.ensures.node _ l.to c.args.buffer.now l.buffer c.args.count l.count (l.invariant.down less tree)
          within byte (name_of c.in-Slot.below) found here.from _ _ c.scan_down-count.ensures;
      to = omega (arith, here.before, l.invariant.to);
    }

pub children-preserved : goal.children-preserved
children-preserved g t c =
    let n = as_linked c.in-Some.node.now in
    let l = c.children in
    let byte = c.in-Some-last_between.byte in
    let here = c.in-Some-last_between.ensures in
    let within : l.to ≤ 256 = omega (arith, l.invariant.to, c.window_of-window.ensures.within) in
    let link = subst (λ x. Some (byte, looked_at x) ≡ below_of n.links l.to) c.in-Pair.is (sym here.some) in
    let at = stored_last n.links c.base-base.ensures.ascending l.to byte _ within link in
    let entries = λ (pairs : Pairs ℕ). AddsEntries (entries_down g.E.RangeEntry.entry c.args.start (c.args.last + 1) pairs) l.buffer l.count c.write_pair-count.new.buffer c.write_pair-count.result in
    record {
      down = λ less tree.
          down_node g.E.RangeEntry.entry c.args.start (c.args.last + 1) c.args.nodes.now.table less (name_of c.args.slot) (seen_node c.args.slot n) tree c.in-Some.ensures.node _ l.to c.args.buffer.now l.buffer c.args.count l.count (l.invariant.down less tree)
          within byte (name_under c.args.slot byte) (last_seen c.args.slot n.links l.to byte _ link) here.from _ _
          (each_pair c.args.nodes.now.table c.args.slot n c.in-Some.ensures.pairs c.base-base.ensures.ascending byte _ _ at entries c.base-base.result.now.prefix c.base-base.ensures.prefix _ c.pair_number-number.ensures.number c.pair_number-number.ensures.seven c.write_pair-count.ensures.down);
      to = omega (arith, here.before, l.invariant.to);
    }
