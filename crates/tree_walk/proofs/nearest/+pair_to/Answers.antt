use Rattle.std.proofs.Common.{◌≡◌, ℕ, suc, ◌+◌, ◌≤◌, ◌∙◌, Some, ap, option_map, subst, sym, arith, rules}
use Rattle.spec_map.specs.Map.{Rises}
use Rattle.spec_map.specs.Near.{below_of, floor_of}
use Rattle.node_table.specs.Table.{IsSubtree, pairs_at, pairs_under}
use Rattle.tree_links.specs.Places.{as_linked}
use Rattle.tree_links.specs.LinkNode.{looked_at}
use Rattle.tree_links.specs.SeenTable.{name_of, name_under, seen_link, seen_links, seen_node}
use Rattle.tree_walk.proofs.ScanLaws.{goes_down, in_leaf}
use Rattle.tree_walk.proofs.WalkLaws.{key_fits}
use Rattle.tree_walk.proofs.NearestLaws.{byte_before, next_at, down_start, down_end, down_found, down_on, down_payload, down_node, is_not_none, is_none}
use Rattle.tree_walk.specs.inner.Scan.{IsWindow}
use Rattle.tree_walk.proofs.LinkLaws.{last_seen, no_last_seen, rises_seen, stored_last, each_pair}
use Rattle.tree_walk.proofs.nearest.+pair_to.Goals as goal
use Rattle.tree_walk.proofs.nearest.+pair_to.Goals.{in-Payload, in-Slot, in-Pair}

pub children-init : goal.children-init
children-init g t c =
    let n = as_linked c.in-Some.node.now in
    let is = subst (λ p. IsWindow p 0 (c.args.last + 1) c.window_of-window.result) c.base-base.ensures.prefix c.window_of-window.ensures in
    record {
      right = λ less tree. down_start c.args.nodes.now.table c.args.last less (name_of c.args.slot) (seen_node c.args.slot n) tree c.in-Some.ensures.node _ is;
      to = omega arith;
    }

pub overflow_add-found : goal.overflow_add-found
overflow_add-found g t c =
    let n = as_linked c.in-Some.node.now in
    let byte = c.in-Some-last_below.byte in
    let is = subst (λ p. IsWindow p 0 (c.args.last + 1) c.window_of-window.result) c.base-base.ensures.prefix c.window_of-window.ensures in
    let s = c.args.nodes.now.table in
    let within : c.children.to ≤ 256 = omega (arith, c.children.invariant.to, is.within) in
    let rises : Rises 0 256 (seen_links c.args.slot n.links) = rises_seen c.args.slot 0 256 n.links c.base-base.ensures.ascending in
    let next = next_at (seen_links c.args.slot n.links) rises c.children.to within byte _ (last_seen c.args.slot n.links c.children.to byte _ (subst (λ x. Some (byte, looked_at x) ≡ below_of n.links c.children.to) c.in-Payload.is c.in-Some-last_below.ensures)) in
    let fits = key_fits s (name_of c.args.slot) (seen_node c.args.slot n) byte byte _ _ c.requires c.in-Some.ensures.node next in
    omega (arith, is.first, fits)

pub pair_to-found-requires : goal.pair_to-found-requires
pair_to-found-requires g t c κs inside =
    let n = as_linked c.in-Some.node.now in
    let byte = c.in-Some-last_below.byte in
    let is = subst (λ p. IsWindow p 0 (c.args.last + 1) c.window_of-window.result) c.base-base.ensures.prefix c.window_of-window.ensures in
    let s = c.args.nodes.now.table in
    let within : c.children.to ≤ 256 = omega (arith, c.children.invariant.to, is.within) in
    let rises : Rises 0 256 (seen_links c.args.slot n.links) = rises_seen c.args.slot 0 256 n.links c.base-base.ensures.ascending in
    let next = next_at (seen_links c.args.slot n.links) rises c.children.to within byte _ (last_seen c.args.slot n.links c.children.to byte _ (subst (λ x. Some (byte, looked_at x) ≡ below_of n.links c.children.to) c.in-Slot.is c.in-Some-last_below.ensures)) in
    let down = goes_down s (name_of c.args.slot) (seen_node c.args.slot n) byte byte (name_of c.in-Slot.below) _ c.requires c.in-Some.ensures.node next in
    let smaller = down.shorter in
    (search rules, (search rules, down.at_key))

pub last_below-requires : goal.last_below-requires
last_below-requires g t c =
    let is = subst (λ p. IsWindow p 0 (c.args.last + 1) c.window_of-window.result) c.base-base.ensures.prefix c.window_of-window.ensures in
    omega (arith, c.children.invariant.to, is.within)

pub returns : goal.returns
returns g t c =
    let n = as_linked c.in-Some.node.now in
    λ less tree. down_end c.args.nodes.now.table c.args.last less (name_of c.args.slot) (seen_node c.args.slot n) tree c.in-Some.ensures.node c.children.to (c.children.invariant.right less tree) (no_last_seen c.args.slot n.links c.children.to c.in_default-last_below.ensures)

pub returns-then-is_some : goal.returns-then-is_some
returns-then-is_some g t c =
    let n = as_linked c.in-Some.node.now in
    let byte = c.in-Some-last_below.byte in
    let is = subst (λ p. IsWindow p 0 (c.args.last + 1) c.window_of-window.result) c.base-base.ensures.prefix c.window_of-window.ensures in
    let s = c.args.nodes.now.table in
    let within : c.children.to ≤ 256 = omega (arith, c.children.invariant.to, is.within) in
    let rises : Rises 0 256 (seen_links c.args.slot n.links) = rises_seen c.args.slot 0 256 n.links c.base-base.ensures.ascending in
    let last = last_seen c.args.slot n.links c.children.to byte _ c.in-Some-last_below.ensures in
    let before = byte_before (seen_links c.args.slot n.links) rises c.children.to within byte _ last in
    let found : (less : ℕ) → IsSubtree s (suc less) (name_of c.args.slot) → option_map (λ f. (f.0, f.1.now)) c.match-child.found ≡ floor_of (pairs_under (λ j. pairs_at s less j) n.prefix byte (seen_link c.args.slot byte (looked_at c.in-Some-last_below.child))) c.args.last = λ less tree.
    elim c.match-child.branch [
      | in-Payload w ↦
          let here = next_at (seen_links c.args.slot n.links) rises c.children.to within byte _ (last_seen c.args.slot n.links c.children.to byte _ (subst (λ x. Some (byte, looked_at x) ≡ below_of n.links c.children.to) w.in-Payload.is c.in-Some-last_below.ensures)) in
          let seven = in_leaf s (name_of c.args.slot) (seen_node c.args.slot n) byte byte _ _ c.requires c.in-Some.ensures.node here in
          subst (λ x. option_map (λ f. (f.0, f.1.now)) c.match-child.found ≡ floor_of (pairs_under (λ j. pairs_at s less j) n.prefix byte (seen_link c.args.slot byte (looked_at x))) c.args.last) (sym w.in-Payload.is)
          (ap (λ o. option_map (λ f. (f.0, f.1.now)) o) w.found-is ∙ down_payload s c.args.last less (name_of c.args.slot) (seen_node c.args.slot n) tree c.in-Some.ensures.node c.children.to (c.children.invariant.right less tree) byte _ seven _ is (omega (arith, c.children.invariant.to, before)))
      | in-Slot w ↦
          let here = next_at (seen_links c.args.slot n.links) rises c.children.to within byte _ (last_seen c.args.slot n.links c.children.to byte _ (subst (λ x. Some (byte, looked_at x) ≡ below_of n.links c.children.to) w.in-Slot.is c.in-Some-last_below.ensures)) in
          subst (λ x. option_map (λ f. (f.0, f.1.now)) c.match-child.found ≡ floor_of (pairs_under (λ j. pairs_at s less j) n.prefix byte (seen_link c.args.slot byte (looked_at x))) c.args.last) (sym w.in-Slot.is)
          (ap (λ o. option_map (λ f. (f.0, f.1.now)) o) w.found-is ∙ down_node s c.args.last less (name_of c.args.slot) (seen_node c.args.slot n) tree c.in-Some.ensures.node c.children.to (c.children.invariant.right less tree) byte byte (name_of w.in-Slot.below) here _ w.pair_to-found.ensures)
      | in-Pair w ↦
          let link = subst (λ x. Some (byte, looked_at x) ≡ below_of n.links c.children.to) w.in-Pair.is c.in-Some-last_below.ensures in
          let at = stored_last n.links c.base-base.ensures.ascending c.children.to byte _ within link in
          let here = next_at (seen_links c.args.slot n.links) rises c.children.to within byte _ (last_seen c.args.slot n.links c.children.to byte _ link) in
          subst (λ x. option_map (λ f. (f.0, f.1.now)) c.match-child.found ≡ floor_of (pairs_under (λ j. pairs_at s less j) n.prefix byte (seen_link c.args.slot byte (looked_at x))) c.args.last) (sym w.in-Pair.is)
          (ap (λ o. option_map (λ f. (f.0, f.1.now)) o) w.found-is ∙ down_node s c.args.last less (name_of c.args.slot) (seen_node c.args.slot n) tree c.in-Some.ensures.node c.children.to (c.children.invariant.right less tree) byte byte (name_under c.args.slot byte) here _
          (each_pair s c.args.slot n c.in-Some.ensures.pairs c.base-base.ensures.ascending byte _ w.in-Pair.payload.now at
          (λ pairs. option_map (λ f. (f.0, f.1.now)) w.pair_if_to-found.result ≡ floor_of pairs c.args.last) c.base-base.result.now.prefix c.base-base.ensures.prefix _ w.pair_number.ensures.number w.pair_number.ensures.seven w.pair_if_to-found.ensures))
    ]
    in
    λ less tree.
    down_found s c.args.last less (name_of c.args.slot) (seen_node c.args.slot n) tree c.in-Some.ensures.node c.children.to (c.children.invariant.right less tree) byte _ last (option_map (λ f. (f.0, f.1.now)) c.match-child.found) (found less tree) (is_not_none _ _ (sym c.is_some.ensures ∙ c.if-is_some.true))

pub children-smaller : goal.children-smaller
children-smaller g t c =
    let n = as_linked c.in-Some.node.now in
    let byte = c.in-Some-last_below.byte in
    let is = subst (λ p. IsWindow p 0 (c.args.last + 1) c.window_of-window.result) c.base-base.ensures.prefix c.window_of-window.ensures in
    let s = c.args.nodes.now.table in
    let within : c.children.to ≤ 256 = omega (arith, c.children.invariant.to, is.within) in
    let rises : Rises 0 256 (seen_links c.args.slot n.links) = rises_seen c.args.slot 0 256 n.links c.base-base.ensures.ascending in
    byte_before (seen_links c.args.slot n.links) rises c.children.to within byte _ (last_seen c.args.slot n.links c.children.to byte _ c.in-Some-last_below.ensures)

pub children-preserved : goal.children-preserved
children-preserved g t c =
    let n = as_linked c.in-Some.node.now in
    let byte = c.in-Some-last_below.byte in
    let is = subst (λ p. IsWindow p 0 (c.args.last + 1) c.window_of-window.result) c.base-base.ensures.prefix c.window_of-window.ensures in
    let s = c.args.nodes.now.table in
    let within : c.children.to ≤ 256 = omega (arith, c.children.invariant.to, is.within) in
    let rises : Rises 0 256 (seen_links c.args.slot n.links) = rises_seen c.args.slot 0 256 n.links c.base-base.ensures.ascending in
    let last = last_seen c.args.slot n.links c.children.to byte _ c.in-Some-last_below.ensures in
    let before = byte_before (seen_links c.args.slot n.links) rises c.children.to within byte _ last in
    let found : (less : ℕ) → IsSubtree s (suc less) (name_of c.args.slot) → option_map (λ f. (f.0, f.1.now)) c.match-child.found ≡ floor_of (pairs_under (λ j. pairs_at s less j) n.prefix byte (seen_link c.args.slot byte (looked_at c.in-Some-last_below.child))) c.args.last = λ less tree.
    elim c.match-child.branch [
      | in-Payload w ↦
          let here = next_at (seen_links c.args.slot n.links) rises c.children.to within byte _ (last_seen c.args.slot n.links c.children.to byte _ (subst (λ x. Some (byte, looked_at x) ≡ below_of n.links c.children.to) w.in-Payload.is c.in-Some-last_below.ensures)) in
          let seven = in_leaf s (name_of c.args.slot) (seen_node c.args.slot n) byte byte _ _ c.requires c.in-Some.ensures.node here in
          subst (λ x. option_map (λ f. (f.0, f.1.now)) c.match-child.found ≡ floor_of (pairs_under (λ j. pairs_at s less j) n.prefix byte (seen_link c.args.slot byte (looked_at x))) c.args.last) (sym w.in-Payload.is)
          (ap (λ o. option_map (λ f. (f.0, f.1.now)) o) w.found-is ∙ down_payload s c.args.last less (name_of c.args.slot) (seen_node c.args.slot n) tree c.in-Some.ensures.node c.children.to (c.children.invariant.right less tree) byte _ seven _ is (omega (arith, c.children.invariant.to, before)))
      | in-Slot w ↦
          let here = next_at (seen_links c.args.slot n.links) rises c.children.to within byte _ (last_seen c.args.slot n.links c.children.to byte _ (subst (λ x. Some (byte, looked_at x) ≡ below_of n.links c.children.to) w.in-Slot.is c.in-Some-last_below.ensures)) in
          subst (λ x. option_map (λ f. (f.0, f.1.now)) c.match-child.found ≡ floor_of (pairs_under (λ j. pairs_at s less j) n.prefix byte (seen_link c.args.slot byte (looked_at x))) c.args.last) (sym w.in-Slot.is)
          (ap (λ o. option_map (λ f. (f.0, f.1.now)) o) w.found-is ∙ down_node s c.args.last less (name_of c.args.slot) (seen_node c.args.slot n) tree c.in-Some.ensures.node c.children.to (c.children.invariant.right less tree) byte byte (name_of w.in-Slot.below) here _ w.pair_to-found.ensures)
      | in-Pair w ↦
          let link = subst (λ x. Some (byte, looked_at x) ≡ below_of n.links c.children.to) w.in-Pair.is c.in-Some-last_below.ensures in
          let at = stored_last n.links c.base-base.ensures.ascending c.children.to byte _ within link in
          let here = next_at (seen_links c.args.slot n.links) rises c.children.to within byte _ (last_seen c.args.slot n.links c.children.to byte _ link) in
          subst (λ x. option_map (λ f. (f.0, f.1.now)) c.match-child.found ≡ floor_of (pairs_under (λ j. pairs_at s less j) n.prefix byte (seen_link c.args.slot byte (looked_at x))) c.args.last) (sym w.in-Pair.is)
          (ap (λ o. option_map (λ f. (f.0, f.1.now)) o) w.found-is ∙ down_node s c.args.last less (name_of c.args.slot) (seen_node c.args.slot n) tree c.in-Some.ensures.node c.children.to (c.children.invariant.right less tree) byte byte (name_under c.args.slot byte) here _
          (each_pair s c.args.slot n c.in-Some.ensures.pairs c.base-base.ensures.ascending byte _ w.in-Pair.payload.now at
          (λ pairs. option_map (λ f. (f.0, f.1.now)) w.pair_if_to-found.result ≡ floor_of pairs c.args.last) c.base-base.result.now.prefix c.base-base.ensures.prefix _ w.pair_number.ensures.number w.pair_number.ensures.seven w.pair_if_to-found.ensures))
    ]
    in
    record {
      right = λ less tree.
          down_on s c.args.last less (name_of c.args.slot) (seen_node c.args.slot n) tree c.in-Some.ensures.node c.children.to (c.children.invariant.right less tree) byte _ last (is_none _ _ (sym c.is_some.ensures ∙ c.if-is_some.false) ∙ found less tree);
      to = omega (arith, before, c.children.invariant.to);
    }
