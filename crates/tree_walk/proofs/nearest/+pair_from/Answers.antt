use Rattle.std.proofs.Common.{◌≡◌, ℕ, suc, ◌+◌, ◌∷◌, ◌∙◌, ap, option_map, subst, sym, arith, rules}
use Rattle.spec_map.specs.Map.{between}
use Rattle.spec_map.specs.Near.{ceiling_of}
use Rattle.node_table.specs.Table.{IsSubtree, pairs_at, pairs_under}
use Rattle.tree_links.specs.Places.{as_linked}
use Rattle.tree_links.specs.LinkNode.{looked_at}
use Rattle.tree_links.specs.SeenTable.{name_of, name_under, seen_link, seen_node}
use Rattle.tree_walk.proofs.ScanLaws.{goes_down}
use Rattle.tree_walk.proofs.WalkLaws.{key_fits}
use Rattle.tree_walk.proofs.NearestLaws.{seek_start, seek_end, seek_found, seek_on, seek_payload, seek_node, is_not_none, is_none}
use Rattle.tree_walk.specs.inner.Scan.{IsWindow}
use Rattle.tree_walk.proofs.LinkLaws.{next_seen, none_seen, stored_next, each_pair}
use Rattle.tree_walk.proofs.nearest.+pair_from.Goals as goal
use Rattle.tree_walk.proofs.nearest.+pair_from.Goals.{in-Payload, in-Slot, in-Pair}

pub children-init : goal.children-init
children-init g t c =
    let n = as_linked c.in-Some.node.now in
    let is = subst (λ p. IsWindow p c.args.start (18446744073709551615 + 1) c.window_of-window.result) c.base-base.ensures.prefix c.window_of-window.ensures in
    record {
      left = λ less tree. seek_start c.args.nodes.now.table c.args.start less (name_of c.args.slot) (seen_node c.args.slot n) tree c.in-Some.ensures.node _ _ is;
      from = omega arith;
    }

pub overflow_add-found : goal.overflow_add-found
overflow_add-found g t c =
    let n = as_linked c.in-Some.node.now in
    let byte = c.in-Some-first_from.byte in
    let is = subst (λ p. IsWindow p c.args.start (18446744073709551615 + 1) c.window_of-window.result) c.base-base.ensures.prefix c.window_of-window.ensures in
    let next = next_seen c.args.slot n.links c.children.from byte _ (subst (λ x. between n.links c.children.from 256 ≡ (byte, looked_at x) ∷ between n.links (byte + 1) 256) c.in-Payload.is c.in-Some-first_from.ensures.some) in
    let fits = key_fits c.args.nodes.now.table (name_of c.args.slot) (seen_node c.args.slot n) c.children.from byte _ _ c.requires c.in-Some.ensures.node next in
    omega (arith, is.first, fits)

pub pair_from-found-requires : goal.pair_from-found-requires
pair_from-found-requires g t c κs within =
    let n = as_linked c.in-Some.node.now in
    let byte = c.in-Some-first_from.byte in
    let next = next_seen c.args.slot n.links c.children.from byte _ (subst (λ x. between n.links c.children.from 256 ≡ (byte, looked_at x) ∷ between n.links (byte + 1) 256) c.in-Slot.is c.in-Some-first_from.ensures.some) in
    let down = goes_down c.args.nodes.now.table (name_of c.args.slot) (seen_node c.args.slot n) c.children.from byte (name_of c.in-Slot.below) _ c.requires c.in-Some.ensures.node next in
    let smaller = down.shorter in
    (search rules, (search rules, down.at_key))

pub returns-then-is_some : goal.returns-then-is_some
returns-then-is_some g t c =
    let n = as_linked c.in-Some.node.now in
    let byte = c.in-Some-first_from.byte in
    let is = subst (λ p. IsWindow p c.args.start (18446744073709551615 + 1) c.window_of-window.result) c.base-base.ensures.prefix c.window_of-window.ensures in
    let s = c.args.nodes.now.table in
    let here = next_seen c.args.slot n.links c.children.from byte _ c.in-Some-first_from.ensures.some in
    let found : (less : ℕ) → IsSubtree s (suc less) (name_of c.args.slot) → option_map (λ f. (f.0, f.1.now)) c.match-child.found ≡ ceiling_of (pairs_under (λ j. pairs_at s less j) n.prefix byte (seen_link c.args.slot byte (looked_at c.in-Some-first_from.child))) c.args.start = λ less tree.
    elim c.match-child.branch [
      | in-Payload w ↦
          let next = next_seen c.args.slot n.links c.children.from byte _ (subst (λ x. between n.links c.children.from 256 ≡ (byte, looked_at x) ∷ between n.links (byte + 1) 256) w.in-Payload.is c.in-Some-first_from.ensures.some) in
          let fits = key_fits s (name_of c.args.slot) (seen_node c.args.slot n) c.children.from byte _ _ c.requires c.in-Some.ensures.node next in
          subst (λ x. option_map (λ f. (f.0, f.1.now)) c.match-child.found ≡ ceiling_of (pairs_under (λ j. pairs_at s less j) n.prefix byte (seen_link c.args.slot byte (looked_at x))) c.args.start) (sym w.in-Payload.is)
          (ap (λ o. option_map (λ f. (f.0, f.1.now)) o) w.found-is ∙ seek_payload s c.args.start less (name_of c.args.slot) (seen_node c.args.slot n) tree c.in-Some.ensures.node c.children.from (c.children.invariant.left less tree) byte _ next _ _ is (omega (arith, c.children.invariant.from, c.in-Some-first_from.ensures.order)) fits)
      | in-Slot w ↦
          let next = next_seen c.args.slot n.links c.children.from byte _ (subst (λ x. between n.links c.children.from 256 ≡ (byte, looked_at x) ∷ between n.links (byte + 1) 256) w.in-Slot.is c.in-Some-first_from.ensures.some) in
          subst (λ x. option_map (λ f. (f.0, f.1.now)) c.match-child.found ≡ ceiling_of (pairs_under (λ j. pairs_at s less j) n.prefix byte (seen_link c.args.slot byte (looked_at x))) c.args.start) (sym w.in-Slot.is)
          (ap (λ o. option_map (λ f. (f.0, f.1.now)) o) w.found-is ∙ seek_node s c.args.start less (name_of c.args.slot) (seen_node c.args.slot n) tree c.in-Some.ensures.node c.children.from (c.children.invariant.left less tree) byte (name_of w.in-Slot.below) next _ w.pair_from-found.ensures)
      | in-Pair w ↦
          let first = subst (λ x. between n.links c.children.from 256 ≡ (byte, looked_at x) ∷ between n.links (byte + 1) 256) w.in-Pair.is c.in-Some-first_from.ensures.some in
          let at = stored_next n.links c.base-base.ensures.ascending c.children.from byte _ _ first in
          subst (λ x. option_map (λ f. (f.0, f.1.now)) c.match-child.found ≡ ceiling_of (pairs_under (λ j. pairs_at s less j) n.prefix byte (seen_link c.args.slot byte (looked_at x))) c.args.start) (sym w.in-Pair.is)
          (ap (λ o. option_map (λ f. (f.0, f.1.now)) o) w.found-is ∙ seek_node s c.args.start less (name_of c.args.slot) (seen_node c.args.slot n) tree c.in-Some.ensures.node c.children.from (c.children.invariant.left less tree) byte (name_under c.args.slot byte) (next_seen c.args.slot n.links c.children.from byte _ first) _
          (each_pair s c.args.slot n c.in-Some.ensures.pairs c.base-base.ensures.ascending byte _ w.in-Pair.payload.now at
          (λ pairs. option_map (λ f. (f.0, f.1.now)) w.pair_if_from-found.result ≡ ceiling_of pairs c.args.start) c.base-base.result.now.prefix c.base-base.ensures.prefix _ w.pair_number.ensures.number w.pair_number.ensures.seven w.pair_if_from-found.ensures))
    ]
    in
    λ less tree.
    seek_found s c.args.start less (name_of c.args.slot) (seen_node c.args.slot n) tree c.in-Some.ensures.node c.children.from (c.children.invariant.left less tree) byte _ here (option_map (λ f. (f.0, f.1.now)) c.match-child.found) (found less tree) (is_not_none _ _ (sym c.is_some.ensures ∙ c.if-is_some.true))

pub returns : goal.returns
returns g t c =
    let n = as_linked c.in-Some.node.now in
    λ less tree. seek_end c.args.nodes.now.table c.args.start less (name_of c.args.slot) (seen_node c.args.slot n) tree c.in-Some.ensures.node c.children.from (c.children.invariant.left less tree) (none_seen c.args.slot n.links c.children.from 256 c.in_default-first_from.ensures.none)

pub children-preserved : goal.children-preserved
children-preserved g t c =
    let n = as_linked c.in-Some.node.now in
    let byte = c.in-Some-first_from.byte in
    let is = subst (λ p. IsWindow p c.args.start (18446744073709551615 + 1) c.window_of-window.result) c.base-base.ensures.prefix c.window_of-window.ensures in
    let s = c.args.nodes.now.table in
    let here = next_seen c.args.slot n.links c.children.from byte _ c.in-Some-first_from.ensures.some in
    let found : (less : ℕ) → IsSubtree s (suc less) (name_of c.args.slot) → option_map (λ f. (f.0, f.1.now)) c.match-child.found ≡ ceiling_of (pairs_under (λ j. pairs_at s less j) n.prefix byte (seen_link c.args.slot byte (looked_at c.in-Some-first_from.child))) c.args.start = λ less tree.
    elim c.match-child.branch [
      | in-Payload w ↦
          let next = next_seen c.args.slot n.links c.children.from byte _ (subst (λ x. between n.links c.children.from 256 ≡ (byte, looked_at x) ∷ between n.links (byte + 1) 256) w.in-Payload.is c.in-Some-first_from.ensures.some) in
          let fits = key_fits s (name_of c.args.slot) (seen_node c.args.slot n) c.children.from byte _ _ c.requires c.in-Some.ensures.node next in
          subst (λ x. option_map (λ f. (f.0, f.1.now)) c.match-child.found ≡ ceiling_of (pairs_under (λ j. pairs_at s less j) n.prefix byte (seen_link c.args.slot byte (looked_at x))) c.args.start) (sym w.in-Payload.is)
          (ap (λ o. option_map (λ f. (f.0, f.1.now)) o) w.found-is ∙ seek_payload s c.args.start less (name_of c.args.slot) (seen_node c.args.slot n) tree c.in-Some.ensures.node c.children.from (c.children.invariant.left less tree) byte _ next _ _ is (omega (arith, c.children.invariant.from, c.in-Some-first_from.ensures.order)) fits)
      | in-Slot w ↦
          let next = next_seen c.args.slot n.links c.children.from byte _ (subst (λ x. between n.links c.children.from 256 ≡ (byte, looked_at x) ∷ between n.links (byte + 1) 256) w.in-Slot.is c.in-Some-first_from.ensures.some) in
          subst (λ x. option_map (λ f. (f.0, f.1.now)) c.match-child.found ≡ ceiling_of (pairs_under (λ j. pairs_at s less j) n.prefix byte (seen_link c.args.slot byte (looked_at x))) c.args.start) (sym w.in-Slot.is)
          (ap (λ o. option_map (λ f. (f.0, f.1.now)) o) w.found-is ∙ seek_node s c.args.start less (name_of c.args.slot) (seen_node c.args.slot n) tree c.in-Some.ensures.node c.children.from (c.children.invariant.left less tree) byte (name_of w.in-Slot.below) next _ w.pair_from-found.ensures)
      | in-Pair w ↦
          let first = subst (λ x. between n.links c.children.from 256 ≡ (byte, looked_at x) ∷ between n.links (byte + 1) 256) w.in-Pair.is c.in-Some-first_from.ensures.some in
          let at = stored_next n.links c.base-base.ensures.ascending c.children.from byte _ _ first in
          subst (λ x. option_map (λ f. (f.0, f.1.now)) c.match-child.found ≡ ceiling_of (pairs_under (λ j. pairs_at s less j) n.prefix byte (seen_link c.args.slot byte (looked_at x))) c.args.start) (sym w.in-Pair.is)
          (ap (λ o. option_map (λ f. (f.0, f.1.now)) o) w.found-is ∙ seek_node s c.args.start less (name_of c.args.slot) (seen_node c.args.slot n) tree c.in-Some.ensures.node c.children.from (c.children.invariant.left less tree) byte (name_under c.args.slot byte) (next_seen c.args.slot n.links c.children.from byte _ first) _
          (each_pair s c.args.slot n c.in-Some.ensures.pairs c.base-base.ensures.ascending byte _ w.in-Pair.payload.now at
          (λ pairs. option_map (λ f. (f.0, f.1.now)) w.pair_if_from-found.result ≡ ceiling_of pairs c.args.start) c.base-base.result.now.prefix c.base-base.ensures.prefix _ w.pair_number.ensures.number w.pair_number.ensures.seven w.pair_if_from-found.ensures))
    ]
    in
    record {
      left = λ less tree.
          seek_on s c.args.start less (name_of c.args.slot) (seen_node c.args.slot n) tree c.in-Some.ensures.node c.children.from (c.children.invariant.left less tree) byte _ here (is_none _ _ (sym c.is_some.ensures ∙ c.if-is_some.false) ∙ found less tree);
      from = omega (arith, c.in-Some-first_from.ensures.order);
    }
