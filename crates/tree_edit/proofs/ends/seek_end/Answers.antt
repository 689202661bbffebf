use Rattle.std.proofs.Common.{ℕ, ◌≡◌, ap, ◌<◌, ◌+◌, ◌^◌, ◌∙◌, length, map, set, IsSome, Some, None, sym, subst, arith, length-set}
use Rattle.tree_path.specs.inner.Descent.{IsTrail}
use Rattle.std.specs.Int.{from_be_bytes, to_be_bytes, w64}
use Rattle.std.proofs.lemmas.Nat.{from_be_bytes-to_be_bytes_8}
use Rattle.tree_edit.specs.inner.Ends.{at_side, StartsFrom}
use Rattle.tree_edit.proofs.EndLaws.{OnWay, way_start, way_short, way_there, way_none, way_step, way_end, way_bound}
use Rattle.tree_links.specs.LinkNode.{LinkNode, looked_at}
use Rattle.tree_links.specs.declared.link.Link.TheVariants.{Slot}
use Rattle.tree_links.specs.Places.{as_linked}
use Rattle.spec_node.specs.Key.{AreBytes, key_number}
use Rattle.node_table.proofs.KeyLaws.{key_number-be_bytes}
use Rattle.spec_map.specs.Map.{Rises}
use Rattle.tree_path.specs.inner.Root.{tree_pairs}
use Rattle.node_table.specs.Table.{node_at}
use Rattle.tree_links.specs.SeenTable.{key_under, name_of, seen_link, seen_node}
use Rattle.tree_edit.proofs.PopLaws.{key_bytes}
use Rattle.tree_edit.specs.declared.ends.Side.TheVariants.{First}
use Rattle.tree_edit.proofs.SideLaws.{side_link, no_side_link, names_set, names_long, pair_end}
use Rattle.tree_edit.proofs.ends.seek_end.Given.{Over}
use Rattle.tree_edit.proofs.ends.seek_end.Goals as goal
use Rattle.tree_edit.proofs.ends.seek_end.Goals.{In-Some}

pub down-init : goal.down-init
down-init g c = (way_start c.args.side c.args.nodes.now.table (name_of c.args.root) (map name_of c.args.trail.now) c.requires.tree c.requires.filled, c.told-trail, omega arith)

pub unreachable-requires : goal.unreachable-requires
unreachable-requires g c =
    let s = c.args.nodes.now.table in
    let lacks : node_at s (name_of c.down.slot) ≡ None = sym c.in_default.ensures.node in
    let has : IsSome (node_at s (name_of c.down.slot)) = way_there c.args.side s (name_of c.args.root) c.down.above (name_of c.down.slot) (name_of c.down.parent) (map name_of c.down.trail) c.down.invariant.0 in
    let clash = rw lacks at has in cc

-- what is known at a node on the way
module _ (g : Over) (c : In-Some g) where
  abbrev n : LinkNode g.row.P.Denot
  n = as_linked c.in-Some.node.now

  -- the bound comes before none of its links
  starts : c.args.side ≡ First → StartsFrom c.to_be_bytes-bound.result n
  starts first begins byte link is =
      let s = c.args.nodes.now.table in
      let trail = map name_of c.down.trail in
      let w = subst (λ side. OnWay side s (name_of c.args.root) c.down.above (name_of c.down.slot) (name_of c.down.parent) trail) first c.down.invariant.0 in
      let key = c.to_be_bytes-bound.result in
      let bytes : AreBytes key = subst (λ k. AreBytes k) (sym c.to_be_bytes-bound.ensures) (key_bytes c.args.least) in
      let full : length key ≡ 8 = ap (λ k. length k) c.to_be_bytes-bound.ensures in
      let number : c.args.least ≡ key_number key = sym (key_number-be_bytes key full ∙ ap (λ k. from_be_bytes w64 k) c.to_be_bytes-bound.ensures ∙ from_be_bytes-to_be_bytes_8 c.args.least (omega arith)) in
      let bound = subst (λ k. Rises k (2 ^ 64) (tree_pairs s (name_of c.args.root))) number (c.requires.bound first) in
      way_bound s (name_of c.args.root) c.down.above (name_of c.down.slot) (name_of c.down.parent) trail w (seen_node c.down.slot n) (sym c.in-Some.ensures.node) key bytes full bound begins
      byte (seen_link c.down.slot byte link) (sym (side_link c.down.slot First n.links byte link (sym is)))

  -- its child at the side is the next
  further : (byte below : ℕ) → Some (byte, Slot below) ≡ at_side c.args.side n.links
      → OnWay c.args.side c.args.nodes.now.table (name_of c.args.root) (c.down.above + 1) (name_of below) (name_of c.down.slot) (map name_of (set c.down.trail c.down.above c.down.slot)) × (length (set c.down.trail c.down.above c.down.slot) ≡ 8) × (c.down.above + 1 < 8)
  further byte below is =
      let i = c.down.invariant in
      let s = c.args.nodes.now.table in
      let trail = map name_of c.down.trail in
      let long : length trail ≡ 8 = names_long c.down.trail ∙ i.1 in
      let room : c.down.above < length trail = omega (arith, i.2, long) in
      let way = way_step c.args.side s (name_of c.args.root) c.down.above (name_of c.down.slot) (name_of c.down.parent) trail i.0 room (seen_node c.down.slot n) (sym c.in-Some.ensures.node) byte (name_of below) (side_link c.down.slot c.args.side n.links byte (Slot below) is) in (
        subst (λ t. OnWay c.args.side s (name_of c.args.root) (c.down.above + 1) (name_of below) (name_of c.down.slot) t) (names_set c.down.trail c.down.above c.down.slot) way,
        length-set c.down.trail c.down.above c.down.slot ∙ i.1,
        way_short c.args.side s (name_of c.args.root) _ _ _ _ way,
      )

pub link_at-requires-clause-bound : goal.link_at-requires-clause-bound
link_at-requires-clause-bound g c = starts g (goal.at.link_at-requires-clause-bound g c).In-Some

pub returns-in_default-link_at-clause-none : goal.returns-in_default-link_at-clause-none
returns-in_default-link_at-clause-none g c =
    let n = as_linked c.in-Some.node.now in
    let i = c.down.invariant in
    let s = c.args.nodes.now.table in
    let trail = map name_of c.down.trail in
    let long : length trail ≡ 8 = names_long c.down.trail ∙ i.1 in
    let room : c.down.above < length trail = omega (arith, i.2, long) in
    let here = sym c.in-Some.ensures.node in
    way_none c.args.side s (name_of c.args.root) c.down.above (name_of c.down.slot) (name_of c.down.parent) trail i.0 (seen_node c.down.slot n) here (no_side_link c.down.slot c.args.side n.links c.in_default-link_at.ensures)

pub overflow_add-key : goal.overflow_add-key
overflow_add-key g c =
    let n = as_linked c.in-Some.node.now in
    let i = c.down.invariant in
    let s = c.args.nodes.now.table in
    let trail = map name_of c.down.trail in
    let long : length trail ≡ 8 = names_long c.down.trail ∙ i.1 in
    let room : c.down.above < length trail = omega (arith, i.2, long) in
    let here = sym c.in-Some.ensures.node in
    let end = way_end c.args.side s (name_of c.args.root) c.down.above (name_of c.down.slot) (name_of c.down.parent) trail i.0 room (seen_node c.down.slot n) here c.in-Some-link_at.byte _ (side_link c.down.slot c.args.side n.links c.in-Some-link_at.byte _ (subst (λ x. Some (c.in-Some-link_at.byte, looked_at x) ≡ at_side c.args.side n.links) c.in-Payload.is c.in-Some-link_at.ensures)) _ c.base-base.ensures.prefix _ c.first_key.ensures in
    omega (arith, end.fits)

pub returns-in-Payload-clause-key : goal.returns-in-Payload-clause-key
returns-in-Payload-clause-key g c =
    let n = as_linked c.in-Some.node.now in
    let i = c.down.invariant in
    let s = c.args.nodes.now.table in
    let trail = map name_of c.down.trail in
    let long : length trail ≡ 8 = names_long c.down.trail ∙ i.1 in
    let room : c.down.above < length trail = omega (arith, i.2, long) in
    let here = sym c.in-Some.ensures.node in
    (way_end c.args.side s (name_of c.args.root) c.down.above (name_of c.down.slot) (name_of c.down.parent) trail i.0 room (seen_node c.down.slot n) here c.in-Some-link_at.byte _ (side_link c.down.slot c.args.side n.links c.in-Some-link_at.byte _ (subst (λ x. Some (c.in-Some-link_at.byte, looked_at x) ≡ at_side c.args.side n.links) c.in-Payload.is c.in-Some-link_at.ensures)) _ c.base-base.ensures.prefix _ c.first_key.ensures).is

pub returns-in-Payload-clause-ends : goal.returns-in-Payload-clause-ends
returns-in-Payload-clause-ends g c =
    let n = as_linked c.in-Some.node.now in
    let i = c.down.invariant in
    let s = c.args.nodes.now.table in
    let trail = map name_of c.down.trail in
    let long : length trail ≡ 8 = names_long c.down.trail ∙ i.1 in
    let room : c.down.above < length trail = omega (arith, i.2, long) in
    let here = sym c.in-Some.ensures.node in
    (way_end c.args.side s (name_of c.args.root) c.down.above (name_of c.down.slot) (name_of c.down.parent) trail i.0 room (seen_node c.down.slot n) here c.in-Some-link_at.byte _ (side_link c.down.slot c.args.side n.links c.in-Some-link_at.byte _ (subst (λ x. Some (c.in-Some-link_at.byte, looked_at x) ≡ at_side c.args.side n.links) c.in-Payload.is c.in-Some-link_at.ensures)) _ c.base-base.ensures.prefix _ c.first_key.ensures).ends

pub returns-in-Payload-clause-trail : goal.returns-in-Payload-clause-trail
returns-in-Payload-clause-trail g c =
    let n = as_linked c.in-Some.node.now in
    let i = c.down.invariant in
    let s = c.args.nodes.now.table in
    let trail = map name_of c.down.trail in
    let long : length trail ≡ 8 = names_long c.down.trail ∙ i.1 in
    let room : c.down.above < length trail = omega (arith, i.2, long) in
    let here = sym c.in-Some.ensures.node in
    let end = way_end c.args.side s (name_of c.args.root) c.down.above (name_of c.down.slot) (name_of c.down.parent) trail i.0 room (seen_node c.down.slot n) here c.in-Some-link_at.byte _ (side_link c.down.slot c.args.side n.links c.in-Some-link_at.byte _ (subst (λ x. Some (c.in-Some-link_at.byte, looked_at x) ≡ at_side c.args.side n.links) c.in-Payload.is c.in-Some-link_at.ensures)) _ c.base-base.ensures.prefix _ c.first_key.ensures in
    subst (λ t. IsTrail s (name_of c.args.root) (to_be_bytes w64 (c.first_key.result + c.in-Some-link_at.byte)) t (c.down.above + 1)) (names_set c.down.trail c.down.above c.down.slot) end.on

pub returns-in-Pair-clause-key : goal.returns-in-Pair-clause-key
returns-in-Pair-clause-key g c =
    let n = as_linked c.in-Some.node.now in
    let i = c.down.invariant in
    let s = c.args.nodes.now.table in
    let trail = map name_of c.down.trail in
    let long : length trail ≡ 8 = names_long c.down.trail ∙ i.1 in
    let room : c.down.above < length trail = omega (arith, i.2, long) in
    let here = sym c.in-Some.ensures.node in
    (pair_end c.args.side s (name_of c.args.root) c.down.above c.down.slot (name_of c.down.parent) trail i.0 long n here c.in-Some.ensures.pairs c.base-base.ensures.ascending c.in-Some-link_at.byte _ _ (subst (λ x. Some (c.in-Some-link_at.byte, looked_at x) ≡ at_side c.args.side n.links) c.in-Pair.is c.in-Some-link_at.ensures) c.pair_number-key.ensures.seven c.pair_number-key.result (c.pair_number-key.ensures.number ∙ ap (λ p. key_number (key_under p c.in-Some-link_at.byte c.in-Pair.rest.now)) c.base-base.ensures.prefix)).key_is

pub returns-in-Pair-clause-ends : goal.returns-in-Pair-clause-ends
returns-in-Pair-clause-ends g c =
    let n = as_linked c.in-Some.node.now in
    let i = c.down.invariant in
    let s = c.args.nodes.now.table in
    let trail = map name_of c.down.trail in
    let long : length trail ≡ 8 = names_long c.down.trail ∙ i.1 in
    let room : c.down.above < length trail = omega (arith, i.2, long) in
    let here = sym c.in-Some.ensures.node in
    (pair_end c.args.side s (name_of c.args.root) c.down.above c.down.slot (name_of c.down.parent) trail i.0 long n here c.in-Some.ensures.pairs c.base-base.ensures.ascending c.in-Some-link_at.byte _ _ (subst (λ x. Some (c.in-Some-link_at.byte, looked_at x) ≡ at_side c.args.side n.links) c.in-Pair.is c.in-Some-link_at.ensures) c.pair_number-key.ensures.seven c.pair_number-key.result (c.pair_number-key.ensures.number ∙ ap (λ p. key_number (key_under p c.in-Some-link_at.byte c.in-Pair.rest.now)) c.base-base.ensures.prefix)).ends c.down.parent

pub returns-in-Pair-clause-pair : goal.returns-in-Pair-clause-pair
returns-in-Pair-clause-pair g c =
    let n = as_linked c.in-Some.node.now in
    let i = c.down.invariant in
    let s = c.args.nodes.now.table in
    let trail = map name_of c.down.trail in
    let long : length trail ≡ 8 = names_long c.down.trail ∙ i.1 in
    let room : c.down.above < length trail = omega (arith, i.2, long) in
    let here = sym c.in-Some.ensures.node in
    (pair_end c.args.side s (name_of c.args.root) c.down.above c.down.slot (name_of c.down.parent) trail i.0 long n here c.in-Some.ensures.pairs c.base-base.ensures.ascending c.in-Some-link_at.byte _ _ (subst (λ x. Some (c.in-Some-link_at.byte, looked_at x) ≡ at_side c.args.side n.links) c.in-Pair.is c.in-Some-link_at.ensures) c.pair_number-key.ensures.seven c.pair_number-key.result (c.pair_number-key.ensures.number ∙ ap (λ p. key_number (key_under p c.in-Some-link_at.byte c.in-Pair.rest.now)) c.base-base.ensures.prefix)).pair

pub returns-in-Pair-clause-trail : goal.returns-in-Pair-clause-trail
returns-in-Pair-clause-trail g c =
    let n = as_linked c.in-Some.node.now in
    let i = c.down.invariant in
    let s = c.args.nodes.now.table in
    let trail = map name_of c.down.trail in
    let long : length trail ≡ 8 = names_long c.down.trail ∙ i.1 in
    let room : c.down.above < length trail = omega (arith, i.2, long) in
    let here = sym c.in-Some.ensures.node in
    let end = pair_end c.args.side s (name_of c.args.root) c.down.above c.down.slot (name_of c.down.parent) trail i.0 long n here c.in-Some.ensures.pairs c.base-base.ensures.ascending c.in-Some-link_at.byte _ _ (subst (λ x. Some (c.in-Some-link_at.byte, looked_at x) ≡ at_side c.args.side n.links) c.in-Pair.is c.in-Some-link_at.ensures) c.pair_number-key.ensures.seven c.pair_number-key.result (c.pair_number-key.ensures.number ∙ ap (λ p. key_number (key_under p c.in-Some-link_at.byte c.in-Pair.rest.now)) c.base-base.ensures.prefix) in
    subst (λ t. IsTrail s (name_of c.args.root) (to_be_bytes w64 c.pair_number-key.result) t (c.down.above + 1)) (names_set c.down.trail c.down.above c.down.slot) end.on

pub down-preserved : goal.down-preserved
down-preserved g c =
    let is = subst (λ x. Some (c.in-Some-link_at.byte, looked_at x) ≡ at_side c.args.side (as_linked c.in-Some.node.now).links) c.in-Slot.is c.in-Some-link_at.ensures in
    further g (goal.at.down-preserved g c).In-Some c.in-Some-link_at.byte c.in-Slot.below is
