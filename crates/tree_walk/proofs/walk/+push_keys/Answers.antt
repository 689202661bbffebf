use Rattle.std.proofs.Common.{◌≡◌, ◌+◌, ◌∷◌, [], ◌++◌, ◌∙◌, map, subst, refl, arith, rules}
use Rattle.spec_map.specs.Map.{between}
use Rattle.tree_links.specs.Places.{as_linked}
use Rattle.tree_links.specs.LinkNode.{looked_at}
use Rattle.tree_links.specs.SeenTable.{name_of, name_under, seen_node}
use Rattle.tree_walk.proofs.ScanLaws.{goes_down, first_number_is}
use Rattle.tree_walk.proofs.WalkLaws.{keys_start, keys_payload, keys_node, keys_room_payload, keys_room_node, stands_with_room}
use Rattle.tree_walk.proofs.KeyWalkLaws.{keys_end}
use Rattle.tree_walk.proofs.LinkLaws.{next_seen, none_seen, stored_next, each_pair, pair_room}
use Rattle.tree_walk.proofs.walk.+push_keys.Goals as goal
use Rattle.tree_walk.proofs.walk.+push_keys.Goals.{in-Payload, in-Slot, in-Pair}

pub children-init : goal.children-init
children-init g t c =
    record {
      left = λ less tree. keys_start g.K.Word.of_number c.args.nodes.now.table less (name_of c.args.slot) (seen_node c.args.slot (as_linked c.in-Some.node.now)) tree c.in-Some.ensures.node _;
      capacity = search rules;
    }

pub push_reserved-requires : goal.push_reserved-requires
push_reserved-requires g t c =
    let n = as_linked c.in-Some.node.now in
    let byte = c.in-Some-first_from.byte in
    let r = c.requires in
    let next = next_seen c.args.slot n.links c.children.from byte _ (subst (λ x. between n.links c.children.from 256 ≡ (byte, looked_at x) ∷ between n.links (byte + 1) 256) c.in-Payload.is c.in-Some-first_from.ensures.some) in
    let room = keys_room_payload g.K.Word.of_number c.args.nodes.now.table r.levels (name_of c.args.slot) (seen_node c.args.slot n) r.tree c.in-Some.ensures.node c.children.from _ _ (c.children.invariant.left r.levels r.tree) byte _ next _ _ r.fits c.args.keys.now.ok.0 in
    omega (arith, room, c.children.keys.ok.0, c.children.invariant.capacity)

pub push_keys-requires : goal.push_keys-requires
push_keys-requires g t c κs within =
    let n = as_linked c.in-Some.node.now in
    let byte = c.in-Some-first_from.byte in
    let r = c.requires in
    let at_key = stands_with_room c.args.nodes.now.table (name_of c.args.slot) _ _ r in
    let next = next_seen c.args.slot n.links c.children.from byte _ (subst (λ x. between n.links c.children.from 256 ≡ (byte, looked_at x) ∷ between n.links (byte + 1) 256) c.in-Slot.is c.in-Some-first_from.ensures.some) in
    let down = goes_down c.args.nodes.now.table (name_of c.args.slot) (seen_node c.args.slot n) c.children.from byte (name_of c.in-Slot.below) _ at_key c.in-Some.ensures.node next in
    let smaller = down.shorter in
    let room = keys_room_node g.K.Word.of_number c.args.nodes.now.table r.levels (name_of c.args.slot) (seen_node c.args.slot n) r.tree c.in-Some.ensures.node c.children.from _ _ (c.children.invariant.left r.levels r.tree) byte (name_of c.in-Slot.below) next _ _ r.fits c.args.keys.now.ok.0 in
    (search rules, (search rules, (search rules, rw (c.children.keys.ok.0, c.children.invariant.capacity) room)))

pub push_reserved-requires-in-Pair : goal.push_reserved-requires-in-Pair
push_reserved-requires-in-Pair g t c =
    let n = as_linked c.in-Some.node.now in
    let byte = c.in-Some-first_from.byte in
    let r = c.requires in
    let here = subst (λ x. between n.links c.children.from 256 ≡ (byte, looked_at x) ∷ between n.links (byte + 1) 256) c.in-Pair.is c.in-Some-first_from.ensures.some in
    let room = keys_room_node g.K.Word.of_number c.args.nodes.now.table r.levels (name_of c.args.slot) (seen_node c.args.slot n) r.tree c.in-Some.ensures.node c.children.from _ _ (c.children.invariant.left r.levels r.tree) byte (name_under c.args.slot byte) (next_seen c.args.slot n.links c.children.from byte _ here) _ _ r.fits c.args.keys.now.ok.0 in
    let one = pair_room c.args.nodes.now.table c.args.slot n c.in-Some.ensures.pairs c.base-base.ensures.ascending byte _ _ (stored_next n.links c.base-base.ensures.ascending c.children.from byte _ _ here) c.pair_number.ensures.seven _ _ room in
    omega (arith, one, c.children.keys.ok.0, c.children.invariant.capacity)

pub children-preserved : goal.children-preserved
children-preserved g t c =
    let n = as_linked c.in-Some.node.now in
    let byte = c.in-Some-first_from.byte in
    let s = c.args.nodes.now.table in
    let r = c.requires in
    record {
      left = λ less tree. elim c.match-child.branch [
        | in-Payload w ↦
            let next = next_seen c.args.slot n.links c.children.from byte _ (subst (λ x. between n.links c.children.from 256 ≡ (byte, looked_at x) ∷ between n.links (byte + 1) 256) w.in-Payload.is c.in-Some-first_from.ensures.some) in
            let first = c.first_key-first.ensures ∙ first_number_is s r.levels (name_of c.args.slot) (seen_node c.args.slot n) r.tree c.in-Some.ensures.node c.base-base.result.now.prefix c.base-base.ensures.prefix in
            let done = keys_payload g.K.Word.of_number s less (name_of c.args.slot) (seen_node c.args.slot n) tree c.in-Some.ensures.node c.children.from _ _ (c.children.invariant.left less tree) byte _ c.first_key-first.result next first in
            rw (w.keys-is, w.push_reserved.ensures.items, w.from_u64.ensures) done
        | in-Slot w ↦
            let next = next_seen c.args.slot n.links c.children.from byte _ (subst (λ x. between n.links c.children.from 256 ≡ (byte, looked_at x) ∷ between n.links (byte + 1) 256) w.in-Slot.is c.in-Some-first_from.ensures.some) in
            rw w.keys-is (keys_node g.K.Word.of_number s less (name_of c.args.slot) (seen_node c.args.slot n) tree c.in-Some.ensures.node c.children.from _ _ (c.children.invariant.left less tree) byte (name_of w.in-Slot.below) next _ w.push_keys.ensures.keys)
        | in-Pair w ↦
            let here = subst (λ x. between n.links c.children.from 256 ≡ (byte, looked_at x) ∷ between n.links (byte + 1) 256) w.in-Pair.is c.in-Some-first_from.ensures.some in
            let at = stored_next n.links c.base-base.ensures.ascending c.children.from byte _ _ here in
            rw (w.keys-is, w.push_reserved-in-Pair.ensures.items, w.from_u64-in-Pair.ensures)
            (keys_node g.K.Word.of_number s less (name_of c.args.slot) (seen_node c.args.slot n) tree c.in-Some.ensures.node c.children.from _ _ (c.children.invariant.left less tree) byte (name_under c.args.slot byte) (next_seen c.args.slot n.links c.children.from byte _ here) _
            (each_pair s c.args.slot n c.in-Some.ensures.pairs c.base-base.ensures.ascending byte _ w.in-Pair.field-1.now at
            (λ pairs. c.children.keys.items ++ g.K.Word.of_number w.pair_number.result ∷ [] ≡ c.children.keys.items ++ map (λ pair. g.K.Word.of_number pair.0) pairs) c.base-base.result.now.prefix c.base-base.ensures.prefix w.pair_number.result w.pair_number.ensures.number w.pair_number.ensures.seven refl))
      ];
      capacity = elim c.match-child.branch [
        | in-Payload w ↦ rw w.keys-is (w.push_reserved.ensures.capacity ∙ c.children.invariant.capacity)
        | in-Slot w ↦ rw w.keys-is (w.push_keys.ensures.capacity ∙ c.children.invariant.capacity)
        | in-Pair w ↦ rw w.keys-is (w.push_reserved-in-Pair.ensures.capacity ∙ c.children.invariant.capacity)
      ];
    }

pub returns-clause-keys : goal.returns-clause-keys
returns-clause-keys g t c =
    let n = as_linked c.in-Some.node.now in
    λ less tree. keys_end g.K.Word.of_number c.args.nodes.now.table less (name_of c.args.slot) (seen_node c.args.slot n) c.children.from _ _ (c.children.invariant.left less tree) (none_seen c.args.slot n.links c.children.from 256 c.in_default-first_from.ensures.none)
