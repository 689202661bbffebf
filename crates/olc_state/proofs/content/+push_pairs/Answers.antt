use Rattle.std.proofs.Common.{◌≡◌, ℕ, ◌+◌, List, [], ◌∷◌, ◌++◌, ◌∙◌, ap, subst, rules}
use Rattle.spec_node.specs.Key.{low}
use Rattle.spec_map.specs.Map.{between}
use Rattle.spec_node.specs.TableNode.{looked_at}
use Rattle.spec_node.specs.declared.child.Child.TheVariants.{Payload, Node}
use Rattle.olc_state.specs.inner.Meant.{meant_node}
use Rattle.olc_state.specs.inner.Walks.{meant_nodes}
use Rattle.olc_state.proofs.WalkLaws.{stored_there, never_empty, child_next, child_none, next_payload, next_node, part_start, part_payload, part_node, part_end}
use Rattle.olc_state.proofs.content.+push_pairs.Goals as goal
use Rattle.olc_state.proofs.content.+push_pairs.Goals.{in-Payload+in_ok-share-in-Payload+in_ok-push-in-Payload, in-Node+in_ok-push_pairs-in-Node}

-- a key by a prefix that is the node's
key_of_prefix : (key : ℕ) (p q r : List ℕ) (byte : ℕ) → key ≡ low (p ++ byte ∷ []) → p ≡ q → q ≡ r → key ≡ low (r ++ byte ∷ [])
key_of_prefix key p q r byte is e f = is ∙ ap (λ (x : List ℕ). low (x ++ byte ∷ [])) (e ∙ f)

pub unreachable-requires : goal.unreachable-requires
unreachable-requires g t c = never_empty g.P.HasMeaning.meaning c.args.nodes.now.slots c.requires.0 c.args.slot c.requires.1 c.in_default.ensures

pub children-init : goal.children-init
children-init g t c = λ less tree.
    let m = g.P.HasMeaning.meaning in
    part_start m (meant_nodes m c.args.nodes.now.slots) less c.args.slot (meant_node m c.in-Some.stored.now.node) tree
    (stored_there m c.args.nodes.now.slots c.args.slot c.in-Some.stored.now c.in-Some.ensures) _

pub leaf_key-requires : goal.leaf_key-requires
leaf_key-requires g t c =
    let m = g.P.HasMeaning.meaning in
    let slots = c.args.nodes.now.slots in
    let n = c.in-Some.stored.now.node in
    let byte = c.in-Some-first_from.byte in
    let here = stored_there m slots c.args.slot c.in-Some.stored.now c.in-Some.ensures in
    let next = subst (λ x. between n.children c.children.from 256 ≡ (byte, looked_at x) ∷ between n.children (byte + 1) 256) c.in-Payload.is c.in-Some-first_from.ensures.some in
    let seven = next_payload (meant_nodes m slots) c.requires.0 c.args.slot (meant_node m n) c.requires.1 here c.children.from byte (m c.in-Payload.payload.now) _ c.in-Some-first_from.ensures.order (search rules)
    (child_next m slots n c.children.from byte (Payload c.in-Payload.payload.now) next) in
    rw (c.prefix.ensures.bytes, c.base.ensures.prefix) seven

pub push_pairs-requires : goal.push_pairs-requires
push_pairs-requires g t c κs within =
    let m = g.P.HasMeaning.meaning in
    let slots = c.args.nodes.now.slots in
    let n = c.in-Some.stored.now.node in
    let byte = c.in-Some-first_from.byte in
    let here = stored_there m slots c.args.slot c.in-Some.stored.now c.in-Some.ensures in
    let next = subst (λ x. between n.children c.children.from 256 ≡ (byte, looked_at x) ∷ between n.children (byte + 1) 256) c.in-Node.is c.in-Some-first_from.ensures.some in
    let down = next_node (meant_nodes m slots) c.requires.0 c.args.slot (meant_node m n) c.requires.1 here c.children.from byte c.in-Node.below _ c.in-Some-first_from.ensures.order (search rules)
    (child_next m slots n c.children.from byte (Node c.in-Node.below) next) in
    let smaller = down.shorter in
    (search rules, (search rules, (down.less, down.tree_below)))

pub children-preserved : goal.children-preserved
children-preserved g t c =
    let m = g.P.HasMeaning.meaning in
    let slots = c.args.nodes.now.slots in
    let n = c.in-Some.stored.now.node in
    let byte = c.in-Some-first_from.byte in
    let here = stored_there m slots c.args.slot c.in-Some.stored.now c.in-Some.ensures in
    let order = c.in-Some-first_from.ensures.order in
    λ less tree. elim c.match-child.branch [
      | in-Payload+in_ok-share-in-Payload+in_ok-push-in-Payload w ↦
          let next = subst (λ x. between n.children c.children.from 256 ≡ (byte, looked_at x) ∷ between n.children (byte + 1) 256) w.in-Payload.is c.in-Some-first_from.ensures.some in
          part_payload m (meant_nodes m slots) less c.args.slot (meant_node m n) tree here c.children.from byte order (search rules) _ c.children.pairs.items c.match-child.pairs.items (c.children.invariant less tree)
          (m w.in-Payload.payload.now) w.in_ok-share-in-Payload.share w.leaf_key.result (child_next m slots n c.children.from byte (Payload w.in-Payload.payload.now) next)
          (key_of_prefix w.leaf_key.result w.prefix.result.now w.base.result.now.prefix n.prefix byte w.leaf_key.ensures w.prefix.ensures.bytes w.base.ensures.prefix)
          (g.met.P.HasMeaning.alike_in_meaning w.in-Payload.payload.now w.in_ok-share-in-Payload.share w.in_ok-share-in-Payload.ensures.alike)
          (rw w.pairs-is w.in_ok-push-in-Payload.ensures.items)
      | in-Node+in_ok-push_pairs-in-Node w ↦
          let next = subst (λ x. between n.children c.children.from 256 ≡ (byte, looked_at x) ∷ between n.children (byte + 1) 256) w.in-Node.is c.in-Some-first_from.ensures.some in
          part_node m (meant_nodes m slots) less c.args.slot (meant_node m n) tree here c.children.from byte order (search rules) _ c.children.pairs.items c.match-child.pairs.items (c.children.invariant less tree)
          w.in-Node.below (child_next m slots n c.children.from byte (Node w.in-Node.below) next) (rw w.pairs-is w.in_ok-push_pairs-in-Node.ensures)
    ]

pub returns : goal.returns
returns g t c = λ less tree.
    let m = g.P.HasMeaning.meaning in
    part_end m (meant_nodes m c.args.nodes.now.slots) less c.args.slot (meant_node m c.in-Some.stored.now.node) c.children.from _ _ (c.children.invariant less tree)
    (child_none m c.args.nodes.now.slots c.in-Some.stored.now.node c.children.from c.in_default-first_from.ensures.none)
