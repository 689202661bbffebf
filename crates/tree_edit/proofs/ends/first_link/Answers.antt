use Rattle.std.proofs.Common.{◌≡◌, ◌≤◌, ◌∙◌, Some, ap, get_or, length, subst, sym}
use Rattle.spec_map.specs.Map.{lookup}
use Rattle.spec_node.specs.Key.{next_byte}
use Rattle.tree_links.specs.LinkNode.{IsMet, looked_at, seen}
use Rattle.tree_links.specs.Places.{as_linked}
use Rattle.tree_links.specs.declared.link.Link.TheVariants.{Slot, Pair}
use Rattle.tree_edit.proofs.SideLaws.{found_is_first, first_linked}
use Rattle.tree_edit.proofs.ends.first_link.Goals as goal

pub returns-in-Slot : goal.returns-in-Slot
returns-in-Slot g c =
    let n = as_linked c.args.node.now in
    let met = subst (λ m. IsMet c.args.key.now n m) c.in-Slot.is c.meet.ensures in
    let byte : get_or c.args.key.now (length c.prefix.result.now) 0 ≡ next_byte n.prefix c.args.key.now = ap (λ p. get_or c.args.key.now (length p) 0) (c.prefix.ensures.bytes ∙ c.base-base.ensures.prefix) in
    ap (λ b. Some (b, Slot c.in-Slot.below)) byte ∙ found_is_first n.links c.base-base.ensures.ascending (next_byte n.prefix c.args.key.now) (Slot c.in-Slot.below) met.2 (c.requires.bound met.0)

pub returns-in-Pair : goal.returns-in-Pair
returns-in-Pair g c =
    let n = as_linked c.args.node.now in
    let met = subst (λ m. IsMet c.args.key.now n m) c.in-Pair.is c.meet.ensures in
    let byte : get_or c.args.key.now (length c.prefix-in-Pair.result.now) 0 ≡ next_byte n.prefix c.args.key.now = ap (λ p. get_or c.args.key.now (length p) 0) (c.prefix-in-Pair.ensures.bytes ∙ c.base-base.ensures.prefix) in
    ap (λ b. Some (b, Pair c.in-Pair.rest.now c.in-Pair.payload.now)) byte ∙ found_is_first n.links c.base-base.ensures.ascending (next_byte n.prefix c.args.key.now) (Pair c.in-Pair.rest.now c.in-Pair.payload.now) met.2 (c.requires.bound met.0)

pub returns-in-Some : goal.returns-in-Some
returns-in-Some g c =
    let n = as_linked c.args.node.now in
    let at = get_or c.args.key.now 7 0 in
    let byte : at ≡ next_byte n.prefix c.args.key.now = ap (λ k. get_or c.args.key.now k 0) (sym c.in-Leaf.ensures.1) in
    let found : lookup n.links at ≡ Some (looked_at c.in-Some.link) = sym (subst (λ o. seen o ≡ lookup n.links at) c.in-Some.is c.get_link.ensures) in
    found_is_first n.links c.base-base.ensures.ascending at (looked_at c.in-Some.link) found
    (λ d e is. subst (λ b. b ≤ d) (sym byte) (c.requires.bound c.in-Leaf.ensures.0 d e is))
