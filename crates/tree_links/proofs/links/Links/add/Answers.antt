use Rattle.std.proofs.Common.{◌≡◌, ◌∙◌, None, ap, arith, subst}
use Rattle.std.specs.Option.{option_map}
use Rattle.node_table.specs.Table.{node_at}
use Rattle.tree_links.specs.Places.{as_linked}
use Rattle.tree_links.specs.SeenTable.{links_of, name_of, seen_node}
use Rattle.tree_links.specs.inner.Pairs.{pairs_in_links}
use Rattle.tree_links.proofs.CallLaws.{table_is, free_is}
use Rattle.tree_links.proofs.NodeLaws.{added_others}
use Rattle.tree_links.proofs.PairSums.{pairs-more}
use Rattle.tree_links.proofs.SeenLaws.{at_slot, seen_slot}
use Rattle.tree_links.proofs.SlotLaws.{node_there, none_there, same_others}
use Rattle.tree_links.proofs.links.Links.add.Goals as goal

pub invariant_of-self : goal.invariant_of-self
invariant_of-self g c =
    let f = as_linked in
    let t = links_of f c.self.inside.nodes.slots in
    let x = c.insert_reserved.ensures in
    let j = c.insert_reserved.result in
    let none = none_there f c.self.inside.nodes.slots j x.was_vacant in
    let there = node_there f c.insert_reserved.new.self.slots j c.args.node x.updates.changed in
    let more = pairs-more t _ j (f c.args.node) none there (same_others f _ _ j x.updates.others) in
    let zero = ap pairs_in_links c.requires.empty in
    let free = free_is t _ _ _ c.self.view_is in
    let i = c.self.invariant in
    (omega (arith, more, zero, i.0), omega (arith, free, i.1, x.len), omega (arith, i.2))

pub returns-clause-fresh : goal.returns-clause-fresh
returns-clause-fresh g c =
    let f = as_linked in
    let t = links_of f c.self.inside.nodes.slots in
    let j = c.insert_reserved.result in
    let none = none_there f c.self.inside.nodes.slots j c.insert_reserved.ensures.was_vacant in
    subst (λ s. node_at s (name_of j) ≡ None) (table_is t _ _ _ c.self.view_is) (seen_slot t j ∙ ap (option_map (λ n. seen_node j n)) none)

pub returns-clause-is : goal.returns-clause-is
returns-clause-is g c =
    let f = as_linked in
    let j = c.insert_reserved.result in
    at_slot (links_of f c.insert_reserved.new.self.slots) j (f c.args.node) (node_there f c.insert_reserved.new.self.slots j c.args.node c.insert_reserved.ensures.updates.changed)

pub returns-clause-others : goal.returns-clause-others
returns-clause-others g c =
    let f = as_linked in
    let t = links_of f c.self.inside.nodes.slots in
    let x = c.insert_reserved.ensures in
    let j = c.insert_reserved.result in
    let none = none_there f c.self.inside.nodes.slots j x.was_vacant in
    let there = node_there f c.insert_reserved.new.self.slots j c.args.node x.updates.changed in
    let e = table_is t _ _ _ c.self.view_is in
    λ o other. added_others t _ j (same_others f _ _ j x.updates.others) (f c.args.node) c.requires.empty none there o other ∙ ap (λ s. node_at s o) e
