use Rattle.std.proofs.Common.{rules, ◌∙◌, IsSome, ap, arith, sym, subst, refl}
use Rattle.node_table.specs.Table.{node_at}
use Rattle.tree_links.specs.Places.{as_linked}
use Rattle.tree_links.specs.OtherForm.{GrowsNode}
use Rattle.tree_links.specs.SeenTable.{links_of, name_of, seen_table}
use Rattle.tree_links.specs.inner.Pairs.{pairs_in_table}
use Rattle.tree_links.proofs.CallLaws.{has_node, table_is}
use Rattle.tree_links.proofs.NodeLaws.{grows_node}
use Rattle.tree_links.proofs.PairSums.{pairs-same}
use Rattle.tree_links.proofs.links.Links.grow.Goals as goal

pub grow_at-requires : goal.grow_at-requires
grow_at-requires g c =
    let t = links_of as_linked c.self.inside.nodes.slots in
    has_node t c.args.slot (subst (λ s. IsSome (node_at s (name_of c.args.slot))) (sym (table_is t _ _ _ c.self.view_is)) c.requires)

pub invariant_of-self : goal.invariant_of-self
invariant_of-self g c =
    let i = c.self.invariant in
    let e = c.in_err-grow_at.ensures.err in
    (i.0 ∙ ap pairs_in_table (sym e), omega (arith, i.1), omega (arith, i.2))

pub invariant_of-self-2 : goal.invariant_of-self-2
invariant_of-self-2 g c =
    let i = c.self.invariant in
    let x = c.in_ok-grow_at.ensures.ok in
    let same = pairs-same _ _ _ _ _ x.here x.there refl x.others in
    (omega (arith, i.0, same), omega (arith, i.1), omega (arith, i.2))

pub returns-in_err-grow_at-clause-err : goal.returns-in_err-grow_at-clause-err
returns-in_err-grow_at-clause-err g c =
    let t = links_of as_linked c.self.inside.nodes.slots in
    let same = ap seen_table c.in_err-grow_at.ensures.err ∙ table_is t _ _ _ c.self.view_is in
    search (rules, same)

pub returns-clause-ok : goal.returns-clause-ok
returns-clause-ok g c =
    let t = links_of as_linked c.self.inside.nodes.slots in
    let u = links_of as_linked c.grow_at.new.nodes.slots in
    let x = c.in_ok-grow_at.ensures.ok in
    subst (λ s. GrowsNode s (seen_table u) (name_of c.args.slot)) (table_is t _ _ _ c.self.view_is)
    (grows_node t u c.args.slot x.others x.node x.here x.there x.room)
