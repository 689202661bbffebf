use Rattle.std.proofs.Common.{arith, sym, subst}
use Rattle.tree_links.specs.Places.{as_linked}
use Rattle.tree_links.specs.PairCalls.{IsOpenFor, GetsLeaf}
use Rattle.tree_links.specs.SeenTable.{links_of, name_of, name_under, seen_table}
use Rattle.tree_links.specs.Spares.{HasSpare}
use Rattle.tree_links.specs.declared.link.Link.TheVariants.{Pair}
use Rattle.tree_links.specs.inner.Slots.{PutsLink}
use Rattle.tree_links.proofs.CallLaws.{lacks_pair, key_begins, table_is, free_is}
use Rattle.tree_links.proofs.PairLaws.{gets_leaf}
use Rattle.tree_links.proofs.PairSums.{pairs-put}
use Rattle.tree_links.proofs.SeenLaws.{byte_inside}
use Rattle.tree_links.proofs.SpareLaws.{spare_at}
use Rattle.tree_links.proofs.links.Links.add_pair.Goals as goal

pub put_at-requires-clause-spare : goal.put_at-requires-clause-spare
put_at-requires-clause-spare g c =
    let t = links_of as_linked c.self.inside.nodes.slots in
    spare_at t c.args.slot c.args.spare (subst (λ s. HasSpare s (name_of c.args.slot) c.args.spare) (sym (table_is t _ _ _ c.self.view_is)) c.requires.spare)

pub put_at-requires-clause-lacks : goal.put_at-requires-clause-lacks
put_at-requires-clause-lacks g c =
    let t = links_of as_linked c.self.inside.nodes.slots in
    let e = table_is t _ _ _ c.self.view_is in
    lacks_pair t c.args.slot c.args.byte (byte_inside c.args.byte (omega arith)) c.args.key.now _ _ (subst (λ s. IsOpenFor s (name_of c.args.slot) c.args.byte c.args.key.now) (sym e) c.requires.open)

pub invariant_of-self : goal.invariant_of-self
invariant_of-self g c =
    let t = links_of as_linked c.self.inside.nodes.slots in
    let free = free_is t _ _ _ c.self.view_is in
    let more = pairs-put t _ _ _ _ c.put_at.ensures.puts in
    let i = c.self.invariant in
    (omega (arith, more, i.0), omega (arith, free, i.1), omega (arith, i.2))

pub returns-clause-adds : goal.returns-clause-adds
returns-clause-adds g c =
    let t = links_of as_linked c.self.inside.nodes.slots in
    let u = links_of as_linked c.put_at.new.nodes.slots in
    let e = table_is t _ _ _ c.self.view_is in
    let inside = byte_inside c.args.byte (omega arith) in
    let o = subst (λ s. IsOpenFor s (name_of c.args.slot) c.args.byte c.args.key.now) (sym e) c.requires.open in
    let puts = subst (λ r. PutsLink t u c.args.slot c.args.byte (Pair r c.args.payload)) c.rest_of.ensures c.put_at.ensures.puts in
    subst (λ s. GetsLeaf s (seen_table u) (name_of c.args.slot) c.args.byte (name_under c.args.slot c.args.byte) c.args.key.now c.args.payload) e
    (gets_leaf t u c.args.slot c.args.byte c.args.key.now c.args.payload inside puts (key_begins t c.args.slot c.args.byte inside c.args.key.now o))
