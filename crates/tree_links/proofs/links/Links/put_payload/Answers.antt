use Rattle.std.proofs.Common.{None, arith, sym, subst}
use Rattle.tree_links.specs.Places.{as_linked}
use Rattle.tree_links.specs.LeafCalls.{HasRoomFor, SetsPayload}
use Rattle.tree_links.specs.SeenTable.{links_of, name_of, seen_table}
use Rattle.tree_links.proofs.CallLaws.{table_is}
use Rattle.tree_links.proofs.PairSums.{pairs-put}
use Rattle.tree_links.proofs.PayloadLaws.{lacks_payload, puts_payload}
use Rattle.tree_links.proofs.SpareLaws.{leaf_spare}
use Rattle.tree_links.proofs.links.Links.put_payload.Goals as goal

pub put_at-requires-clause-spare : goal.put_at-requires-clause-spare
put_at-requires-clause-spare g c =
    let t = links_of as_linked c.self.inside.nodes.slots in
    leaf_spare t c.args.slot None c.args.byte c.args.payload
    (lacks_payload t c.args.slot c.args.byte c.args.payload (subst (λ s. HasRoomFor s (name_of c.args.slot) c.args.byte) (sym (table_is t _ _ _ c.self.view_is)) c.requires))

pub put_at-requires-clause-lacks : goal.put_at-requires-clause-lacks
put_at-requires-clause-lacks g c =
    let t = links_of as_linked c.self.inside.nodes.slots in
    lacks_payload t c.args.slot c.args.byte c.args.payload (subst (λ s. HasRoomFor s (name_of c.args.slot) c.args.byte) (sym (table_is t _ _ _ c.self.view_is)) c.requires)

pub invariant_of-self : goal.invariant_of-self
invariant_of-self g c =
    let t = links_of as_linked c.self.inside.nodes.slots in
    let e = c.put_at.ensures in
    let same = pairs-put t _ _ _ _ e.puts in
    let i = c.self.invariant in
    (omega (arith, i.0, same), omega (arith, i.1, e.len, e.capacity), omega (arith, i.2, e.capacity))

pub returns-clause-puts : goal.returns-clause-puts
returns-clause-puts g c =
    let t = links_of as_linked c.self.inside.nodes.slots in
    let u = links_of as_linked c.put_at.new.nodes.slots in
    let e = table_is t _ _ _ c.self.view_is in
    subst (λ s. SetsPayload s (seen_table u) (name_of c.args.slot) c.args.byte c.args.payload None) e
    (puts_payload t u c.args.slot c.args.byte c.args.payload (lacks_payload t c.args.slot c.args.byte c.args.payload (subst (λ s. HasRoomFor s (name_of c.args.slot) c.args.byte) (sym e) c.requires)) c.put_at.ensures.puts)
