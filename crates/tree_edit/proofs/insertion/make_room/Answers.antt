use Rattle.std.proofs.Common.{length, refl, subst}
use Rattle.node_base.specs.Form.{Fits}
use Rattle.spec_node.specs.TableNode.{TableNode}
use Rattle.node_table.specs.Table.{node_at}
use Rattle.tree_edit.specs.inner.Writes.{IsFullAt}
use Rattle.tree_links.specs.Places.{as_linked}
use Rattle.tree_links.specs.SeenTable.{name_of, seen_node}
use Rattle.tree_links.proofs.NodeLaws.{seen_is}
use Rattle.tree_edit.proofs.LeafLaws.{err_of, full_count, seen_count}
use Rattle.tree_edit.proofs.insertion.make_room.Goals as goal

pub returns-in_err-grow-clause-refused : goal.returns-in_err-grow-clause-refused
returns-in_err-grow-clause-refused g c = err_of {X = IsFullAt c.args.nodes.now.table (name_of c.args.slot)} c.from_residual.result (λ n here.
    let m = c.node.result.now in
    let is = seen_is (node_at c.args.nodes.now.table (name_of c.args.slot)) c.args.slot (as_linked m) n c.node.ensures here in
    let within : Fits (seen_node c.args.slot (as_linked m)).form (length (seen_node c.args.slot (as_linked m)).children) = rw (seen_count c.args.slot m) c.base.ensures.within in
    full_count n.form (length n.children) (subst (λ (x : TableNode g.row.P.Denot). Fits x.form (length x.children)) is within) (c.if-is_full.ensures.full n here refl))
