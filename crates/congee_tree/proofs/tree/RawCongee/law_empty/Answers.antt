use Rattle.std.proofs.Common.{◌∙◌, ap, subst, sym}
use Rattle.tree_path.specs.Charge.{charge_of}
use Rattle.tree_edit.specs.Reduce.{AreFilled}
use Rattle.tree_edit.specs.Tree.{TreeView}
use Rattle.congee_tree.proofs.EmptyLaws.{alone}
use Rattle.congee_tree.proofs.tree.RawCongee.law_empty.Goals as goal

pub returns : goal.returns
returns g c none =
    let t = c.table.ensures in
    let e = c.charged.ensures in
    let pairs = t.pairs ∙ ap (λ (u : TreeView g.row.P.Denot g.row.A.Denot). u.pairs) c.self.view_is ∙ none in
    ap (λ (u : TreeView g.row.P.Denot g.row.A.Denot). u.nodes) (sym c.self.view_is)
    ∙ sym t.nodes
    ∙ alone _ _ t.tree (subst AreFilled (sym t.nodes) e.filled) pairs (ap charge_of t.nodes ∙ sym e.sizes ∙ e.bare (sym t.pairs ∙ pairs))
