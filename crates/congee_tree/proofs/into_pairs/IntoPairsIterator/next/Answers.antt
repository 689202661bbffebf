use Rattle.std.proofs.Common.{rules, ◌∙◌, ap, sym}
use Rattle.tree_edit.specs.Tree.{TreeView}
use Rattle.congee_tree.proofs.BulkLaws.{popped_first, popped_none}
use Rattle.congee_tree.proofs.into_pairs.IntoPairsIterator.next.Goals as goal

pub returns-in_default-clause-steps : goal.returns-in_default-clause-steps
returns-in_default-clause-steps g c =
    let e = popped_none _ c.in_default.ensures.pair in
    (sym c.self.view_is ∙ e, ap (λ (t : TreeView g.row.P.Denot g.row.A.Denot). t.pairs) c.in_default.ensures.empty ∙ e)

pub returns-clause-steps : goal.returns-clause-steps
returns-clause-steps g c = sym c.self.view_is ∙ popped_first _ _ _ _ c.in-Some.ensures.pair c.in-Some.ensures.removes.pairs

pub returns-clause-goes : goal.returns-clause-goes
returns-clause-goes g c = let e = returns-clause-steps g c in search (rules, e)
