use Rattle.std.proofs.Common.{rules, arith, ◌≡◌, ◌∙◌, take, length}
use Rattle.node_base.specs.inner.Sorted.{below}
use Rattle.node_forms.proofs.SearchLaws.{rank-at, end-at}
use Rattle.node_forms.proofs.LastLaws.{last_none, last_some}
use Rattle.node_rows.proofs.row_head.RowHead.byte_below.Goals as goal
use Rattle.node_rows.proofs.row_head.RowHead.byte_below.Goals.{then-to-gt255, else-to-gt255}

pub returns-then-i-eq0 : goal.returns-then-i-eq0
returns-then-i-eq0 g c =
    let n : c.len-count.result ≡ length c.args.row.now.items = search rules in
    let at : c.if-to-gt255.i ≡ below (take c.len-count.result c.args.self.now.keys) c.args.to =
    elim c.if-to-gt255.branch [
      | then-to-gt255 w ↦ end-at c.requires.node.0 n c.args.to (omega (arith, w.if-to-gt255.true, c.requires.within)) w.i-is
      | else-to-gt255 w ↦ rank-at c.requires.node.0 n c.args.to (w.i-is ∙ w.rank_48-i.ensures)
    ]
    in
    last_none c.requires.node.0 c.args.to n at c.if-i-eq0.true

pub returns-else-i-eq0 : goal.returns-else-i-eq0
returns-else-i-eq0 g c =
    let n : c.len-count.result ≡ length c.args.row.now.items = search rules in
    let at : c.if-to-gt255.i ≡ below (take c.len-count.result c.args.self.now.keys) c.args.to =
    elim c.if-to-gt255.branch [
      | then-to-gt255 w ↦ end-at c.requires.node.0 n c.args.to (omega (arith, w.if-to-gt255.true, c.requires.within)) w.i-is
      | else-to-gt255 w ↦ rank-at c.requires.node.0 n c.args.to (w.i-is ∙ w.rank_48-i.ensures)
    ]
    in
    last_some c.requires.node.0 c.args.to n at (omega (arith, c.if-i-eq0.false))
