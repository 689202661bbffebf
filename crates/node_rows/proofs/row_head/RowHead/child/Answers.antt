use Rattle.std.proofs.Common.{rules, arith, ◌≡◌, length, sym}
use Rattle.node_forms.proofs.SearchLaws.{rank-at}
use Rattle.node_forms.proofs.SortedLaws.{some_at, not_at, value_at}
use Rattle.node_rows.proofs.row_head.RowHead.child.Goals as goal
use Rattle.node_rows.proofs.row_head.RowHead.child.Goals.{else-i-count-via-then-i-count+else-self-i, else-i-count-via-else-i-count}

pub returns-then-self-i-clause-found : goal.returns-then-self-i-clause-found
returns-then-self-i-clause-found g c =
    let n : c.len-count.result ≡ length c.args.row.now.items = search rules in
    let at = rank-at c.requires.0 n c.args.byte c.rank_48-i.ensures in
    let some = some_at c.requires.0 c.args.byte n at (omega (arith, n, c.if-i-count.true)) c.if-self-i.true in
    sym (value_at c.requires.0 c.args.byte n at _ some c.index.ensures)

pub returns-else-i-count-clause-found : goal.returns-else-i-count-clause-found
returns-else-i-count-clause-found g c =
    let n : c.len-count.result ≡ length c.args.row.now.items = search rules in
    let at = rank-at c.requires.0 n c.args.byte c.rank_48-i.ensures in
    sym (not_at c.requires.0 c.args.byte n at (λ inside. elim c.else-i-count.branch [
      | else-i-count-via-then-i-count+else-self-i w ↦ w.if-self-i.false
      | else-i-count-via-else-i-count w ↦ absurd (omega (arith, w.if-i-count.false, n, inside))
    ]))
