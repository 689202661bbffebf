use Rattle.std.proofs.Common.{rules, arith, ◌≡◌, length}
use Rattle.node_forms.proofs.SearchLaws.{rank-at}
use Rattle.node_forms.proofs.SortedLaws.{some_at, not_at, value_at, changed}
use Rattle.node_rows.proofs.row_head.RowHead.replace.Goals as goal
use Rattle.node_rows.proofs.row_head.RowHead.replace.Goals.{else-i-count-via-then-i-count+else-self-i, else-i-count-via-else-i-count}

pub returns-then-self-i-clause-node : goal.returns-then-self-i-clause-node
returns-then-self-i-clause-node g c =
    let n : c.len-count.result ≡ length c.args.row.now.items = search rules in
    let at = rank-at c.requires.node.0 n c.args.byte c.rank_48-i.ensures in
    let some = some_at c.requires.node.0 c.args.byte n at (omega (arith, n, c.if-i-count.true)) c.if-self-i.true in
    ((changed c.requires.node.0 c.args.byte n at c.replace.new.dest (search rules) some).0, c.requires.node.1)

pub returns-then-self-i-clause-before : goal.returns-then-self-i-clause-before
returns-then-self-i-clause-before g c =
    let n : c.len-count.result ≡ length c.args.row.now.items = search rules in
    let at = rank-at c.requires.node.0 n c.args.byte c.rank_48-i.ensures in
    let some = some_at c.requires.node.0 c.args.byte n at (omega (arith, n, c.if-i-count.true)) c.if-self-i.true in
    rw (c.replace.ensures.value) (value_at c.requires.node.0 c.args.byte n at _ some c.index_mut.ensures.value)

pub returns-then-self-i-clause-children : goal.returns-then-self-i-clause-children
returns-then-self-i-clause-children g c =
    let n : c.len-count.result ≡ length c.args.row.now.items = search rules in
    let at = rank-at c.requires.node.0 n c.args.byte c.rank_48-i.ensures in
    let some = some_at c.requires.node.0 c.args.byte n at (omega (arith, n, c.if-i-count.true)) c.if-self-i.true in
    rw (c.replace.ensures.after) (changed c.requires.node.0 c.args.byte n at c.args.child (search rules) some).1

pub returns-else-i-count-clause-absent : goal.returns-else-i-count-clause-absent
returns-else-i-count-clause-absent g c =
    let n : c.len-count.result ≡ length c.args.row.now.items = search rules in
    let at = rank-at c.requires.node.0 n c.args.byte c.rank_48-i.ensures in
    not_at c.requires.node.0 c.args.byte n at (λ inside. elim c.else-i-count.branch [
      | else-i-count-via-then-i-count+else-self-i w ↦ w.if-self-i.false
      | else-i-count-via-else-i-count w ↦ absurd (omega (arith, w.if-i-count.false, n, inside))
    ])
