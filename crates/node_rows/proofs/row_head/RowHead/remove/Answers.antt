use Rattle.std.proofs.Common.{rules, arith, ◌≡◌, ◌∙◌, length, sym, None}
use Rattle.spec_map.specs.Map.{lookup}
use Rattle.spec_map.proofs.MapLaws.{without-absent}
use Rattle.node_base.specs.inner.Sorted.{pairs}
use Rattle.node_forms.proofs.SearchLaws.{rank-at}
use Rattle.node_forms.proofs.SortedLaws.{some_at, not_at, value_at, removed}
use Rattle.node_rows.proofs.row_head.RowHead.remove.Goals as goal
use Rattle.node_rows.proofs.row_head.RowHead.remove.Goals.{else-i-count-via-then-i-count+else-self-i, else-i-count-via-else-i-count}

pub returns-then-self-i-clause-before : goal.returns-then-self-i-clause-before
returns-then-self-i-clause-before g c =
    let n : c.len-count.result ≡ length c.args.row.now.items = search rules in
    let at = rank-at c.requires.node.0 n c.args.byte c.rank_48-i.ensures in
    let some = some_at c.requires.node.0 c.args.byte n at (omega (arith, n, c.if-i-count.true)) c.if-self-i.true in
    sym (value_at c.requires.node.0 c.args.byte n at _ some c.remove.ensures.value)

pub returns-then-self-i-clause-children : goal.returns-then-self-i-clause-children
returns-then-self-i-clause-children g c =
    let n : c.len-count.result ≡ length c.args.row.now.items = search rules in
    let at = rank-at c.requires.node.0 n c.args.byte c.rank_48-i.ensures in
    let some = some_at c.requires.node.0 c.args.byte n at (omega (arith, n, c.if-i-count.true)) c.if-self-i.true in
    let e = removed c.requires.node.0 c.args.byte n at some (search rules) c.remove.ensures.items c.remove_byte.ensures.before c.remove_byte.ensures.after c.count_down.ensures.count in
    e.1

pub returns-then-self-i-clause-node : goal.returns-then-self-i-clause-node
returns-then-self-i-clause-node g c =
    let n : c.len-count.result ≡ length c.args.row.now.items = search rules in
    let at = rank-at c.requires.node.0 n c.args.byte c.rank_48-i.ensures in
    let some = some_at c.requires.node.0 c.args.byte n at (omega (arith, n, c.if-i-count.true)) c.if-self-i.true in
    let e = removed c.requires.node.0 c.args.byte n at some (search rules) c.remove.ensures.items c.remove_byte.ensures.before c.remove_byte.ensures.after c.count_down.ensures.count in
    (e.0, c.count_down.ensures.form ∙ c.requires.node.1)

pub returns-else-i-count-clause-before : goal.returns-else-i-count-clause-before
returns-else-i-count-clause-before g c =
    let n : c.len-count.result ≡ length c.args.row.now.items = search rules in
    let at = rank-at c.requires.node.0 n c.args.byte c.rank_48-i.ensures in
    let none : lookup (pairs c.args.self.now.keys c.args.row.now.items) c.args.byte ≡ None =
    not_at c.requires.node.0 c.args.byte n at (λ inside. elim c.else-i-count.branch [
      | else-i-count-via-then-i-count+else-self-i w ↦ w.if-self-i.false
      | else-i-count-via-else-i-count w ↦ absurd (omega (arith, w.if-i-count.false, n, inside))
    ])
    in
    sym none

pub returns-else-i-count-clause-children : goal.returns-else-i-count-clause-children
returns-else-i-count-clause-children g c =
    let n : c.len-count.result ≡ length c.args.row.now.items = search rules in
    let at = rank-at c.requires.node.0 n c.args.byte c.rank_48-i.ensures in
    let none : lookup (pairs c.args.self.now.keys c.args.row.now.items) c.args.byte ≡ None =
    not_at c.requires.node.0 c.args.byte n at (λ inside. elim c.else-i-count.branch [
      | else-i-count-via-then-i-count+else-self-i w ↦ w.if-self-i.false
      | else-i-count-via-else-i-count w ↦ absurd (omega (arith, w.if-i-count.false, n, inside))
    ])
    in
    sym (without-absent (pairs c.args.self.now.keys c.args.row.now.items) c.args.byte none)
