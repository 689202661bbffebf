use Rattle.std.proofs.Common.{◌∙◌, rules, arith, ◌≡◌, length}
use Rattle.node_forms.proofs.SearchLaws.{some-found, none-found, find-at}
use Rattle.node_forms.proofs.SortedLaws.{value_at, changed}
use Rattle.node_forms.proofs.head_16.Head16Head.exchange.Goals as goal

pub returns-then-i-count-clause-before : goal.returns-then-i-count-clause-before
returns-then-i-count-clause-before g c =
    let n : c.value_count-count.result ≡ length c.args.row.now.items = c.value_count-count.ensures ∙ c.requires.node.0.counted in
    let some = some-found c.requires.node.0 n c.args.byte c.find-i.ensures c.if-i-count.true in
    let at = find-at c.requires.node.0 n c.args.byte c.find-i.ensures some in
    rw (c.replace.ensures.value) (value_at c.requires.node.0 c.args.byte n at _ some c.index_mut.ensures.value)

pub returns-then-i-count-clause-children : goal.returns-then-i-count-clause-children
returns-then-i-count-clause-children g c =
    let n : c.value_count-count.result ≡ length c.args.row.now.items = c.value_count-count.ensures ∙ c.requires.node.0.counted in
    let some = some-found c.requires.node.0 n c.args.byte c.find-i.ensures c.if-i-count.true in
    let at = find-at c.requires.node.0 n c.args.byte c.find-i.ensures some in
    rw (c.replace.ensures.after) (changed c.requires.node.0 c.args.byte n at c.args.child (search rules) some).1

pub returns-then-i-count-clause-node : goal.returns-then-i-count-clause-node
returns-then-i-count-clause-node g c =
    let n : c.value_count-count.result ≡ length c.args.row.now.items = c.value_count-count.ensures ∙ c.requires.node.0.counted in
    let some = some-found c.requires.node.0 n c.args.byte c.find-i.ensures c.if-i-count.true in
    let at = find-at c.requires.node.0 n c.args.byte c.find-i.ensures some in
    ((changed c.requires.node.0 c.args.byte n at c.replace.new.dest (search rules) some).0, c.requires.node.1, c.requires.node.2)

pub returns-else-i-count-clause-absent : goal.returns-else-i-count-clause-absent
returns-else-i-count-clause-absent g c =
    let n : c.value_count-count.result ≡ length c.args.row.now.items = c.value_count-count.ensures ∙ c.requires.node.0.counted in
    (none-found c.requires.node.0 n c.args.byte c.find-i.ensures (omega (arith, c.if-i-count.false)))
