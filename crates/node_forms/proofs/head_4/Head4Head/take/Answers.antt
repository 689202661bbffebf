use Rattle.std.proofs.Common.{rules, arith, ◌∙◌, ◌≡◌, length, sym}
use Rattle.spec_map.proofs.MapLaws.{without-absent}
use Rattle.node_base.specs.inner.Few.{listed}
use Rattle.node_base.specs.inner.Sorted.{pairs}
use Rattle.node_forms.proofs.SearchLaws.{some-found, none-found, find-at}
use Rattle.node_forms.proofs.SortedLaws.{value_at, removed}
use Rattle.node_forms.proofs.head_4.Head4Head.take.Goals as goal

pub returns-then-i-count-clause-before : goal.returns-then-i-count-clause-before
returns-then-i-count-clause-before g c =
    let n : c.value_count-count.result ≡ length (listed c.args.row.now) = c.value_count-count.ensures ∙ c.requires.node.0.counted in
    let some = some-found c.requires.node.0 n c.args.byte c.find_4-i.ensures c.if-i-count.true in
    let at = find-at c.requires.node.0 n c.args.byte c.find_4-i.ensures some in
    sym (value_at c.requires.node.0 c.args.byte n at _ some c.remove.ensures.value)

pub returns-then-i-count-clause-node : goal.returns-then-i-count-clause-node
returns-then-i-count-clause-node g c =
    let n : c.value_count-count.result ≡ length (listed c.args.row.now) = c.value_count-count.ensures ∙ c.requires.node.0.counted in
    let some = some-found c.requires.node.0 n c.args.byte c.find_4-i.ensures c.if-i-count.true in
    let at = find-at c.requires.node.0 n c.args.byte c.find_4-i.ensures some in
    let e = removed c.requires.node.0 c.args.byte n at some (search rules) c.remove.ensures.after c.remove_byte.ensures.before c.remove_byte.ensures.after c.count_down.ensures.count in
    (e.0, c.count_down.ensures.form ∙ c.requires.node.1)

pub returns-then-i-count-clause-children : goal.returns-then-i-count-clause-children
returns-then-i-count-clause-children g c =
    let n : c.value_count-count.result ≡ length (listed c.args.row.now) = c.value_count-count.ensures ∙ c.requires.node.0.counted in
    let some = some-found c.requires.node.0 n c.args.byte c.find_4-i.ensures c.if-i-count.true in
    let at = find-at c.requires.node.0 n c.args.byte c.find_4-i.ensures some in
    let e = removed c.requires.node.0 c.args.byte n at some (search rules) c.remove.ensures.after c.remove_byte.ensures.before c.remove_byte.ensures.after c.count_down.ensures.count in
    e.1

pub returns-else-i-count-clause-before : goal.returns-else-i-count-clause-before
returns-else-i-count-clause-before g c =
    let n : c.value_count-count.result ≡ length (listed c.args.row.now) = c.value_count-count.ensures ∙ c.requires.node.0.counted in
    sym (none-found c.requires.node.0 n c.args.byte c.find_4-i.ensures (omega (arith, c.if-i-count.false)))

pub returns-else-i-count-clause-children : goal.returns-else-i-count-clause-children
returns-else-i-count-clause-children g c =
    let n : c.value_count-count.result ≡ length (listed c.args.row.now) = c.value_count-count.ensures ∙ c.requires.node.0.counted in
    sym (without-absent (pairs c.args.self.now.keys (listed c.args.row.now)) c.args.byte (none-found c.requires.node.0 n c.args.byte c.find_4-i.ensures (omega (arith, c.if-i-count.false))))
