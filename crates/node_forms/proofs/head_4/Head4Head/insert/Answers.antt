use Rattle.std.proofs.Common.{rules, arith, ◌≡◌, ◌≤◌, ◌<◌, ◌+◌, ◌∙◌, length, None}
use Rattle.spec_map.specs.Map.{lookup}
use Rattle.node_base.specs.inner.Sorted.{pairs}
use Rattle.node_base.specs.inner.Few.{listed}
use Rattle.node_forms.proofs.SortedLaws.{inserted, length-sorted}
use Rattle.node_forms.proofs.head_4.Head4Head.insert.Goals as goal

pub insert_byte-requires-clause-room : goal.insert_byte-requires-clause-room
insert_byte-requires-clause-room g c =
    let n : c.value_count-count.result ≡ length (listed c.args.row.now) = c.value_count-count.ensures ∙ c.requires.node.0.counted in
    let room : length (listed c.args.row.now) < 4 =
    let m : length (pairs c.args.self.now.keys (listed c.args.row.now)) ≡ length (listed c.args.row.now) = (length-sorted c.requires.node.0) in
    let k : length (pairs c.args.self.now.keys (listed c.args.row.now)) + 1 ≤ 4 = c.requires.room in
    omega (arith, m, k)
    in
    omega (arith, n, room, c.requires.node.0.long)

pub returns-clause-children : goal.returns-clause-children
returns-clause-children g c =
    let n : c.value_count-count.result ≡ length (listed c.args.row.now) = c.value_count-count.ensures ∙ c.requires.node.0.counted in
    let room : length (listed c.args.row.now) < 4 =
    let m : length (pairs c.args.self.now.keys (listed c.args.row.now)) ≡ length (listed c.args.row.now) = (length-sorted c.requires.node.0) in
    let k : length (pairs c.args.self.now.keys (listed c.args.row.now)) + 1 ≤ 4 = c.requires.room in
    omega (arith, m, k)
    in
    let none : lookup (pairs c.args.self.now.keys (listed c.args.row.now)) c.args.byte ≡ None = c.requires.absent in
    let e = inserted c.requires.node.0 c.args.byte n c.place-i.ensures.at c.args.child (search rules) none room (search rules) c.place-i.ensures.inside c.insert.ensures c.insert_byte.ensures.before c.insert_byte.ensures.here c.insert_byte.ensures.after in
    e.1

pub returns-clause-node : goal.returns-clause-node
returns-clause-node g c =
    let n : c.value_count-count.result ≡ length (listed c.args.row.now) = c.value_count-count.ensures ∙ c.requires.node.0.counted in
    let room : length (listed c.args.row.now) < 4 =
    let m : length (pairs c.args.self.now.keys (listed c.args.row.now)) ≡ length (listed c.args.row.now) = (length-sorted c.requires.node.0) in
    let k : length (pairs c.args.self.now.keys (listed c.args.row.now)) + 1 ≤ 4 = c.requires.room in
    omega (arith, m, k)
    in
    let none : lookup (pairs c.args.self.now.keys (listed c.args.row.now)) c.args.byte ≡ None = c.requires.absent in
    let e = inserted c.requires.node.0 c.args.byte n c.place-i.ensures.at c.args.child (search rules) none room (search rules) c.place-i.ensures.inside c.insert.ensures c.insert_byte.ensures.before c.insert_byte.ensures.here c.insert_byte.ensures.after in
    rw c.count_up.ensures (e.0, c.requires.node.1)
