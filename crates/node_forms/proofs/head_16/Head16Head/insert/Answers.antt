use Rattle.std.proofs.Common.{rules, arith, ◌≡◌, ◌≤◌, ◌<◌, ◌+◌, length, None, take, nat_lt, vec_capacity}
use Rattle.std.proofs.lemmas.List.{length-take}
use Rattle.std.proofs.lemmas.List.Sums.{count_by-le-length}
use Rattle.spec_map.specs.Map.{lookup}
use Rattle.node_base.specs.inner.Sorted.{pairs}
use Rattle.node_forms.proofs.SearchLaws.{rank-at}
use Rattle.node_forms.proofs.SortedLaws.{inserted, length-sorted}
use Rattle.node_forms.proofs.head_16.Head16Head.insert.Goals as goal

pub insert_byte-requires-clause-room : goal.insert_byte-requires-clause-room
insert_byte-requires-clause-room g c =
    let n : c.len-count.result ≡ length c.args.row.now.items = search rules in
    let room : length c.args.row.now.items < 16 =
    let m : length (pairs c.args.self.now.keys c.args.row.now.items) ≡ length c.args.row.now.items = (length-sorted c.requires.node.0) in
    let k : length (pairs c.args.self.now.keys c.args.row.now.items) + 1 ≤ 16 = c.requires.room in
    omega (arith, m, k)
    in
    omega (arith, n, room, c.requires.node.0.long)

pub unreachable-requires : goal.unreachable-requires
unreachable-requires g c =
    let room : length c.args.row.now.items < 16 =
    let m : length (pairs c.args.self.now.keys c.args.row.now.items) ≡ length c.args.row.now.items = (length-sorted c.requires.node.0) in
    let k : length (pairs c.args.self.now.keys c.args.row.now.items) + 1 ≤ 16 = c.requires.room in
    omega (arith, m, k)
    in
    let v : length c.args.row.now.items < vec_capacity c.args.row.now = omega (arith, room, c.requires.node.2) in
    search rules

pub returns-clause-children : goal.returns-clause-children
returns-clause-children g c =
    let n : c.len-count.result ≡ length c.args.row.now.items = search rules in
    let at = rank-at c.requires.node.0 n c.args.byte c.rank-i.ensures in
    let inside : c.rank-i.result ≤ c.len-count.result = omega (arith, c.rank-i.ensures, count_by-le-length (λ x. nat_lt x c.args.byte) (take c.len-count.result c.args.self.now.keys), length-take c.len-count.result c.args.self.now.keys) in
    let room : length c.args.row.now.items < 16 =
    let m : length (pairs c.args.self.now.keys c.args.row.now.items) ≡ length c.args.row.now.items = (length-sorted c.requires.node.0) in
    let k : length (pairs c.args.self.now.keys c.args.row.now.items) + 1 ≤ 16 = c.requires.room in
    omega (arith, m, k)
    in
    let none : lookup (pairs c.args.self.now.keys c.args.row.now.items) c.args.byte ≡ None = c.requires.absent in
    let e = inserted c.requires.node.0 c.args.byte n at c.args.child (search rules) none room (search rules) inside c.in-Ok.ensures.items c.insert_byte.ensures.before c.insert_byte.ensures.here c.insert_byte.ensures.after in
    e.1

pub returns-clause-node : goal.returns-clause-node
returns-clause-node g c =
    let n : c.len-count.result ≡ length c.args.row.now.items = search rules in
    let at = rank-at c.requires.node.0 n c.args.byte c.rank-i.ensures in
    let inside : c.rank-i.result ≤ c.len-count.result = omega (arith, c.rank-i.ensures, count_by-le-length (λ x. nat_lt x c.args.byte) (take c.len-count.result c.args.self.now.keys), length-take c.len-count.result c.args.self.now.keys) in
    let room : length c.args.row.now.items < 16 =
    let m : length (pairs c.args.self.now.keys c.args.row.now.items) ≡ length c.args.row.now.items = (length-sorted c.requires.node.0) in
    let k : length (pairs c.args.self.now.keys c.args.row.now.items) + 1 ≤ 16 = c.requires.room in
    omega (arith, m, k)
    in
    let none : lookup (pairs c.args.self.now.keys c.args.row.now.items) c.args.byte ≡ None = c.requires.absent in
    let e = inserted c.requires.node.0 c.args.byte n at c.args.child (search rules) none room (search rules) inside c.in-Ok.ensures.items c.insert_byte.ensures.before c.insert_byte.ensures.here c.insert_byte.ensures.after in
    rw c.count_up.ensures (e.0, c.requires.node.1, search rules)
