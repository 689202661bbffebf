use Rattle.std.proofs.Common.{rules, arith, ◌≡◌, ◌≤◌, length, nat_lt}
use Rattle.node_forms.proofs.SearchLaws.{rank-at}
use Rattle.node_forms.proofs.SortedLaws.{inserted}
use Rattle.node_rows.proofs.RankLaws.{rank-few}
use Rattle.node_rows.proofs.row_head.RowHead.add.Goals as goal

pub returns-clause-node : goal.returns-clause-node
returns-clause-node g c =
    let n : c.len-count.result ≡ length c.args.row.now.items = search rules in
    let at = rank-at c.requires.node.0 n c.args.byte c.rank_48-i.ensures in
    let inside : c.rank_48-i.result ≤ c.len-count.result = omega (arith, c.rank_48-i.ensures, rank-few (λ x. nat_lt x c.args.byte) c.args.self.now.keys c.len-count.result c.args.self.now.keys) in
    let e = inserted c.requires.node.0 c.args.byte n at c.args.child (search rules) c.requires.absent c.requires.few (search rules) inside c.in-Ok.ensures.items c.insert_byte.ensures.before c.insert_byte.ensures.here c.insert_byte.ensures.after in
    rw c.count_up.ensures (e.0, c.requires.node.1)

pub returns-clause-children : goal.returns-clause-children
returns-clause-children g c =
    let n : c.len-count.result ≡ length c.args.row.now.items = search rules in
    let at = rank-at c.requires.node.0 n c.args.byte c.rank_48-i.ensures in
    let inside : c.rank_48-i.result ≤ c.len-count.result = omega (arith, c.rank_48-i.ensures, rank-few (λ x. nat_lt x c.args.byte) c.args.self.now.keys c.len-count.result c.args.self.now.keys) in
    let e = inserted c.requires.node.0 c.args.byte n at c.args.child (search rules) c.requires.absent c.requires.few (search rules) inside c.in-Ok.ensures.items c.insert_byte.ensures.before c.insert_byte.ensures.here c.insert_byte.ensures.after in
    e.1
