use Rattle.std.proofs.Common.{arith, ◌≤◌, ◌+◌, length}
use Rattle.node_base.specs.inner.Sorted.{pairs}
use Rattle.node_forms.proofs.SortedLaws.{length-sorted}
use Rattle.node_rows.proofs.row_head.RowHeadHead.insert.Goals as goal

pub add-requires-clause-few : goal.add-requires-clause-few
add-requires-clause-few g c =
    let room : length (pairs c.args.self.now.keys c.args.row.now.items) + 1 ≤ 48 = c.requires.room in
    omega (arith, room, length-sorted c.requires.node.0.0)

pub add-requires-clause-room : goal.add-requires-clause-room
add-requires-clause-room g c =
    let room : length (pairs c.args.self.now.keys c.args.row.now.items) + 1 ≤ 48 = c.requires.room in
    omega (arith, room, length-sorted c.requires.node.0.0, c.requires.node.1)
