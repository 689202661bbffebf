use Rattle.std.proofs.Common.{arith, sym, ◌≡◌, ◌∙◌, take, length}
use Rattle.std.proofs.Math.Seq.{take-length}
use Rattle.node_table.proofs.BeginLaws.{begins_taken}
use Rattle.tree_links.proofs.descent.first_difference.Goals as goal

pub unreachable-requires : goal.unreachable-requires
unreachable-requires c =
    let p = c.args.bytes.now in
    let at_end : c.loop-i.i ≡ length p = omega arith in
    let same : take (length p) p ≡ take (length p) c.args.key.now = rw (← at_end) c.loop-i.invariant in
    c.requires.differ (begins_taken p c.args.key.now (sym same ∙ take-length p))
