use Rattle.std.proofs.Common.{ap, length, arith}
use Rattle.congee_tree.proofs.BulkLaws.{parts_length}
use Rattle.congee_tree.proofs.tree.RawCongee.remove_range.Goals as goal

pub overflow_sub-result : goal.overflow_sub-result
overflow_sub-result g c =
    let count = parts_length c.args.self.now.pairs c.args.start c.args.end in
    let size = ap length c.extract_range.ensures.pairs in
    omega (arith, count, size, c.value_count-before.ensures, c.value_count.ensures)

pub returns-clause-count : goal.returns-clause-count
returns-clause-count g c =
    let count = parts_length c.args.self.now.pairs c.args.start c.args.end in
    let size = ap length c.extract_range.ensures.pairs in
    omega (arith, count, size, c.value_count-before.ensures, c.value_count.ensures)
