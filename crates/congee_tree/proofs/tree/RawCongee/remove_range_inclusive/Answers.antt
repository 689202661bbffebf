use Rattle.std.proofs.Common.{◌+◌, ◌^◌, ◌∙◌, refl, ap, sym, length, arith}
use Rattle.spec_map.specs.Map.{without}
use Rattle.spec_map.proofs.RangeLaws.{between-crossed}
use Rattle.tree_edit.proofs.TidyLaws.{moves_trans}
use Rattle.congee_tree.proofs.BulkLaws.{outside-last, all_outside, parts_length}
use Rattle.congee_tree.proofs.tree.RawCongee.remove_range_inclusive.Goals as goal

-- the bounds are crossed
pub returns-then-last-start : goal.returns-then-last-start
returns-then-last-start g c =
    let none = between-crossed c.args.start (c.args.last + 1) c.args.self.now.pairs (omega arith) in
    record { count = sym (ap length none); pairs = sym (all_outside _ c.args.start (c.args.last + 1) none); charge = refl }

pub overflow_sub-result : goal.overflow_sub-result
overflow_sub-result g c =
    let is = c.remove.ensures.pairs ∙ ap (λ m. without m c.args.last) c.remove_range.ensures.pairs
    ∙ outside-last 0 (2 ^ 64) c.args.self.now.pairs c.args.start c.args.last c.law_ordered.ensures (omega arith) in
    let count = parts_length c.args.self.now.pairs c.args.start (c.args.last + 1) in
    let size = ap length is in
    omega (arith, count, size, c.value_count-before.ensures, c.value_count.ensures)

pub returns-clause-count : goal.returns-clause-count
returns-clause-count g c =
    let is = c.remove.ensures.pairs ∙ ap (λ m. without m c.args.last) c.remove_range.ensures.pairs
    ∙ outside-last 0 (2 ^ 64) c.args.self.now.pairs c.args.start c.args.last c.law_ordered.ensures (omega arith) in
    let count = parts_length c.args.self.now.pairs c.args.start (c.args.last + 1) in
    let size = ap length is in
    omega (arith, count, size, c.value_count-before.ensures, c.value_count.ensures)

pub returns-clause-pairs : goal.returns-clause-pairs
returns-clause-pairs g c =
    c.remove.ensures.pairs ∙ ap (λ m. without m c.args.last) c.remove_range.ensures.pairs
    ∙ outside-last 0 (2 ^ 64) c.args.self.now.pairs c.args.start c.args.last c.law_ordered.ensures (omega arith)

pub returns-clause-charge : goal.returns-clause-charge
returns-clause-charge g c = moves_trans _ _ _ _ _ _ c.remove_range.ensures.charge c.remove.ensures.charged
