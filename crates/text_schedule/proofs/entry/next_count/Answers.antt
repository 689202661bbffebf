use Rattle.std.proofs.Common.{◌≡◌, arith, sym, ◌∙◌}
use Rattle.text_lines.proofs.ValueLemmas.{one_number}
use Rattle.text_schedule.proofs.entry.next_count.Goals as goal

pub returns-then-count-eq0-clause-none : goal.returns-then-count-eq0-clause-none
returns-then-count-eq0-clause-none c n rest some fits words =
    let same : c.in_ok-count.count ≡ n = one_number c.in_ok-count.count n _ rest c.in_ok-count.ensures.range (omega arith) (sym c.in_ok-count.ensures.found ∙ words) in
    omega (arith, same, c.if-count-eq0.true)

pub returns-then-count-gt-MAX_STEPS-clause-none : goal.returns-then-count-gt-MAX_STEPS-clause-none
returns-then-count-gt-MAX_STEPS-clause-none c n rest some fits words =
    let same : c.in_ok-count.count ≡ n = one_number c.in_ok-count.count n _ rest c.in_ok-count.ensures.range (omega arith) (sym c.in_ok-count.ensures.found ∙ words) in
    omega (arith, same, c.if-count-gt-MAX_STEPS.true)
