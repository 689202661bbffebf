use Rattle.std.proofs.Common.{◌≡◌, arith, sym, ◌∙◌}
use Rattle.text_lines.proofs.ValueLemmas.{one_number}
use Rattle.text_run.proofs.command.next_limit.Goals as goal

pub returns-then-limit-gt-MAX_PAIRS-clause-none : goal.returns-then-limit-gt-MAX_PAIRS-clause-none
returns-then-limit-gt-MAX_PAIRS-clause-none c n rest fits words =
    let same : c.in_ok-limit.limit ≡ n = one_number c.in_ok-limit.limit n _ rest c.in_ok-limit.ensures.range (omega arith) (sym c.in_ok-limit.ensures.found ∙ words) in
    omega (arith, same, c.if-limit-gt-MAX_PAIRS.true)
