use Rattle.std.proofs.Common.{◌∙◌, sym, arith, rules}
use Rattle.live_reads.proofs.prefix_match.compare.Goals as goal

pub returns-then-begins_alike : goal.returns-then-begins_alike
returns-then-begins_alike c = λ form prefix h.
    let all = c.prefix_len-deep.ensures.is form prefix h in
    let short = h.short in
    let alike = c.begins_alike.ensures (search rules) in
    (omega (arith, short, all), λ j l. sym (h.bytes j l) ∙ alike j (omega (arith, l, all)))
