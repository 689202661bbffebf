use Rattle.std.proofs.Common.{◌-◌, ◌/◌, ◌*◌, ◌^◌, ◌≤◌, length, ap, arith, ◌∙◌}
use Rattle.olc_machine.proofs.Seeking.{first_byte_is}
use Rattle.olc_machine.proofs.ahead.first_byte.Goals as goal

pub returns : goal.returns
returns c =
    let p = c.args.base.now.prefix in
    let long = ap length c.prefix.ensures.bytes in
    let short : length p ≤ 7 = omega (arith, long, c.prefix.ensures.short) in
    let k = 8 * (7 - length p) in
    first_byte_is p c.args.start _ short
    (ap (λ d. d / 2 ^ (8 * (7 - length c.prefix.result.now))) c.saturating_sub.ensures ∙ ap (λ l. (c.args.start - c.args.first) / 2 ^ (8 * (7 - l))) long ∙ ap (λ x. (c.args.start - x) / 2 ^ k) c.requires)
