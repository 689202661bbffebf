use Rattle.std.proofs.Common.{◌≡◌, ◌≤◌, ◌%◌, ◌^◌, ◌*◌, ◌∙◌, arith}
use Rattle.std.proofs.lemmas.Nat.{and_mask}
use Rattle.std.proofs.Math.Nat.{mod-eq_of_lt, pow-le-pow_right}
use Rattle.node_base.proofs.lanes.low_bits.Goals as goal

pub returns : goal.returns
returns c =
    let b : 2 ^ c.args.count ≤ 2 ^ 16 = pow-le-pow_right {n = 2} (omega arith) c.requires in
    let e : 1 * 2 ^ c.args.count % 18446744073709551616 ≡ 2 ^ c.args.count = mod-eq_of_lt (omega (arith, b)) ∙ omega arith in
    rw e (and_mask c.args.mask c.args.count)
