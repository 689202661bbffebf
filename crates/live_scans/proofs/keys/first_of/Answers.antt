use Rattle.std.proofs.Common.{arith, refl, ◌^◌, ◌-◌}
use Rattle.live_scans.proofs.Uppers.{filled}
use Rattle.live_scans.proofs.Firsts.{begun}
use Rattle.live_scans.proofs.keys.first_of.Goals as goal

pub overflow_mul-begin : goal.overflow_mul-begin
overflow_mul-begin c =
    let f = filled c.args.key c.args.height c.args.byte c.upper.result (256 ^ (c.args.height - 1)) c.requires.0 c.requires.1 (omega arith) (omega arith) c.upper.ensures refl in
    let s = f.small in
    omega (arith, s)

pub overflow_add-begin : goal.overflow_add-begin
overflow_add-begin c =
    let f = filled c.args.key c.args.height c.args.byte c.upper.result (256 ^ (c.args.height - 1)) c.requires.0 c.requires.1 (omega arith) (omega arith) c.upper.ensures refl in
    let s = f.small in
    omega (arith, s)

pub overflow_mul-result : goal.overflow_mul-result
overflow_mul-result c =
    let f = filled c.args.key c.args.height c.args.byte c.upper.result c.span.result c.requires.0 c.requires.1 (omega arith) (omega arith) c.upper.ensures c.span.ensures in
    let s = f.fits in
    let o = f.some_span in
    omega (arith, s, o)

pub returns : goal.returns
returns c = begun c.args.key c.args.height c.args.byte c.upper.result c.span.result c.upper.ensures c.span.ensures
