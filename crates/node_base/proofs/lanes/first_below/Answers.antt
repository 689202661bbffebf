use Rattle.std.proofs.Common.{◌∙◌, ap, sym, arith, ltb, w8}
use Rattle.std.specs.Int.Count.{count_trailing_zeros}
use Rattle.std.proofs.lemmas.Simd.{bitmask_splat, leading_from_mask_l, trailing_mask_l}
use Rattle.node_base.proofs.lanes.first_below.Goals as goal

pub returns-then-found-eq0 : goal.returns-then-found-eq0
returns-then-found-eq0 c =
    let m = bitmask_splat w8 ltb c.args.bytes.now 16 c.args.limit c.told-bytes (omega arith) in
    sym (leading_from_mask_l (λ x. ltb x c.args.limit) c.args.bytes.now (sym m ∙ c.if-found-eq0.true) ∙ c.told-bytes)

pub returns-else-found-eq0 : goal.returns-else-found-eq0
returns-else-found-eq0 c =
    let m = bitmask_splat w8 ltb c.args.bytes.now 16 c.args.limit c.told-bytes (omega arith) in
    ap (count_trailing_zeros 64) m ∙ trailing_mask_l (λ x. ltb x c.args.limit) 64 c.args.bytes.now (omega (arith, c.told-bytes)) (omega (arith, m, c.if-found-eq0.false))
