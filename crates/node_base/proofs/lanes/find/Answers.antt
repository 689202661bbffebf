use Rattle.std.proofs.Common.{◌%◌, ◌^◌, ◌∙◌, ap, arith, eqb, w8}
use Rattle.std.proofs.lemmas.Simd.{bitmask_splat}
use Rattle.node_base.proofs.LaneLaws.{marks_none, marks_some}
use Rattle.node_base.proofs.lanes.find.Goals as goal

pub returns-then-found-eq0 : goal.returns-then-found-eq0
returns-then-found-eq0 c =
    let m = bitmask_splat w8 eqb c.args.bytes.now 16 c.args.byte c.told-bytes (omega arith) in
    marks_none _ _ _ _ (omega (arith, c.told-bytes, c.requires)) (c.low_bits-found.ensures ∙ ap (λ n. n % 2 ^ c.args.count) m) c.if-found-eq0.true

pub returns-else-found-eq0 : goal.returns-else-found-eq0
returns-else-found-eq0 c =
    let m = bitmask_splat w8 eqb c.args.bytes.now 16 c.args.byte c.told-bytes (omega arith) in
    marks_some _ _ _ _ (omega (arith, c.told-bytes, c.requires)) (omega (arith, c.requires)) (c.low_bits-found.ensures ∙ ap (λ n. n % 2 ^ c.args.count) m) (omega (arith, c.if-found-eq0.false))
