use Rattle.std.proofs.Common.{take, ◌%◌, ◌^◌, ◌∙◌, ap, arith, ltb}
use Rattle.std.specs.Int.RustNames.{count_ones}
use Rattle.std.proofs.Common.{w8}
use Rattle.std.proofs.lemmas.Simd.{bitmask_splat, ones-mask_l}
use Rattle.node_base.proofs.LaneLaws.{mask_first-map}
use Rattle.node_base.proofs.lanes.rank.Goals as goal

pub returns : goal.returns
returns c =
    let m = bitmask_splat w8 ltb c.args.bytes.now 16 c.args.byte c.told-bytes (omega arith) in
    let k = mask_first-map (λ x. ltb x c.args.byte) c.args.bytes.now c.args.count (omega (arith, c.told-bytes, c.requires)) in
    ap count_ones (c.low_bits-below.ensures ∙ ap (λ n. n % 2 ^ c.args.count) m ∙ k) ∙ ones-mask_l (λ x. ltb x c.args.byte) (take c.args.count c.args.bytes.now)
