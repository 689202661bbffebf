use Rattle.std.proofs.Common.{rules, arith, ap, get_or, length, eqb, w8, ◌≡◌, ◌∙◌, sym}
use Rattle.std.specs.Int.{bit_at}
use Rattle.std.proofs.lemmas.Simd.{bitmask_splat}
use Rattle.live_layout.specs.Words.{lane}
use Rattle.live_layout.proofs.LaneLaws.{lane_equal, lane_other}
use Rattle.live_layout.proofs.lanes.equal_lanes.Goals as goal

pub returns-clause-equal : goal.returns-clause-equal
unfolding lane
returns-clause-equal c = λ k l same.
    let bs = c.to_le_bytes-lanes.result in
    let long : length bs ≡ 8 = search rules in
    let m = bitmask_splat w8 eqb bs 8 c.args.byte long (omega arith) in
    ap (λ x. bit_at x k) m ∙ lane_equal bs c.args.byte k (omega (arith, long, l)) (ap (λ x. get_or x k 0) c.to_le_bytes-lanes.ensures ∙ same)

pub returns-clause-other : goal.returns-clause-other
unfolding lane
returns-clause-other c = λ k l differs.
    let bs = c.to_le_bytes-lanes.result in
    let long : length bs ≡ 8 = search rules in
    let m = bitmask_splat w8 eqb bs 8 c.args.byte long (omega arith) in
    ap (λ x. bit_at x k) m ∙ lane_other bs c.args.byte k (omega (arith, long, l)) (λ e. differs (sym (ap (λ x. get_or x k 0) c.to_le_bytes-lanes.ensures) ∙ e))
