use Rattle.std.proofs.Common.{rules, arith, ap, get_or, length, nat_lt, w8, ℕ, ◌≡◌, ◌<◌, ◌≤◌, ◌∙◌, sym, subst}
use Rattle.std.specs.Int.{bit_at}
use Rattle.std.proofs.lemmas.Bool.{lt-ltb, le-ltb}
use Rattle.std.proofs.lemmas.Simd.{bitmask_splat}
use Rattle.live_layout.specs.Words.{lane}
use Rattle.live_scans.proofs.Afters.{lane_set, lane_clear}
use Rattle.live_scans.proofs.after.less_lanes.Goals as goal

pub returns-clause-less : goal.returns-clause-less
unfolding lane
returns-clause-less c = λ k l low.
    let bs = c.to_le_bytes-lanes.result in
    let long : length bs ≡ 8 = search rules in
    let m = bitmask_splat w8 nat_lt bs 8 c.args.byte long (omega arith) in
    let is = ap (λ x. get_or x k 0) c.to_le_bytes-lanes.ensures in
    ap (λ x. bit_at x k) m ∙ lane_set (λ (x : ℕ). nat_lt x c.args.byte) bs k (omega (arith, long, l)) (lt-ltb (get_or bs k 0) c.args.byte (subst (λ (z : ℕ). z < c.args.byte) (sym is) low))

pub returns-clause-other : goal.returns-clause-other
unfolding lane
returns-clause-other c = λ k l high.
    let bs = c.to_le_bytes-lanes.result in
    let long : length bs ≡ 8 = search rules in
    let m = bitmask_splat w8 nat_lt bs 8 c.args.byte long (omega arith) in
    let is = ap (λ x. get_or x k 0) c.to_le_bytes-lanes.ensures in
    ap (λ x. bit_at x k) m ∙ lane_clear (λ (x : ℕ). nat_lt x c.args.byte) bs k (omega (arith, long, l)) (le-ltb (get_or bs k 0) c.args.byte (subst (λ (z : ℕ). c.args.byte ≤ z) (sym is) high))
