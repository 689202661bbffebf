use Rattle.std.proofs.Common.{rules, arith, ap, get_or, length, ◌≡◌, ◌∙◌, sym}
use Rattle.live_layout.specs.Words.{lane}
use Rattle.live_reads.proofs.Bytes.{seven, lane_same, lane_differs}
use Rattle.live_reads.proofs.prefix_match.other_lanes.Goals as goal

pub returns-clause-same : goal.returns-clause-same
unfolding lane
returns-clause-same c = λ k l h same.
    let xs = c.to_le_bytes-lanes.result in
    let ys = c.to_be_bytes.result in
    let long : length xs ≡ 8 = search rules in
    let is = ap (λ x. get_or x k 0) c.to_be_bytes.ensures ∙ seven c.args.key k l h in
    lane_same xs ys (search rules) k (omega (arith, long, h)) (search rules) (ap (λ x. get_or x k 0) c.to_le_bytes-lanes.ensures ∙ (same ∙ sym is))

pub returns-clause-other : goal.returns-clause-other
unfolding lane
returns-clause-other c = λ k l h ne.
    let xs = c.to_le_bytes-lanes.result in
    let ys = c.to_be_bytes.result in
    let long : length xs ≡ 8 = search rules in
    let is = ap (λ x. get_or x k 0) c.to_be_bytes.ensures ∙ seven c.args.key k l h in
    lane_differs xs ys (search rules) k (omega (arith, long, h)) (search rules) (λ e. ne (sym (ap (λ x. get_or x k 0) c.to_le_bytes-lanes.ensures) ∙ (e ∙ is)))
