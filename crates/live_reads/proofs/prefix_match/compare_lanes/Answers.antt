use Rattle.std.proofs.Common.{◌≡◌, ℕ, ◌+◌, ◌-◌, ◌*◌, ◌%◌, ◌^◌, ◌<◌, length, sym, ap, ◌∙◌, arith, rules}
use Rattle.std.specs.Int.RustNames.{bit_and}
use Rattle.std.specs.Int.Count.{count_trailing_zeros}
use Rattle.live_layout.specs.Words.{lane}
use Rattle.live_reads.proofs.Bytes.{all_alike, parts, parts_there, alike_before}
use Rattle.live_reads.proofs.prefix_match.compare_lanes.Goals as goal

pub returns-then-others-eq0 : goal.returns-then-others-eq0
returns-then-others-eq0 c = λ form prefix h.
    let all = c.prefix_len-deep.ensures.is form prefix h in
    let short = h.short in
    let alike = all_alike c.args.head c.args.key c.prefix_len-deep.result c.other_lanes.result c.other_lanes.type_inv c.prefix_len-deep.ensures.few c.other_lanes.ensures.same c.other_lanes.ensures.other c.if-others-eq0.true in (
      omega (arith, short, all),
      λ j l. sym (h.bytes j l) ∙ alike j (omega (arith, l, all)),
    )

pub overflow_sub-result-2 : goal.overflow_sub-result-2
overflow_sub-result-2 c =
    let few = c.prefix_len-deep.ensures.few in
    let p = parts c.args.head c.args.key c.prefix_len-deep.result c.other_lanes.result c.other_lanes.type_inv few c.other_lanes.ensures.same c.other_lanes.ensures.other c.if-others-eq0.false in
    let high = p.1 in
    omega (arith, high, few)

pub lane_of-requires : goal.lane_of-requires
lane_of-requires c =
    let few = c.prefix_len-deep.ensures.few in
    let p = parts c.args.head c.args.key c.prefix_len-deep.result c.other_lanes.result c.other_lanes.type_inv few c.other_lanes.ensures.same c.other_lanes.ensures.other c.if-others-eq0.false in
    let high = p.1 in
    omega (arith, high, few)

pub returns : goal.returns
returns c = λ form prefix h.
    let all = c.prefix_len-deep.ensures.is form prefix h in
    let few = c.prefix_len-deep.ensures.few in
    let f = count_trailing_zeros 64 (bit_and c.other_lanes.result ((1 * 2 ^ (c.prefix_len-deep.result + 1) % 18446744073709551616) - 2)) in
    let p = parts c.args.head c.args.key c.prefix_len-deep.result c.other_lanes.result c.other_lanes.type_inv few c.other_lanes.ensures.same c.other_lanes.ensures.other c.if-others-eq0.false in
    let low = p.0 in
    let high = p.1 in
    let other = parts_there c.args.head c.args.key c.prefix_len-deep.result c.other_lanes.result c.other_lanes.type_inv few c.other_lanes.ensures.same c.other_lanes.ensures.other c.if-others-eq0.false in
    let before = alike_before c.args.head c.args.key c.prefix_len-deep.result c.other_lanes.result c.other_lanes.type_inv few c.other_lanes.ensures.same c.other_lanes.ensures.other c.if-others-eq0.false in
    let inside : 8 - (9 - f) < length prefix = omega (arith, low, high, few, all) in
    let back : 8 - (9 - f) + 1 ≡ f = omega (arith, low, high, few) in (
      omega (arith, low, high, few),
      omega (arith, low),
      inside,
      sym (h.bytes (8 - (9 - f)) inside) ∙ (ap (λ (z : ℕ). lane c.args.head z) back ∙ sym c.lane_of.ensures),
      search rules,
      λ e. other (sym c.lane_of.ensures ∙ e),
      λ j l. sym (h.bytes j (omega (arith, l, inside))) ∙ before j (omega (arith, l, back)),
    )
