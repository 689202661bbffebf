use Rattle.std.proofs.Common.{rules, arith, ap, w64, ◌∙◌, sym, inl, inr}
use Rattle.std.specs.Int.{bit_at}
use Rattle.std.specs.Int.RustNames.{bit_and}
use Rattle.std.specs.Int.Count.{count_trailing_zeros}
use Rattle.std.proofs.lemmas.Bool.{cases_lt}
use Rattle.std.proofs.lemmas.Nat.Bits.{bit_at-trailing_zeros}
use Rattle.live_layout.specs.Words.{lane}
use Rattle.live_layout.proofs.LaneLaws.{powers_rise, mask_is, bit_inside, set_inside}
use Rattle.live_scans.proofs.Leasts.{zero_one, one_more, smaller, none_left}
use Rattle.live_scans.proofs.after.least_lane.Goals as goal

pub overflow_sub-mask : goal.overflow_sub-mask
overflow_sub-mask c = powers_rise c.args.from c.args.to c.requires.0 c.requires.1

pub loop-mask-init : goal.loop-mask-init
loop-mask-init c =
    let m = c.more_lanes.result in
    let e = mask_is c.args.from c.args.to c.requires.0 c.requires.1 in
    let short = c.requires.1 in
    record {
      left = record {
        good = tt;
        set = λ k one.
            let i = set_inside m c.args.from c.args.to k (ap (λ x. bit_at (bit_and m x) k) (sym e) ∙ one) in
            let under = i.1 in
            (i.0, i.1, elim (cases_lt (lane c.args.word k) c.args.least) [ inl less ↦ absurd (zero_one (bit_at m k) (c.more_lanes.ensures.other k (omega (arith, under, short)) less) i.2) | inr ge ↦ ge ], tt);
        left = λ k l h ge. inl (ap (λ x. bit_at (bit_and m x) k) e ∙ (bit_inside m c.args.from c.args.to k l h ∙ c.more_lanes.ensures.more k (omega (arith, h, short)) ge));
      };
    }

pub lane_of-byte-requires : goal.lane_of-byte-requires
lane_of-byte-requires c =
    let mask = c.loop-mask.mask in
    let z = bit_at-trailing_zeros w64 mask (omega (arith, c.loop-mask-test.true)) (search rules) in
    let s = c.loop-mask.invariant.left.set (count_trailing_zeros 64 mask) z.1 in
    let under = s.1 in
    let short = c.requires.1 in
    omega (arith, under, short)

pub loop-mask-smaller : goal.loop-mask-smaller
loop-mask-smaller c =
    let mask = c.loop-mask.mask in
    let z = bit_at-trailing_zeros w64 mask (omega (arith, c.loop-mask-test.true)) (search rules) in
    smaller (lane c.args.word) c.args.from c.args.to c.args.least mask c.loop-mask.best c.loop-mask.invariant.left c.requires.1 (count_trailing_zeros 64 mask) c.lane_of-byte.result c.less_lanes-mask.result z.1 c.lane_of-byte.ensures c.less_lanes-mask.ensures.less c.less_lanes-mask.ensures.other (search rules)

pub loop-mask-preserved : goal.loop-mask-preserved
loop-mask-preserved c =
    let mask = c.loop-mask.mask in
    let z = bit_at-trailing_zeros w64 mask (omega (arith, c.loop-mask-test.true)) (search rules) in
    record { left = one_more (lane c.args.word) c.args.from c.args.to c.args.least mask c.loop-mask.best c.loop-mask.invariant.left c.requires.1 (count_trailing_zeros 64 mask) c.lane_of-byte.result c.less_lanes-mask.result z.1 c.lane_of-byte.ensures c.less_lanes-mask.ensures.less c.less_lanes-mask.ensures.other }

pub returns : goal.returns
returns c = none_left (lane c.args.word) c.args.from c.args.to c.args.least c.loop-mask.mask c.loop-mask.best c.loop-mask.invariant.left c.requires.1 c.loop-mask-test.false
