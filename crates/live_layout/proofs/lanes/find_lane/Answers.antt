use Rattle.std.proofs.Common.{rules, arith, ap, w64, ◌≡◌, ◌∙◌, ◌-◌, ◌*◌, ◌%◌, ◌^◌, sym, inl, inr, ◌<◌}
use Rattle.std.specs.Int.{bit_at}
use Rattle.std.specs.Int.RustNames.{bit_and}
use Rattle.std.specs.Int.Count.{count_trailing_zeros}
use Rattle.std.proofs.lemmas.Bool.{cases_eq}
use Rattle.std.proofs.lemmas.Nat.{and_le_l}
use Rattle.std.proofs.lemmas.Nat.Bits.{bit_at-zero, bit_at-trailing_zeros}
use Rattle.live_layout.specs.Words.{lane}
use Rattle.live_layout.proofs.LaneLaws.{powers_rise, mask_is, bit_inside, set_inside}
use Rattle.live_layout.proofs.lanes.find_lane.Goals as goal

pub overflow_sub-found : goal.overflow_sub-found
overflow_sub-found c = powers_rise c.args.from c.args.to c.requires.0 c.requires.1

pub returns-then-found-eq0 : goal.returns-then-found-eq0
returns-then-found-eq0 c = record {
  there = search rules;
  none = λ k l h same.
      (let m = c.equal_lanes.result in
      let f : bit_and m (2 ^ c.args.to - 2 ^ c.args.from) ≡ 0 = ap (bit_and m) (sym (mask_is c.args.from c.args.to c.requires.0 c.requires.1)) ∙ c.if-found-eq0.true in
      let one = c.equal_lanes.ensures.equal k (omega (arith, h, c.requires)) same in
      let zero = sym (bit_inside m c.args.from c.args.to k l h) ∙ ap (λ x. bit_at x k) f ∙ bit_at-zero k in
      omega (arith, one, zero));
}

pub returns-else-found-eq0 : goal.returns-else-found-eq0
returns-else-found-eq0 c =
    let m = c.equal_lanes.result in
    let e = mask_is c.args.from c.args.to c.requires.0 c.requires.1 in
    let found = bit_and m ((1 * 2 ^ c.args.to % 18446744073709551616) - (1 * 2 ^ c.args.from % 18446744073709551616)) in
    let j = count_trailing_zeros 64 found in
    let small : found < 18446744073709551616 = omega (arith, and_le_l m ((1 * 2 ^ c.args.to % 18446744073709551616) - (1 * 2 ^ c.args.from % 18446744073709551616)), c.equal_lanes.type_inv) in
    let z = bit_at-trailing_zeros w64 found (omega (arith, c.if-found-eq0.false)) small in
    let i = set_inside m c.args.from c.args.to j (ap (λ x. bit_at (bit_and m x) j) (sym e) ∙ z.1) in
    record {
      there = (
        i.0,
        i.1,
        elim (cases_eq (lane c.args.word j) c.args.byte) [
          | inl same ↦ same
          | inr other ↦ absurd (let zero = c.equal_lanes.ensures.other j (omega (arith, i.1, c.requires)) other in let one = i.2 in omega (arith, zero, one))
        ],
      );
      none = tt;
    }
