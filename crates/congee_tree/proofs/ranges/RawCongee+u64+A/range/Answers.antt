use Rattle.std.proofs.Common.{◌≡◌, ◌∙◌, ap, sym, arith, length}
use Rattle.std.specs.Int.{from_be_bytes, w64}
use Rattle.spec_map.proofs.RangeLaws.{between-crossed}
use Rattle.congee_tree.proofs.ranges.RawCongee+u64+A.range.Goals as goal

pub returns-then-past-eq0-clause-count : goal.returns-then-past-eq0-clause-count
returns-then-past-eq0-clause-count g c =
    let past : from_be_bytes w64 c.args.end.now ≡ 0 = sym c.from_be_bytes-past.ensures ∙ c.if-past-eq0.true in
    let none = ap length (between-crossed (from_be_bytes w64 c.args.start.now) (from_be_bytes w64 c.args.end.now) c.args.self.now.pairs (omega (arith, past))) in
    omega (arith, none)
