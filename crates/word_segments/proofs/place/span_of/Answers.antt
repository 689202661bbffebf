use Rattle.std.proofs.Common.{arith, ◌≤◌, ◌^◌, pow_mono}
use Rattle.word_segments.proofs.place.span_of.Goals as goal

pub returns : goal.returns
returns c = let small : 2 ^ c.args.shelf ≤ 549755813888 = (let le : c.args.shelf ≤ 39 = omega (arith, c.requires) in pow_mono le) in (omega (arith, small), omega (arith, small))
