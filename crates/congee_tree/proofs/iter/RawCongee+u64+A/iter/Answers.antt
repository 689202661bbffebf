use Rattle.std.proofs.Common.{◌^◌, ◌∙◌, arith}
use Rattle.spec_map.proofs.RangeLaws.{between-all}
use Rattle.congee_tree.proofs.iter.RawCongee+u64+A.iter.Goals as goal

pub returns : goal.returns
returns g c = c.iter_range_inclusive.ensures ∙ between-all 0 (2 ^ 64) 0 (2 ^ 64) c.args.self.now.pairs c.law_ordered.ensures (omega arith) (omega arith)
