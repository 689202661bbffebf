use Rattle.std.proofs.Common.{◌∙◌, ◌^◌, ap, arith}
use Rattle.spec_map.specs.Near.{first_of}
use Rattle.spec_map.proofs.RangeLaws.{between-all}
use Rattle.congee_tree.proofs.tree.RawCongee.first.Goals as goal

pub returns : goal.returns
returns g c = c.ceiling.ensures ∙ ap (λ es. first_of es) (between-all 0 (2 ^ 64) 0 (2 ^ 64) c.args.self.now.pairs c.law_ordered.ensures (omega arith) (omega arith))
