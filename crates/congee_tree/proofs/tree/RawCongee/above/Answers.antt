use Rattle.std.proofs.Common.{◌+◌, ◌^◌, ap, sym, arith}
use Rattle.spec_map.specs.Near.{first_of}
use Rattle.spec_map.proofs.RangeLaws.{between-crossed}
use Rattle.congee_tree.proofs.tree.RawCongee.above.Goals as goal

pub returns-then-key-eq18446744073709551615 : goal.returns-then-key-eq18446744073709551615
returns-then-key-eq18446744073709551615 g c = ap (λ es. first_of es) (sym (between-crossed (c.args.key + 1) (2 ^ 64) c.args.self.now.pairs (omega (arith, c.if-key-eq18446744073709551615.true))))
