use Rattle.std.proofs.Common.{ℕ, ◌+◌, ◌^◌, ap, sym, arith}
use Rattle.spec_map.specs.Map.{Pairs}
use Rattle.spec_map.specs.Near.{first_of}
use Rattle.spec_map.proofs.RangeLaws.{between-crossed}
use Rattle.share_machine.proofs.ascending.pair_above.Goals as goal

pub returns-then-key-eq18446744073709551615 : goal.returns-then-key-eq18446744073709551615
returns-then-key-eq18446744073709551615 g c = λ m has.
    ap (λ (es : Pairs ℕ). first_of es) (sym (between-crossed (c.args.key + 1) (2 ^ 64) m (omega (arith, c.if-key-eq18446744073709551615.true))))
