use Rattle.std.proofs.Common.{arith, w64}
use Rattle.std.proofs.lemmas.Nat.Bits.{bit_at_clear_same, bit_at_clear_other}
use Rattle.live_layout.proofs.places.without_bit.Goals as goal

pub returns-clause-here : goal.returns-clause-here
returns-clause-here c = bit_at_clear_same w64 c.args.word c.args.bit (omega arith)

pub returns-clause-others : goal.returns-clause-others
returns-clause-others c = λ k l n. bit_at_clear_other w64 c.args.word c.args.bit (omega arith) k l n
