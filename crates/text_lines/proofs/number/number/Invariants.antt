use Rattle.text_lines.proofs.Numbers.{IsFront}
use Rattle.text_lines.proofs.number.number.Given as goal

abbrev pub invariant-loop-byte : goal.invariant-loop-byte
invariant-loop-byte l = IsFront l.word l.byte-index l.n
