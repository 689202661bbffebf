use Rattle.std.proofs.Common.{arith, ◌*◌, ◌/◌, ◌%◌, ◌^◌, bit_or, get_or, w64}
use Rattle.std.proofs.lemmas.Nat.Bits.{bit_at_set_same, bit_at_set_other}
use Rattle.node_base.proofs.MarkLaws.{marked-here, marked-other}
use Rattle.node_base.proofs.mask.mark.Goals as goal

pub returns-clause-here : goal.returns-clause-here
returns-clause-here c =
    let ws = c.args.words.now in
    let b = c.args.byte in
    marked-here ws b (bit_or (get_or ws (b / 64) 0) (1 * 2 ^ (b % 64) % 18446744073709551616)) 1 (omega (arith, c.told-words, c.ranges.byte.fits))
    (bit_at_set_same w64 (get_or ws (b / 64) 0) (b % 64) (omega arith))

pub returns-clause-others : goal.returns-clause-others
returns-clause-others c = λ i _ other.
    let ws = c.args.words.now in
    let b = c.args.byte in
    marked-other ws b i (bit_or (get_or ws (b / 64) 0) (1 * 2 ^ (b % 64) % 18446744073709551616)) (omega (arith, c.told-words, c.ranges.byte.fits))
    (λ j l n. bit_at_set_other w64 (get_or ws (b / 64) 0) (b % 64) (omega arith) j n) other
