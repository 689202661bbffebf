use Rattle.std.proofs.Common.{◌≡◌, ◌<◌, length, get_or, inl, inr, arith}
use Rattle.std.proofs.lemmas.Bool.{cases_lt, iff_false}
use Rattle.std.proofs.lemmas.Bool.Decides.{nat_tests}
use Rattle.text_lines.proofs.Numbers.{no_number_empty, no_leading_zero, number_digit, front_none, front_more, front_too_large, front_whole}
use Rattle.text_lines.proofs.number.number.Goals as goal

pub returns-then-is_empty-clause-none : goal.returns-then-is_empty-clause-none
returns-then-is_empty-clause-none c n h e = no_number_empty _ (grind (arith, nat_tests)) n h e

pub returns-then-has_leading_zero-clause-none : goal.returns-then-has_leading_zero-clause-none
returns-then-has_leading_zero-clause-none c n h e =
    let zero = c.has_leading_zero.ensures.0 c.if-has_leading_zero.true in
    no_leading_zero _ zero.1 zero.0 n h e

pub returns-then-byte-lt48-clause-none : goal.returns-then-byte-lt48-clause-none
returns-then-byte-lt48-clause-none c n h e = omega (arith, number_digit c.args.word.now c.loop-byte.byte-index (omega arith) n h e)

pub returns-then-byte-gt57-clause-none : goal.returns-then-byte-gt57-clause-none
returns-then-byte-gt57-clause-none c n h e = omega (arith, number_digit c.args.word.now c.loop-byte.byte-index (omega arith) n h e)

pub returns-then-n-digit-clause-none : goal.returns-then-n-digit-clause-none
returns-then-n-digit-clause-none c = front_too_large c.args.word.now c.loop-byte.byte-index c.loop-byte.n c.loop-byte.invariant (omega arith) (omega arith) (omega arith) (omega arith)

pub loop-byte-init : goal.loop-byte-init
loop-byte-init c = front_none c.args.word.now

pub loop-byte-preserved : goal.loop-byte-preserved
loop-byte-preserved c = front_more c.args.word.now c.loop-byte.byte-index c.loop-byte.n c.loop-byte.invariant (omega arith) (omega arith) (omega arith) _ (omega arith)

pub returns-clause-found : goal.returns-clause-found
returns-clause-found c =
    let i : c.loop-byte.byte-index ≡ length c.args.word.now = omega arith in
    let some : 0 < length c.args.word.now = grind (arith, nat_tests) in
    let none = iff_false c.has_leading_zero.ensures c.if-has_leading_zero.false in
    let first : get_or c.args.word.now 0 0 ≡ 48 → length c.args.word.now ≡ 1 = λ zero. elim (cases_lt 1 (length c.args.word.now)) [
      | inl long ↦ absurd (none (long, zero))
      | inr short ↦ omega (arith, short, some)
    ] in
    front_whole c.args.word.now c.loop-byte.n (rw i at c.loop-byte.invariant) some first (omega arith)
