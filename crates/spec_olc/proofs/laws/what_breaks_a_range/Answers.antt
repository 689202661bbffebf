use Rattle.spec_olc.proofs.ScanBreaks.{breaks_absent, breaks_end, breaks_many, breaks_passed, breaks_twice}
use Rattle.spec_olc.proofs.laws.what_breaks_a_range.Goals as goal

pub returns-clause-absent : goal.returns-clause-absent
returns-clause-absent c = λ start end limit key value x. breaks_absent start end limit x key value

pub returns-clause-end : goal.returns-clause-end
returns-clause-end c = λ start end limit value x. breaks_end start end limit x value

pub returns-clause-twice : goal.returns-clause-twice
returns-clause-twice c = λ start end limit key v u x y. breaks_twice start end limit x y key v u

pub returns-clause-too_many : goal.returns-clause-too_many
returns-clause-too_many c = λ start end limit key value x. breaks_many start end limit x key value

pub returns-clause-passed_over : goal.returns-clause-passed_over
returns-clause-passed_over c = λ start end limit key x y. breaks_passed start end limit x y key
