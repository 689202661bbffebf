use Rattle.std.proofs.Common.{arith, inl, inr}
use Rattle.node_base.proofs.LaneLaws.{lanes_free}
use Rattle.std.proofs.lemmas.Bool.{cases_lt}
use Rattle.node_base.proofs.row.pass_free.Goals as goal

pub loop-at-preserved : goal.loop-at-preserved
loop-at-preserved c = (
  omega (arith, c.loop-at.invariant.0),
  λ b l m. elim (cases_lt b c.loop-at.at) [
    | inl before ↦ c.loop-at.invariant.1 b l before
    | inr from ↦ lanes_free c.args.limit c.args.index.now c.in-Some.lanes.now c.loop-at.at _ c.first_below-skip.result (omega (arith, c.loop-at-test.true, c.told-index)) c.in-Some.ensures.cases.same c.first_below-skip.ensures b from m
  ],
)

pub returns-then-skip-lt16-clause-free : goal.returns-then-skip-lt16-clause-free
returns-then-skip-lt16-clause-free c = λ b l m. elim (cases_lt b c.loop-at.at) [
  | inl before ↦ c.loop-at.invariant.1 b l before
  | inr from ↦ lanes_free c.args.limit c.args.index.now c.in-Some.lanes.now c.loop-at.at _ c.first_below-skip.result (omega (arith, c.loop-at-test.true, c.told-index)) c.in-Some.ensures.cases.same c.first_below-skip.ensures b from m
]
