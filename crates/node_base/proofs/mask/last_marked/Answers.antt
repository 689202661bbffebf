use Rattle.std.proofs.Common.{arith, ◌-◌, ◌*◌, ◌/◌, refl, inl, inr}
use Rattle.std.proofs.lemmas.Bool.{cases_lt}
use Rattle.node_base.proofs.MarkLaws.{none_marked_below, last_marked_is}
use Rattle.node_base.proofs.mask.last_marked.Goals as goal

pub returns-then-word-ne0-clause-order : goal.returns-then-word-ne0-clause-order
returns-then-word-ne0-clause-order c =
    let m = last_marked_is c.args.words.now c.loop-at.at ((c.loop-at.at - 1) / 64 * 64) _ refl c.loop-at-test.true refl c.ilog2.result c.ilog2.ensures.power_le c.ilog2.ensures.next_power_gt in
    omega (arith, m.0, c.loop-at.invariant.0)

pub returns-then-word-ne0-clause-here : goal.returns-then-word-ne0-clause-here
returns-then-word-ne0-clause-here c =
    (last_marked_is c.args.words.now c.loop-at.at ((c.loop-at.at - 1) / 64 * 64) _ refl c.loop-at-test.true refl c.ilog2.result c.ilog2.ensures.power_le c.ilog2.ensures.next_power_gt).1

pub returns-then-word-ne0-clause-free : goal.returns-then-word-ne0-clause-free
returns-then-word-ne0-clause-free c = λ i more less.
    let m = last_marked_is c.args.words.now c.loop-at.at ((c.loop-at.at - 1) / 64 * 64) _ refl c.loop-at-test.true refl c.ilog2.result c.ilog2.ensures.power_le c.ilog2.ensures.next_power_gt in
    elim (cases_lt i c.loop-at.at) [ inl inside ↦ m.2 i more inside | inr past ↦ c.loop-at.invariant.1 i past less ]

pub loop-at-preserved : goal.loop-at-preserved
loop-at-preserved c = (
  omega (arith, c.loop-at.invariant.0),
  λ i from less.
      elim (cases_lt i c.loop-at.at) [
        | inl inside ↦ none_marked_below c.args.words.now c.loop-at.at ((c.loop-at.at - 1) / 64 * 64) _ refl c.loop-at-test.true refl c.if-word-ne0.false i from inside
        | inr past ↦ c.loop-at.invariant.1 i past less
      ],
)
