use Rattle.std.proofs.Common.{rules, arith, ◌/◌, ◌%◌, ◌^◌, get_or, refl, inl, inr}
use Rattle.std.proofs.lemmas.Bool.{cases_lt}
use Rattle.node_base.proofs.MarkLaws.{none_marked, first_marked, mark-beyond}
use Rattle.node_base.proofs.mask.next_marked.Goals as goal

pub overflow_cast-result-then-word-ne0-2 : goal.overflow_cast-result-then-word-ne0-2
overflow_cast-result-then-word-ne0-2 c =
    let ws = c.args.words.now in
    let f = first_marked ws c.loop-at.at (get_or ws (c.loop-at.at / 64) 0 / 2 ^ (c.loop-at.at % 64)) refl c.if-word-ne0.true (search rules) in
    omega (arith, f.0, c.loop-at-test.true)

pub returns-then-word-ne0-clause-here : goal.returns-then-word-ne0-clause-here
returns-then-word-ne0-clause-here c =
    let ws = c.args.words.now in
    (first_marked ws c.loop-at.at (get_or ws (c.loop-at.at / 64) 0 / 2 ^ (c.loop-at.at % 64)) refl c.if-word-ne0.true (search rules)).1

pub returns-then-word-ne0-clause-free : goal.returns-then-word-ne0-clause-free
returns-then-word-ne0-clause-free c = λ i l m.
    let ws = c.args.words.now in
    let f = first_marked ws c.loop-at.at (get_or ws (c.loop-at.at / 64) 0 / 2 ^ (c.loop-at.at % 64)) refl c.if-word-ne0.true (search rules) in
    elim (cases_lt i c.loop-at.at) [ inl before ↦ c.loop-at.invariant.1 i l before | inr from ↦ f.2 i from m ]

pub loop-at-preserved : goal.loop-at-preserved
loop-at-preserved c =
    let ws = c.args.words.now in (
      omega (arith, c.loop-at.invariant.0),
      λ i l m.
          elim (cases_lt i c.loop-at.at) [
            | inl before ↦ c.loop-at.invariant.1 i l before
            | inr from ↦ none_marked ws c.loop-at.at (get_or ws (c.loop-at.at / 64) 0 / 2 ^ (c.loop-at.at % 64)) refl c.if-word-ne0.false i from m
          ],
    )

pub returns-clause-none : goal.returns-clause-none
returns-clause-none c = λ i l. elim (cases_lt i c.loop-at.at) [ inl before ↦ c.loop-at.invariant.1 i l before | inr from ↦ mark-beyond c.args.words.now c.told-words i (omega (arith, from, c.loop-at-test.false)) ]
