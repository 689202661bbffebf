use Rattle.std.proofs.Common.{◌≡◌, ℕ, Some, ap, subst, ◌∙◌}
use Rattle.spec_node.specs.declared.child.Child.TheVariants.{Node as below_at}
use Rattle.spec_olc.specs.Calls.{bytes_of}
use Rattle.spec_olc.specs.Meaning.{child_of, in_some}
use Rattle.olc_descend.proofs.Events.{test_false}
use Rattle.olc_descend.proofs.Looks.{child_means}
use Rattle.olc_seek.specs.inner.Sought.{under}
use Rattle.olc_seek.proofs.Readings.{nothing_means}
use Rattle.olc_seek.proofs.Steps.{here_goes, here_nowhere, here_stops, here_tidies}
use Rattle.olc_seek.proofs.checking.check.Goals as goal

pub returns-then-not-has_word : goal.returns-then-not-has_word
returns-then-not-has_word g c = λ env.
    rw (c.forgets.ensures.task, c.forgets.ensures.event, c.report-report.ensures)
    (here_stops g.P.Payload.always_shared g.P.HasMeaning.same_meaning _ c.args.store.now.root c.args.pin _ c.args.cleanup _ c.requires.placed c.args.path _ c.node_at-node.ensures c.requires.facts
    (λ (e : c.node_at-node.result.now.word ≡ c.args.path.here.word). test_false c.has_word.result c.if-not-has_word.true (c.has_word.ensures.1 e)))

pub returns-in-Nothing : goal.returns-in-Nothing
returns-in-Nothing g c = λ env.
    rw (c.going-in-Nothing.ensures, c.report-report-2.ensures)
    (here_nowhere g.P.Payload.always_shared g.P.HasMeaning.same_meaning _ c.args.store.now.root c.args.pin _ c.args.cleanup _ c.requires.placed c.args.path _ c.node_at-node.ensures (c.has_word.ensures.0 c.if-not-has_word.false) c.requires.facts
    (nothing_means g.P.HasMeaning.meaning c.node_at-node.result.now.node _ _ c.args.cleanup.length c.args.path c.key.ensures c.in-Nothing.ensures))

pub returns-in-Below : goal.returns-in-Below
returns-in-Below g c = λ env.
    let n = c.node_at-node.result.now.node in
    let meaning = g.P.HasMeaning.meaning in
    let there = subst (λ (k : ℕ). under n (bytes_of k) ≡ Some (below_at c.in-Below.slot)) c.key.ensures c.in-Below.ensures.1 in
    rw (c.going-in-Below.ensures, c.report-report-2.ensures)
    (here_goes g.P.Payload.always_shared g.P.HasMeaning.same_meaning _ c.args.store.now.root c.args.pin _ c.args.cleanup _ c.requires.placed c.args.path _ c.node_at-node.ensures (c.has_word.ensures.0 c.if-not-has_word.false) c.in-Below.slot c.requires.facts
    (child_means meaning n _ ∙ ap (in_some (child_of meaning)) there) c.in-Below.ensures.0)

pub returns-in-Here : goal.returns-in-Here
returns-in-Here g c = λ env.
    rw (c.going.ensures, c.report-report-2.ensures)
    (here_tidies g.P.Payload.always_shared g.P.HasMeaning.same_meaning _ c.args.store.now.root c.args.pin _ c.args.cleanup _ c.requires.placed c.args.path _ c.node_at-node.ensures (c.has_word.ensures.0 c.if-not-has_word.false) c.in-Here.pair c.in-Here.ensures.1 c.requires.facts c.in-Here.ensures.0)
