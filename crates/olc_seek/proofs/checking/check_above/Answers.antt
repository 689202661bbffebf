use Rattle.std.proofs.Common.{◌≡◌, Bool, subst}
use Rattle.olc_state.specs.declared.cleanup.Seek.TheVariants.{CheckAbove}
use Rattle.olc_state.specs.declared.stage.Stage.TheVariants.{Seek}
use Rattle.olc_descend.specs.inner.Reads.{KnowsMeant}
use Rattle.olc_descend.proofs.Events.{test_false}
use Rattle.olc_seek.proofs.Steps.{above_goes, above_nowhere, above_stops}
use Rattle.olc_seek.proofs.checking.check_above.Goals as goal

pub returns-then-not-has_word : goal.returns-then-not-has_word
returns-then-not-has_word g c = λ env.
    rw (c.forgets.ensures.task, c.forgets.ensures.event, c.report-report.ensures)
    (above_stops g.P.Payload.always_shared g.P.HasMeaning.same_meaning _ c.args.store.now.root c.args.pin _ c.args.cleanup _ c.requires.placed c.args.path _ c.node_at.ensures c.args.below c.args.fits c.requires.facts
    (λ (e : c.node_at.result.now.word ≡ c.args.path.here.word). test_false c.has_word.result c.if-not-has_word.true (c.has_word.ensures.1 e)))

pub returns-then-fits : goal.returns-then-fits
returns-then-fits g c = λ env.
    rw (c.going.ensures, c.report-report-2.ensures, c.if-fits.true)
    (above_goes g.P.Payload.always_shared g.P.HasMeaning.same_meaning _ c.args.store.now.root c.args.pin _ c.args.cleanup _ c.requires.placed c.args.path _ c.node_at.ensures (c.has_word.ensures.0 c.if-not-has_word.false) c.args.below
    (subst (λ (fits : Bool). KnowsMeant g.P.Payload.always_shared g.P.HasMeaning.same_meaning g.P.HasMeaning.meaning c.args.store.now c.args.pin (record { stage = Seek c.args.cleanup (CheckAbove c.args.path c.args.below fits); task = c.args.task.now })) c.if-fits.true c.requires.facts))

pub returns-else-fits : goal.returns-else-fits
returns-else-fits g c = λ env.
    rw (c.going-else-fits.ensures, c.report-report-2.ensures, c.if-fits.false)
    (above_nowhere g.P.Payload.always_shared g.P.HasMeaning.same_meaning _ c.args.store.now.root c.args.pin _ c.args.cleanup _ c.requires.placed c.args.path _ c.node_at.ensures (c.has_word.ensures.0 c.if-not-has_word.false) c.args.below
    (subst (λ (fits : Bool). KnowsMeant g.P.Payload.always_shared g.P.HasMeaning.same_meaning g.P.HasMeaning.meaning c.args.store.now c.args.pin (record { stage = Seek c.args.cleanup (CheckAbove c.args.path c.args.below fits); task = c.args.task.now })) c.if-fits.false c.requires.facts))
