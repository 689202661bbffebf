use Rattle.std.proofs.Common.{◌≡◌, Bool, subst}
use Rattle.olc_state.specs.declared.stage.Stage.TheVariants.{CheckAbove}
use Rattle.olc_descend.specs.inner.Reads.{KnowsMeant}
use Rattle.olc_descend.proofs.Checks.{above_goes, above_restarts}
use Rattle.olc_descend.proofs.Events.{test_false}
use Rattle.olc_decide.proofs.checking.check_above.Goals as goal

pub returns-then-not-has_word : goal.returns-then-not-has_word
returns-then-not-has_word g c = record {
  reads = λ env.
      rw (c.back.ensures.task, c.back.ensures.event, c.report-report.ensures)
      (above_restarts g.P.Payload.always_shared g.P.HasMeaning.same_meaning _ c.args.store.now.root c.args.pin _ _ c.requires.placed c.args.path _ c.node_at.ensures c.args.below c.args.fits c.requires.facts
      (λ (e : c.node_at.result.now.word ≡ c.args.path.here.word). test_false c.has_word.result c.if-not-has_word.true (c.has_word.ensures.1 e)));
}

pub returns-then-fits : goal.returns-then-fits
returns-then-fits g c = record {
  reads = λ env.
      rw (c.going.ensures, c.report-report-then-fits.ensures, c.if-fits.true)
      (above_goes g.P.Payload.always_shared g.P.HasMeaning.same_meaning _ c.args.store.now.root c.args.pin _ _ c.requires.placed c.args.path _ c.node_at.ensures (c.has_word.ensures.0 c.if-not-has_word.false) c.args.below
      (subst (λ (fits : Bool). KnowsMeant g.P.Payload.always_shared g.P.HasMeaning.same_meaning g.P.HasMeaning.meaning c.args.store.now c.args.pin (record { stage = CheckAbove c.args.path c.args.below fits; task = c.args.task.now })) c.if-fits.true c.requires.facts));
}

pub returns : goal.returns
returns g c = record {
  reads = λ env. rw c.if-fits.false (c.absent_above.ensures.reads env);
}

pub absent_above-requires-clause-point : goal.absent_above-requires-clause-point
absent_above-requires-clause-point g c = c.requires.facts.at.0.opened.point
