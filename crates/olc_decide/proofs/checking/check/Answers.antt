use Rattle.std.proofs.Common.{◌≡◌}
use Rattle.olc_descend.proofs.Checks.{check_restarts}
use Rattle.olc_descend.proofs.Events.{test_false}
use Rattle.olc_decide.proofs.checking.check.Goals as goal

pub returns-then-not-has_word : goal.returns-then-not-has_word
returns-then-not-has_word g c = record {
  reads = λ env.
      rw (c.back.ensures.task, c.back.ensures.event, c.report-report.ensures)
      (check_restarts g.P.Payload.always_shared g.P.HasMeaning.same_meaning _ c.args.store.now.root c.args.pin _ _ c.requires.placed c.args.path _ c.node_at.ensures c.requires.facts
      (λ (e : c.node_at.result.now.word ≡ c.args.path.here.word). test_false c.has_word.result c.if-not-has_word.true (c.has_word.ensures.1 e)));
}

pub checked-requires-clause-point : goal.checked-requires-clause-point
checked-requires-clause-point g c = c.requires.facts.at.0.opened.point
