use Rattle.spec_olc.specs.Lock.{IsFree}
use Rattle.olc_descend.proofs.Events.{test_false}
use Rattle.olc_seek.proofs.Steps.{root_ok, root_stops}
use Rattle.olc_seek.proofs.taking.take_root.Goals as goal

pub returns-then-is_free : goal.returns-then-is_free
returns-then-is_free g c = λ env.
    rw (c.going.ensures, c.report-report.ensures, c.number.ensures, c.number-then-is_free.ensures)
    (root_ok g.P.Payload.always_shared g.P.HasMeaning.same_meaning _ c.args.store.now.root c.args.pin _ c.args.cleanup _ c.requires.placed _ c.requires.facts c.node_at.ensures (c.is_free.ensures.0 c.if-is_free.true))

pub returns-else-is_free : goal.returns-else-is_free
returns-else-is_free g c = λ env.
    rw (c.forgets.ensures.task, c.forgets.ensures.event, c.report-report-else-is_free.ensures, c.number-else-is_free.ensures)
    (root_stops g.P.Payload.always_shared g.P.HasMeaning.same_meaning _ c.args.store.now.root c.args.pin _ c.args.cleanup _ c.requires.placed _ c.requires.facts c.node_at.ensures
    (λ (f : IsFree c.node_at.result.now.word). test_false _ c.if-is_free.false (c.is_free.ensures.1 f)))
