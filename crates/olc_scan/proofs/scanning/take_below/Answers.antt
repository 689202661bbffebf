use Rattle.spec_olc.specs.Lock.{IsFree}
use Rattle.olc_state.specs.inner.Meant.{meant_table}
use Rattle.olc_descend.proofs.Events.{test_false}
use Rattle.olc_scan.proofs.Coded.{goes_to}
use Rattle.olc_scan.proofs.Steps.{below_ok, below_restarts}
use Rattle.olc_scan.proofs.scanning.take_below.Goals as goal

pub returns-then-is_free : goal.returns-then-is_free
returns-then-is_free g c = λ env.
    rw (c.on.ensures, c.report-report.ensures, c.number.ensures, c.number-then-is_free.ensures)
    (below_ok g.P.Payload.always_shared g.P.HasMeaning.same_meaning _ c.args.store.now.root c.args.pin _ c.args.course _ c.requires.placed c.args.here c.args.slot _ c.reach_in-from.result c.requires.facts c.node_at-node.ensures (c.is_free.ensures.0 c.if-is_free.true)
    (goes_to (meant_table g.P.HasMeaning.meaning c.args.store.now) c.args.slot c.args.course.cursor _ c.node_at-node.ensures c.reach_in-from.result c.reach_in-from.ensures.small c.reach_in-from.ensures.within c.reach_in-from.ensures.past))

pub returns-else-is_free : goal.returns-else-is_free
returns-else-is_free g c = λ env.
    rw (c.back.ensures.task, c.back.ensures.event, c.report-report-else-is_free.ensures, c.number-else-is_free.ensures)
    (below_restarts g.P.Payload.always_shared g.P.HasMeaning.same_meaning _ c.args.store.now.root c.args.pin _ c.args.course _ c.requires.placed c.args.here c.args.slot _ c.requires.facts c.node_at-node.ensures
    (λ (f : IsFree c.node_at-node.result.now.word). test_false _ c.if-is_free.false (c.is_free.ensures.1 f)))
