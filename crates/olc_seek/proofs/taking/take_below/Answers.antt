use Rattle.std.proofs.Common.{ℕ, IsTrue, ◌↔◌, subst}
use Rattle.spec_olc.specs.Calls.{bytes_of}
use Rattle.spec_olc.specs.Lock.{IsFree}
use Rattle.olc_state.specs.inner.CleanupFacts.{ReachesTo}
use Rattle.olc_descend.proofs.Events.{test_false}
use Rattle.olc_seek.proofs.Steps.{below_ok, below_stops}
use Rattle.olc_seek.proofs.taking.take_below.Goals as goal

pub returns-then-is_free : goal.returns-then-is_free
returns-then-is_free g c = λ env.
    let test = subst (λ (k : ℕ). IsTrue c.leads_on-fits.result ↔ ReachesTo (bytes_of k) c.args.cleanup.length c.node_at-node.result.now.node) c.key.ensures c.leads_on-fits.ensures in
    rw (c.going.ensures, c.report-report.ensures, c.number.ensures, c.number-then-is_free.ensures)
    (below_ok g.P.Payload.always_shared g.P.HasMeaning.same_meaning _ c.args.store.now.root c.args.pin _ c.args.cleanup _ c.requires.placed c.args.path c.args.slot _ c.leads_on-fits.result c.requires.facts c.node_at-node.ensures (c.is_free.ensures.0 c.if-is_free.true) test)

pub returns-else-is_free : goal.returns-else-is_free
returns-else-is_free g c = λ env.
    rw (c.forgets.ensures.task, c.forgets.ensures.event, c.report-report-else-is_free.ensures, c.number-else-is_free.ensures)
    (below_stops g.P.Payload.always_shared g.P.HasMeaning.same_meaning _ c.args.store.now.root c.args.pin _ c.args.cleanup _ c.requires.placed c.args.path c.args.slot _ c.requires.facts c.node_at-node.ensures
    (λ (f : IsFree c.node_at-node.result.now.word). test_false _ c.if-is_free.false (c.is_free.ensures.1 f)))
