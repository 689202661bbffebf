use Rattle.std.proofs.Common.{ℕ, IsTrue, ◌↔◌, subst}
use Rattle.spec_node.specs.Key.{Begins}
use Rattle.spec_olc.specs.Calls.{bytes_of}
use Rattle.spec_olc.specs.Lock.{IsFree}
use Rattle.olc_descend.proofs.Events.{test_false}
use Rattle.olc_descend.proofs.Takes.{below_ok, below_restarts}
use Rattle.olc_descend.proofs.taking.take_below.Goals as goal

pub returns-then-is_free : goal.returns-then-is_free
returns-then-is_free g c = record {
  reads = λ env.
      rw (c.going.ensures, c.report-report.ensures, c.number.ensures, c.number-then-is_free.ensures)
      (below_ok g.P.Payload.always_shared g.P.HasMeaning.same_meaning _ c.args.store.now.root c.args.pin _ _ c.requires.placed c.args.path c.args.slot _ c.is_on_path-fits.result c.requires.facts c.node_at-node.ensures (c.is_free.ensures.0 c.if-is_free.true)
      (subst (λ (k : ℕ). IsTrue c.is_on_path-fits.result ↔ Begins c.node_at-node.result.now.node.prefix (bytes_of k)) c.key.ensures c.is_on_path-fits.ensures));
}

pub returns-else-is_free : goal.returns-else-is_free
returns-else-is_free g c = record {
  reads = λ env.
      rw (c.back.ensures.task, c.back.ensures.event, c.report-report-else-is_free.ensures, c.number-else-is_free.ensures)
      (below_restarts g.P.Payload.always_shared g.P.HasMeaning.same_meaning _ c.args.store.now.root c.args.pin _ _ c.requires.placed c.args.path c.args.slot _ c.requires.facts c.node_at-node.ensures
      (λ (f : IsFree c.node_at-node.result.now.word). test_false _ c.if-is_free.false (c.is_free.ensures.1 f)));
}
