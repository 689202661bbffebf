use Rattle.spec_olc.specs.Meaning.{env_of}
use Rattle.olc_state.specs.inner.Meant.{meant_table, meant_task}
use Rattle.olc_decide.proofs.Absent.{asking_here, leaves_here, absent_meant, stores_here}
use Rattle.olc_decide.proofs.finding.absent_here.Goals as goal

pub returns-in-Leaves : goal.returns-in-Leaves
returns-in-Leaves g c = record {
  reads = λ env.
      let known = c.requires.facts.at.1.here in
      rw (c.decided.ensures.task, c.decided.ensures.event, c.report-report.ensures, c.reply_absent-reply.ensures, absent_meant g.P.HasMeaning.meaning c.args.task.now.outline)
      (leaves_here g.P.Payload.always_shared g.P.HasMeaning.same_meaning (meant_table g.P.HasMeaning.meaning c.args.store.now) c.args.store.now.root c.args.pin (meant_task g.P.HasMeaning.meaning c.args.task.now) (env_of g.P.HasMeaning.meaning env) c.requires.placed c.requires.point c.args.path known.node known.here (c.requires.at_key known.node known.here) c.requires.facts
      (c.requires.absent known.node known.here).0 c.in-Leaves.ensures);
}

pub returns-in-Stores : goal.returns-in-Stores
returns-in-Stores g c = record {
  reads = λ env.
      let known = c.requires.facts.at.1.here in
      let absent = c.requires.absent known.node known.here in
      rw (c.going.ensures, c.report-report.ensures, c.tail_for.ensures)
      (stores_here g.P.Payload.always_shared g.P.HasMeaning.same_meaning (meant_table g.P.HasMeaning.meaning c.args.store.now) c.args.store.now.root c.args.pin (meant_task g.P.HasMeaning.meaning c.args.task.now) (env_of g.P.HasMeaning.meaning env) c.requires.placed c.requires.point known.node absent.0 c.args.path c.args.case absent.1 c.in-Stores.ensures known.here (c.requires.at_key known.node known.here) c.requires.facts);
}

pub returns-in-Asks : goal.returns-in-Asks
returns-in-Asks g c = record {
  reads = λ env.
      let known = c.requires.facts.at.1.here in
      let absent = c.requires.absent known.node known.here in
      rw (c.asking.ensures.task, c.asking.ensures.event, c.report-report.ensures)
      (asking_here g.P.Payload.always_shared g.P.HasMeaning.same_meaning (meant_table g.P.HasMeaning.meaning c.args.store.now) c.args.store.now.root c.args.pin (meant_task g.P.HasMeaning.meaning c.args.task.now) (env_of g.P.HasMeaning.meaning env) c.requires.placed c.requires.point known.node absent.0 c.args.path c.args.case absent.1 c.in-Asks.ensures known.here (c.requires.at_key known.node known.here) c.requires.facts);
}
