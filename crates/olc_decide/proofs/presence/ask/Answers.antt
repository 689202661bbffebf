use Rattle.spec_olc.specs.Meaning.{env_of}
use Rattle.olc_decide.proofs.Present.{asks_with}
use Rattle.olc_decide.proofs.presence.ask.Goals as goal

pub returns : goal.returns
returns g c =
    let at = c.requires.at in
    let known = at.facts.at.1.here in
    record {
      reads = λ env.
          rw (c.asking.ensures.task, c.asking.ensures.event, c.report-report.ensures)
          (asks_with g.P.Payload.always_shared g.P.HasMeaning.same_meaning _ c.args.store.now.root c.args.pin _ (env_of g.P.HasMeaning.meaning env) at.placed c.args.pair _ known.here (at.word _ known.here) at.facts c.args.only (at.present _ known.here) c.requires.asks);
    }
