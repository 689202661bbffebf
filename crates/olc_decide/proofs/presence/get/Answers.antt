use Rattle.spec_olc.specs.Meaning.{env_of}
use Rattle.olc_decide.proofs.Present.{gets_present}
use Rattle.olc_decide.proofs.presence.get.Goals as goal

pub returns : goal.returns
returns g c =
    let at = c.requires.at in
    let known = at.facts.at.1.here in
    record {
      reads = λ env.
          rw (c.decided.ensures.task, c.decided.ensures.event, c.report-report.ensures, c.take.ensures.value)
          (gets_present g.P.Payload.always_shared g.P.HasMeaning.same_meaning _ c.args.store.now.root c.args.pin _ (env_of g.P.HasMeaning.meaning env) at.placed c.args.pair _ known.here (at.word _ known.here) at.facts c.args.only (at.present _ known.here) c.requires.get);
    }
