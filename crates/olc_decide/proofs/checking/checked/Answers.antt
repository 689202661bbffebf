use Rattle.std.proofs.Common.{subst}
use Rattle.spec_olc.specs.Meaning.{env_of, outcome_of}
use Rattle.olc_state.specs.declared.stage.Path.{Path}
use Rattle.olc_state.specs.declared.stage.Stage.TheVariants.{Check}
use Rattle.olc_state.specs.inner.Meant.{meant_record, meant_table, meant_task}
use Rattle.olc_state.specs.inner.Turns.{IsRead}
use Rattle.olc_state.proofs.Records.{at}
use Rattle.olc_descend.proofs.Checks.{check_goes_down, sees_below}
use Rattle.olc_decide.proofs.checking.checked.Goals as goal

pub returns-in-Below : goal.returns-in-Below
returns-in-Below g c = record {
  reads = λ env.
      let known = c.requires.facts.at.1.here in
      let word = c.requires.at_key known.node known.here in
      let there = c.in-Below.ensures known.node known.here in
      let task = meant_task g.P.HasMeaning.meaning c.args.task.now in
      rw (c.going.ensures, c.report-report.ensures)
      (check_goes_down g.P.Payload.always_shared g.P.HasMeaning.same_meaning _ c.args.store.now.root c.args.pin task (env_of g.P.HasMeaning.meaning env) c.requires.placed c.args.path known.node known.here word c.in-Below.slot c.requires.facts c.requires.point
      (sees_below g.P.Payload.always_shared g.P.HasMeaning.same_meaning _ c.args.store.now.root c.args.pin task (env_of g.P.HasMeaning.meaning env) c.requires.placed c.args.path known.node known.here word c.requires.facts c.requires.point c.in-Below.slot there));
}

pub returns-in-Present : goal.returns-in-Present
returns-in-Present g c = record {
  reads = λ env.
      let known = c.requires.facts.at.1.here in
      let met = c.in-Present.ensures known.node known.here in
      subst (λ (p : Path). IsRead g.P.Payload.always_shared g.P.HasMeaning.same_meaning (meant_table g.P.HasMeaning.meaning c.args.store.now) c.args.store.now.root c.args.pin (at (Check p) (meant_task g.P.HasMeaning.meaning c.args.task.now)) (env_of g.P.HasMeaning.meaning env)
      (meant_record g.P.HasMeaning.meaning (record { stage = c.present.result.stage; task = c.present.new.task })) c.present.result.report (outcome_of g.P.HasMeaning.meaning c.present.result.outcome)) met.0
      (c.present.ensures.reads env);
}
