use Rattle.spec_olc.specs.Meaning.{meant, env_of, outcome_of}
use Rattle.share_machine.proofs.Giving.{given}
use Rattle.share_machine.proofs.Seating.{handed}
use Rattle.share_machine.proofs.Turning.{turned, changed, others}
use Rattle.share_machine.proofs.calls.step.Goals as goal

pub returns-clause-turns : goal.returns-clause-turns
returns-clause-turns g c p here of =
    let i = g.P.HasMeaning.meaning in
    let known = handed i c.args.machine.now c.args.id c.args.op.now p here of in
    turned _ g.P.HasMeaning.same_meaning (meant i c.args.machine.now) (meant i c.counted.new.machine) c.args.id (env_of i c.args.env) c.counted.result.report (outcome_of i c.counted.result.outcome) c.law_well_formed.ensures.calls (c.counted.ensures.event known) p here

pub returns-clause-content : goal.returns-clause-content
returns-clause-content g c p here of m content =
    let i = g.P.HasMeaning.meaning in
    let known = handed i c.args.machine.now c.args.id c.args.op.now p here of in
    let old = meant i c.args.machine.now in let new = meant i c.counted.new.machine in let out = outcome_of i c.counted.result.outcome in
    let step = c.counted.ensures.event known in
    let stored = given _ g.P.HasMeaning.same_meaning old new c.args.id step.call (env_of i c.args.env) c.counted.result.report out c.counted.result.report.kind step.event in
    changed g.P.HasMeaning.same_meaning m old new c.args.id out content stored (c.counted.ensures.content known m content) p here

pub returns-clause-others : goal.returns-clause-others
returns-clause-others g c p here of =
    let i = g.P.HasMeaning.meaning in
    let known = handed i c.args.machine.now c.args.id c.args.op.now p here of in
    others _ g.P.HasMeaning.same_meaning (meant i c.args.machine.now) (meant i c.counted.new.machine) c.args.id (env_of i c.args.env) c.counted.result.report (outcome_of i c.counted.result.outcome) (c.counted.ensures.event known)
