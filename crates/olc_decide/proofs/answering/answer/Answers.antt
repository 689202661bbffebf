use Rattle.std.proofs.Common.{ap}
use Rattle.spec_olc.specs.Meaning.{asking_of, in_some}
use Rattle.olc_decide.proofs.Answered.{answer_taken, asked_by, wants_meant}
use Rattle.olc_decide.proofs.answering.answer.Goals as goal

pub given-requires : goal.given-requires
given-requires g c =
    let waits = asked_by g.P.Payload.always_shared g.P.HasMeaning.same_meaning _ c.args.store.now.root c.args.pin _ c.args.case c.requires.facts.at in
    let meant = wants_meant g.P.HasMeaning.meaning c.args.task.now.asking _ waits.wants in
    (meant.0, meant.1)

pub returns : goal.returns
returns g c =
    let waits = asked_by g.P.Payload.always_shared g.P.HasMeaning.same_meaning _ c.args.store.now.root c.args.pin _ c.args.case c.requires.facts.at in
    let meant = wants_meant g.P.HasMeaning.meaning c.args.task.now.asking _ waits.wants in
    record {
      reads = λ env e.
          rw (c.given.ensures.task meant.0 meant.1, c.given.ensures.event)
          (answer_taken g.P.Payload.always_shared g.P.HasMeaning.same_meaning _ c.args.store.now.root c.args.pin _ _ (in_some g.P.HasMeaning.meaning meant.0) (in_some g.P.HasMeaning.meaning c.args.answer) (in_some g.P.HasMeaning.meaning c.in-Ok.returns)
          (ap (in_some g.P.HasMeaning.meaning) e) (ap (asking_of g.P.HasMeaning.meaning) meant.1) c.in-Ok.ensures.kept c.args.case c.after_answer-stage.result c.after_answer-stage.ensures c.requires.facts);
    }
