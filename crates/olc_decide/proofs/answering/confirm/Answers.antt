use Rattle.std.proofs.Common.{rules, ◌≡◌, Some, ap}
use Rattle.spec_olc.specs.Meaning.{asking_of, in_some}
use Rattle.olc_descend.proofs.Events.{test_false}
use Rattle.olc_state.proofs.Replies.{reply_meant}
use Rattle.olc_decide.proofs.Answered.{confirm_restarts, confirm_ends, confirm_given, given_meant}
use Rattle.olc_decide.proofs.answering.confirm.Goals as goal

pub returns-then-not-has_word : goal.returns-then-not-has_word
returns-then-not-has_word g c = record {
  reads = λ env.
      rw (c.back.ensures.task, c.back.ensures.event, c.report-report.ensures)
      (confirm_restarts g.P.Payload.always_shared g.P.HasMeaning.same_meaning _ c.args.store.now.root c.args.pin _ _ c.requires.placed c.args.spot _ c.node_at.ensures c.requires.facts
      (λ (e : c.node_at.result.now.word ≡ c.args.spot.word). test_false c.has_word.result (search rules) (c.has_word.ensures.1 e)));
}

pub returns : goal.returns
returns g c =
    let word : c.node_at.result.now.word ≡ c.args.spot.word = c.has_word.ensures.0 (search rules) in
    let confirmed = c.requires.facts.at.3 _ c.node_at.ensures word in
    let given = confirm_given g.P.Payload.always_shared g.P.HasMeaning.same_meaning _ _ confirmed in
    let meant = given_meant g.P.HasMeaning.meaning c.args.task.now.asking (Some confirmed.value) given.0 given.1 in
    record {
      reads = λ env.
          rw (c.changed.ensures.task, c.changed.ensures.event, c.report-report-2.ensures, c.asked-before.ensures.rest, c.asked-before.ensures.old meant.0 meant.1 meant.2, reply_meant g.P.HasMeaning.meaning c.args.task.now.outline meant.0 c.args.task.now.returns)
          (confirm_ends g.P.Payload.always_shared g.P.HasMeaning.same_meaning _ c.args.store.now.root c.args.pin _ _ c.requires.placed c.args.spot _ c.node_at.ensures c.requires.facts word
          (in_some g.P.HasMeaning.meaning meant.0) (in_some g.P.HasMeaning.meaning meant.1) (ap (asking_of g.P.HasMeaning.meaning) meant.2));
    }
