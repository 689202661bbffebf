use Rattle.spec_node.specs.TableNode.{seen}
use Rattle.spec_olc.specs.Meaning.{child_of, env_of, in_some}
use Rattle.olc_descend.proofs.Looks.{found_means}
use Rattle.olc_decide.specs.inner.Judged.{handed}
use Rattle.olc_state.proofs.Replies.{reply_meant}
use Rattle.olc_decide.proofs.Present.{handed_meant, insert_same, insert_stores}
use Rattle.olc_decide.proofs.presence.insert.Goals as goal

pub returns-in-Same : goal.returns-in-Same
returns-in-Same g c =
    let at = c.requires.at in
    let child = in_some (child_of g.P.HasMeaning.meaning) (seen c.child_at.result) in
    let there = found_means g.P.HasMeaning.meaning c.node_at.result.now.node c.args.task.now.outline c.key.result (seen c.child_at.result) c.child_at.ensures c.key.ensures in
    record {
      reads = λ env.
          rw (c.changed.ensures.task, c.changed.ensures.event, c.report-report.ensures, c.handed-before.ensures.value, c.handed-before.ensures.rest, reply_meant g.P.HasMeaning.meaning c.args.task.now.outline (handed c.args.task.now.op) c.args.task.now.returns, handed_meant g.P.HasMeaning.meaning c.args.task.now.op)
          (insert_same g.P.Payload.always_shared g.P.HasMeaning.same_meaning _ c.args.store.now.root c.args.pin _ (env_of g.P.HasMeaning.meaning env) at.placed c.args.pair _ c.node_at.ensures (at.word _ c.node_at.ensures) at.facts c.args.only (at.present _ c.node_at.ensures) c.requires.insert child there c.in-Same.ensures);
    }

pub returns-in_default : goal.returns-in_default
returns-in_default g c =
    let at = c.requires.at in
    let child = in_some (child_of g.P.HasMeaning.meaning) (seen c.child_at.result) in
    let there = found_means g.P.HasMeaning.meaning c.node_at.result.now.node c.args.task.now.outline c.key.result (seen c.child_at.result) c.child_at.ensures c.key.ensures in
    record {
      reads = λ env.
          rw (c.going.ensures, c.report-report.ensures, c.path_to.ensures)
          (insert_stores g.P.Payload.always_shared g.P.HasMeaning.same_meaning _ c.args.store.now.root c.args.pin _ (env_of g.P.HasMeaning.meaning env) at.placed c.args.pair _ c.node_at.ensures (at.word _ c.node_at.ensures) at.facts c.args.only (at.present _ c.node_at.ensures) c.requires.insert child there c.judge.result c.in_default.not-Same c.judge.ensures);
    }
