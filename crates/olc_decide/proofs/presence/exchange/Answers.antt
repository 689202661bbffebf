use Rattle.std.proofs.Common.{None}
use Rattle.spec_node.specs.TableNode.{seen}
use Rattle.spec_olc.specs.Meaning.{child_of, env_of, in_some}
use Rattle.olc_descend.proofs.Looks.{found_means}
use Rattle.olc_state.proofs.Replies.{reply_meant}
use Rattle.olc_decide.proofs.Present.{exchange_other, exchange_removes, exchange_same, exchange_stores}
use Rattle.olc_decide.proofs.presence.exchange.Goals as goal

pub returns-in-Other : goal.returns-in-Other
returns-in-Other g c =
    let at = c.requires.at in
    let child = in_some (child_of g.P.HasMeaning.meaning) (seen c.child_at.result) in
    let there = found_means g.P.HasMeaning.meaning c.node_at.result.now.node c.args.task.now.outline c.key.result (seen c.child_at.result) c.child_at.ensures c.key.ensures in
    record {
      reads = λ env.
          rw (c.decided.ensures.task, c.decided.ensures.event, c.report-report.ensures, c.take.ensures.value)
          (exchange_other g.P.Payload.always_shared g.P.HasMeaning.same_meaning _ c.args.store.now.root c.args.pin _ (env_of g.P.HasMeaning.meaning env) at.placed c.args.pair _ c.node_at.ensures (at.word _ c.node_at.ensures) at.facts c.args.only (at.present _ c.node_at.ensures) c.requires.exchange child there c.in-Other.ensures);
    }

pub returns-in-Same : goal.returns-in-Same
returns-in-Same g c =
    let at = c.requires.at in
    let child = in_some (child_of g.P.HasMeaning.meaning) (seen c.child_at.result) in
    let there = found_means g.P.HasMeaning.meaning c.node_at.result.now.node c.args.task.now.outline c.key.result (seen c.child_at.result) c.child_at.ensures c.key.ensures in
    record {
      reads = λ env.
          rw (c.changed.ensures.task, c.changed.ensures.event, c.report-report.ensures, reply_meant g.P.HasMeaning.meaning c.args.task.now.outline None c.args.task.now.returns)
          (exchange_same g.P.Payload.always_shared g.P.HasMeaning.same_meaning _ c.args.store.now.root c.args.pin _ (env_of g.P.HasMeaning.meaning env) at.placed c.args.pair _ c.node_at.ensures (at.word _ c.node_at.ensures) at.facts c.args.only (at.present _ c.node_at.ensures) c.requires.exchange child there c.in-Same.ensures);
    }

pub returns-in-Stores : goal.returns-in-Stores
returns-in-Stores g c =
    let at = c.requires.at in
    let child = in_some (child_of g.P.HasMeaning.meaning) (seen c.child_at.result) in
    let there = found_means g.P.HasMeaning.meaning c.node_at.result.now.node c.args.task.now.outline c.key.result (seen c.child_at.result) c.child_at.ensures c.key.ensures in
    record {
      reads = λ env.
          rw (c.going.ensures, c.report-report.ensures, c.path_to.ensures)
          (exchange_stores g.P.Payload.always_shared g.P.HasMeaning.same_meaning _ c.args.store.now.root c.args.pin _ (env_of g.P.HasMeaning.meaning env) at.placed c.args.pair _ c.node_at.ensures (at.word _ c.node_at.ensures) at.facts c.args.only (at.present _ c.node_at.ensures) c.requires.exchange child there c.in-Stores.ensures);
    }

pub returns-in-Removes : goal.returns-in-Removes
returns-in-Removes g c =
    let at = c.requires.at in
    let child = in_some (child_of g.P.HasMeaning.meaning) (seen c.child_at.result) in
    let there = found_means g.P.HasMeaning.meaning c.node_at.result.now.node c.args.task.now.outline c.key.result (seen c.child_at.result) c.child_at.ensures c.key.ensures in
    record {
      reads = λ env.
          rw (c.going-in-Removes.ensures, c.report-report.ensures, c.removing.ensures)
          (exchange_removes g.P.Payload.always_shared g.P.HasMeaning.same_meaning _ c.args.store.now.root c.args.pin _ (env_of g.P.HasMeaning.meaning env) at.placed c.args.pair _ c.node_at.ensures (at.word _ c.node_at.ensures) at.facts c.args.only (at.present _ c.node_at.ensures) c.requires.exchange child there c.in-Removes.ensures);
    }
