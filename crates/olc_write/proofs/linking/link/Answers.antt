use Rattle.std.proofs.Common.{ap, ◌∙◌}
use Rattle.spec_olc.specs.Calls.{bytes_of}
use Rattle.olc_state.specs.inner.Tables.{byte_at}
use Rattle.olc_write.proofs.Wrote.{inner_stays, linked_moves}
use Rattle.olc_write.proofs.linking.link.Goals as goal

pub put_child-requires : goal.put_child-requires
put_child-requires g c =
    let facts = c.requires.facts in
    let publishes = c.publish.ensures.sets facts.at.1.made.node facts.at.1.made.here in
    let stays =
    inner_stays g.P.HasMeaning.meaning g.A.Allocator.charge g.P.Payload.always_shared g.P.HasMeaning.same_meaning c.args.stock.now c.args.pin c.args.task.now c.args.spot c.args.leaf c.requires.kept facts
    c.publish.new.self publishes
    in
    record { at = (facts.at.0.held.node, stays, facts.at.0.work.is.0, (λ absent. facts.at.0.work.is.2)) }

pub returns : goal.returns
returns g c = record {
  moves = λ env.
      let old = c.args.stock.now in
      let facts = c.requires.facts in
      let a = facts.at.0.held.node in
      let here = facts.at.0.held.linked.here in
      let put = c.put_child in
      rw (c.changed.ensures.task, c.changed.ensures.event, c.report-report.ensures)
      (linked_moves g.P.HasMeaning.meaning g.A.Allocator.charge g.P.Payload.always_shared g.P.HasMeaning.same_meaning old c.args.pin c.args.task.now c.args.spot c.args.leaf c.requires.kept facts
      c.publish.new.self (c.publish.ensures.sets facts.at.1.made.node facts.at.1.made.here) put.new.self c.byte_below-byte.result env
      (c.byte_below-byte.ensures.byte a here ∙ ap (λ k. byte_at a (bytes_of k)) c.key.ensures) (c.byte_below-byte.ensures.within a here) put.ensures.sets
      c.publish.ensures.sizes c.publish.ensures.lives put.ensures.sizes put.ensures.lives);
}
