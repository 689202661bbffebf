use Rattle.std.proofs.Common.{IsSome, IsTrue, subst, sym, ap, ◌∙◌}
use Rattle.spec_olc.specs.Calls.{bytes_of}
use Rattle.spec_olc.specs.Local.{payload_in}
use Rattle.olc_state.specs.inner.Tables.{byte_at}
use Rattle.olc_state.specs.inner.World.{entry}
use Rattle.olc_write.proofs.Leftovers.{leaves_by}
use Rattle.olc_write.proofs.Wrote.{leaf_counts, leaf_has, wrote_moves}
use Rattle.olc_write.proofs.linking.write.Goals as goal

pub set_payload-before-requires : goal.set_payload-before-requires
set_payload-before-requires g c =
    let facts = c.requires.facts in
    let a = facts.at.held.node in
    let here = facts.at.held.linked.here in
    let byte_is = c.byte_below-byte.ensures.byte a here ∙ ap (λ k. byte_at a (bytes_of k)) c.key.ensures in
    record {
      at = (
        a,
        here,
        facts.at.work.is.0,
        (λ absent. facts.at.work.is.1 (ap (λ x. entry a x) (sym byte_is) ∙ absent)),
        (λ none. subst (λ x. IsSome (entry a x)) (sym byte_is)
            (leaf_has g.P.HasMeaning.meaning g.A.Allocator.charge g.P.Payload.always_shared g.P.HasMeaning.same_meaning c.args.stock.now c.args.pin c.args.task.now c.args.spot c.requires.kept facts
            c.take_stored-value.result c.take_stored-value.ensures.value none)),
      );
    }

pub counted-stock-requires-clause-some : goal.counted-stock-requires-clause-some
counted-stock-requires-clause-some g c = λ had.
    let facts = c.requires.facts in
    let a = facts.at.held.node in
    let here = facts.at.held.linked.here in
    leaf_counts g.P.HasMeaning.meaning g.A.Allocator.charge g.P.Payload.always_shared g.P.HasMeaning.same_meaning c.args.stock.now c.args.pin c.args.task.now c.args.spot c.requires.kept facts c.requires.counted
    c.set_payload-before.result (c.set_payload-before.ensures.before a here ∙ ap (λ x. payload_in (entry a x)) (c.byte_below-byte.ensures.byte a here ∙ ap (λ k. byte_at a (bytes_of k)) c.key.ensures))
    (subst (λ b. IsTrue b) c.is_some.ensures had)

pub returns : goal.returns
returns g c = record {
  moves = λ env.
      let old = c.args.stock.now in
      let facts = c.requires.facts in
      let a = facts.at.held.node in
      let here = facts.at.held.linked.here in
      let set = c.set_payload-before in
      let value = c.take_stored-value in
      rw (c.changed.ensures.task, c.changed.ensures.event, value.ensures.rest, c.report-report.ensures)
      (wrote_moves g.P.HasMeaning.meaning g.A.Allocator.charge g.P.Payload.always_shared g.P.HasMeaning.same_meaning old c.args.pin c.args.task.now c.args.spot c.requires.kept facts
      set.new.store c.left_by-left.result c.byte_below-byte.result value.result set.result c.is_some.result c.is_some-stores.result c.counted-stock.result env value.ensures.value
      (c.byte_below-byte.ensures.byte a here ∙ ap (λ k. byte_at a (bytes_of k)) c.key.ensures) (c.byte_below-byte.ensures.within a here)
      (set.ensures.sets a here) (set.ensures.before a here) set.ensures.sizes set.ensures.lives
      c.is_some.ensures c.is_some-stores.ensures c.counted-stock.ensures
      (λ b there. leaves_by g.P.HasMeaning.meaning b.node c.left_by-left.result value.result c.is_some-stores.result c.is_some-stores.ensures c.left_by-left.ensures.stored (λ none. c.left_by-left.ensures.removed none b there)));
}

pub left_by-left-requires : goal.left_by-left-requires
left_by-left-requires g c =
    let facts = c.requires.facts in
    (_, (c.set_payload-before.ensures.sets facts.at.held.node facts.at.held.linked.here).here)
