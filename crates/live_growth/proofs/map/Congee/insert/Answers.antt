use Rattle.std.proofs.Common.{sym, refl, ◌∙◌}
use Rattle.live_nodes.specs.Views.{ask, inserted}
use Rattle.live_reads.proofs.Finds.{inserted_by}
use Rattle.live_growth.proofs.Ready.{made_call}
use Rattle.live_growth.proofs.map.Congee.insert.Goals as goal

pub returns-in-Ok-clause-made : goal.returns-in-Ok-clause-made
returns-in-Ok-clause-made g c =
    let i = c.loop.invariant in
    let v = c.loop.guard-inside.seat.view in
    let w = c.try_insert.new.seat.view in
    let t = c.try_insert.ensures in
    made_call c.args.guard.now c.try_insert.new.seat.book c.try_insert.new.seat.id v.client.seen w (λ x. inserted (ask x c.args.key c.args.value 1) c.in-Ok.old) (λ x. refl) (t.book ∙ i.book) (t.id ∙ i.id) i.seen
    (inserted_by c.loop.guard-inside.seat.id c.try_insert.new.seat.id c.args.key c.args.value c.in-Ok.old v w (sym t.id) c.in-Ok.ensures.inserts)
