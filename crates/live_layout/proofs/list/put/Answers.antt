use Rattle.std.proofs.Common.{arith, subst, ◌+◌}
use Rattle.live_layout.specs.inner.Stores.{Stores}
use Rattle.live_layout.proofs.StoreLaws.{put-stored}
use Rattle.live_layout.proofs.list.put.Goals as goal

pub returns-clause-is : goal.returns-clause-is
returns-clause-is g c = λ es h none.
    let old = g.D.WriteWords.words c.args.draft.now c.args.seat.now in
    let new = g.D.WriteWords.words c.args.draft.now c.store.new.seat in
    let n = c.count_of-count.result in
    let s = subst (λ x. Stores c.args.room x new n c.args.byte c.args.child (n + 1)) c.count_of-count.ensures.seat.kept c.store.ensures.is in
    put-stored c.args.room old new es c.args.byte c.args.child n c.ranges.byte.fits c.count_of-count.ensures.is (omega (arith, c.count_of-count.ensures.is, c.requires.left)) s h none
