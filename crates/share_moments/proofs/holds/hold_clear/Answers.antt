use Rattle.std.proofs.Common.{[], ap, refl}
use Rattle.share_shards.specs.inner.Steps.{pairs_of}
use Rattle.share_moments.proofs.Moments.{clear_here}
use Rattle.share_moments.proofs.holds.hold_clear.Goals as goal

pub release_all-requires-clause-may : goal.release_all-requires-clause-may
release_all-requires-clause-may c =
    let n = c.take_all.new.seat.me in
    (c.args.seat.now.me, n, [], c.if-not-take_all.ensures.took refl, c.clear.ensures.view, c.clear.ensures.none, clear_here (pairs_of n.0) _ (ap (λ z. pairs_of z) c.clear.ensures.view))

pub returns-clause-made : goal.returns-clause-made
returns-clause-made c = λ _. (pairs_of c.clear.new.seat.me.0, c.release_all.ensures.held c.args.seat.now.me c.take_all.new.seat.me (c.if-not-take_all.ensures.took refl) c.clear.ensures.view)
