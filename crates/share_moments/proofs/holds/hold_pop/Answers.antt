use Rattle.std.proofs.Common.{refl}
use Rattle.share_shards.specs.inner.Steps.{pairs_of}
use Rattle.spec_map.specs.Near.{without_pair}
use Rattle.share_moments.proofs.Moments.{pop_here}
use Rattle.share_moments.proofs.holds.hold_pop.Goals as goal

pub release_all-requires-clause-may : goal.release_all-requires-clause-may
release_all-requires-clause-may c =
    let n = c.take_all.new.seat.me in let all = pairs_of n.0 in
    let h = c.if-not-take_all.ensures.all refl in (
      c.args.seat.now.me,
      n,
      without_pair all c.pop-pair.result,
      c.if-not-take_all.ensures.took refl,
      c.pop-pair.ensures.view,
      c.pop-pair.ensures.left all h,
      pop_here all h.ordered c.args.near c.pop-pair.result (c.pop-pair.ensures.pair all h),
    )

pub returns-clause-made : goal.returns-clause-made
returns-clause-made c = c.release_all.ensures.held c.args.seat.now.me c.take_all.new.seat.me (c.if-not-take_all.ensures.took refl) c.pop-pair.ensures.view
