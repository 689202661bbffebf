use Rattle.std.proofs.Common.{ap, refl, subst, sym}
use Rattle.share_shards.specs.inner.Steps.{pairs_of}
use Rattle.share_visits.specs.Whole.{Contains}
use Rattle.share_moments.specs.declared.state.State.{State}
use Rattle.share_moments.proofs.Limits.{limit_of}
use Rattle.share_moments.proofs.Moments.{near_here}
use Rattle.share_moments.proofs.holds.hold_nearest.Goals as goal

pub release_all-requires-clause-may : goal.release_all-requires-clause-may
release_all-requires-clause-may c =
    let n = c.take_all.new.seat.me in let all = pairs_of n.0 in
    let same = c.nearest-pair.ensures.same in
    let h = c.if-not-take_all.ensures.all refl in (
      c.args.seat.now.me,
      n,
      all,
      c.if-not-take_all.ensures.took refl,
      ap (λ z. z.0) same,
      subst (λ z. Contains (λ (s : State). s.map.pairs) limit_of c.args.lock.now all z.1) (sym same) h,
      near_here all c.args.near c.nearest-pair.result (c.nearest-pair.ensures.pair all h),
    )

pub returns-clause-made : goal.returns-clause-made
returns-clause-made c = c.release_all.ensures.held c.args.seat.now.me c.take_all.new.seat.me (c.if-not-take_all.ensures.took refl) (ap (λ z. z.0) c.nearest-pair.ensures.same)
