use Rattle.std.proofs.Common.{ap, refl, subst, sym}
use Rattle.share_shards.specs.inner.Steps.{pairs_of}
use Rattle.share_visits.specs.Whole.{Contains}
use Rattle.share_moments.specs.declared.state.State.{State}
use Rattle.share_moments.proofs.Limits.{limit_of}
use Rattle.share_moments.proofs.Listing.{listing_here}
use Rattle.share_moments.proofs.ranges.hold_range_descending.Goals as goal

pub release_all-requires-clause-may : goal.release_all-requires-clause-may
release_all-requires-clause-may g c =
    let n = c.take_all.new.seat.me in let all = pairs_of n.0 in
    let same = c.list_back-written.ensures.same in
    let h = c.if-not-take_all.ensures.all refl in (
      c.args.seat.now.me,
      n,
      all,
      c.if-not-take_all.ensures.took refl,
      ap (λ z. z.0) same,
      subst (λ z. Contains (λ (s : State). s.map.pairs) limit_of c.args.lock.now all z.1) (sym same) h,
      listing_here all _ (ap (λ z. pairs_of z.0) same) _ _,
    )

pub returns-clause-made : goal.returns-clause-made
returns-clause-made g c =
    let view = ap (λ z. z.0) c.list_back-written.ensures.same in
    let all = pairs_of c.list_back-written.new.seat.me.0 in (
      all,
      c.release_all.ensures.held c.args.seat.now.me c.take_all.new.seat.me (c.if-not-take_all.ensures.took refl) view,
      c.list_back-written.ensures.written all (subst (λ z. Contains (λ (s : State). s.map.pairs) limit_of c.args.lock.now (pairs_of z.0) c.take_all.new.seat.me.1) (sym c.list_back-written.ensures.same) (c.if-not-take_all.ensures.all refl)),
    )
