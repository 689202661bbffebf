use Rattle.std.proofs.Common.{[], ◌∷◌, ◌∙◌, ap, length, refl, subst, sym}
use Rattle.share_shards.specs.inner.Steps.{HeldBy, pairs_of}
use Rattle.share_visits.specs.Whole.{Contains}
use Rattle.share_works.specs.Made.{returned}
use Rattle.spec_map.specs.Call.{count, counted}
use Rattle.spec_olc.specs.Runs.{same_number}
use Rattle.share_moments.specs.declared.state.State.{State}
use Rattle.share_moments.proofs.Limits.{limit_of}
use Rattle.share_moments.proofs.Moments.{count_here}
use Rattle.share_moments.proofs.holds.hold_charged.Goals as goal

pub release_all-requires-clause-may : goal.release_all-requires-clause-may
release_all-requires-clause-may c =
    let n = c.take_all.new.seat.me in let all = pairs_of n.0 in
    let same = c.charged-bytes.ensures.same in
    let h = c.if-not-take_all.ensures.all refl in (
      c.args.seat.now.me,
      n,
      all,
      c.if-not-take_all.ensures.took refl,
      ap (λ z. z.0) same,
      subst (λ z. Contains (λ (s : State). s.map.pairs) limit_of c.args.lock.now all z.1) (sym same) h,
      count_here all _ (ap (λ z. length (pairs_of z.0)) same),
    )

pub returns-clause-made : goal.returns-clause-made
returns-clause-made c =
    let m1 = c.take_all.new.seat.me in
    let view = ap (λ z. z.0) c.charged-bytes.ensures.same in
    let t = c.charged-bytes.ensures.bytes (pairs_of m1.0) (c.if-not-take_all.ensures.all refl) in
    let held = c.release_all.ensures.held c.args.seat.now.me m1 (c.if-not-take_all.ensures.took refl) view in
    (t.0, t.1 ∙ ap (λ z. z.slots) (sym c.requires.table), subst (λ k. HeldBy same_number (returned count (counted k) ∷ []) c.args.seat.now.me c.release_all.new.seat.me) (ap (λ z. length (pairs_of z)) view ∙ t.2) held, t.3)
