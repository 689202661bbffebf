use Rattle.std.proofs.Common.{ap, sym, ◌∙◌}
use Rattle.share_rule.specs.inner.Steps.{at_of, number_of}
use Rattle.share_rule.proofs.Holds.{at_held}
use Rattle.share_rule.proofs.InPlace.{found_may, found_then, left_in, slot_in, taken_in}
use Rattle.share_works.proofs.Retaining.{retain_goes}
use Rattle.share_works.specs.Made.{retaining}
use Rattle.share_guards.proofs.many.retain.Goals as goal

pub slot_mut-requires : goal.slot_mut-requires
slot_mut-requires g c =
    (c.take.ensures.table ∙ (c.requires.table ∙ sym c.table.ensures), slot_in _ _ _ c.args.seat.now.me c.take.new.seat.me c.requires.idle c.take.ensures.won)

pub release-requires-clause-may : goal.release-requires-clause-may
release-requires-clause-may g c =
    let m = c.args.seat.now.me in let m1 = c.take.new.seat.me in let x = c.in-Some.value in let y = c.retain.new.self in
    let t = taken_in _ _ _ m m1 c.slot_mut.result.now x c.requires.idle c.take.ensures.won c.slot_mut.ensures.value c.in-Some.is in
    let left = left_in _ _ _ m m1 y c.requires.idle c.take.ensures.won in
    let goes = retain_goes _ g.M.Lent.same (λ s. g.M.Lent.content s.under) x (g.M.Ordered.pairs x.under) c.law_contains.ensures.ordered c.law_contains.ensures.only y (g.M.Ordered.pairs y.under)
    c.args.f.now c.retain.new.f c.law_contains-2.ensures.content c.retain.ensures.retains in (
      y,
      left,
      found_may _ _ _ m _ x y (number_of (at_of m1.0)) t (ap number_of (at_held _ _ _ m _ x t)) c.retain.ensures.places
          (λ s. retaining (g.M.Ordered.pairs s.under) (g.M.Ordered.pairs y.under)) goes,
    )

pub returns-clause-held : goal.returns-clause-held
returns-clause-held g c =
    let m = c.args.seat.now.me in let m1 = c.take.new.seat.me in let x = c.in-Some.value in let y = c.retain.new.self in
    let t = taken_in _ _ _ m m1 c.slot_mut.result.now x c.requires.idle c.take.ensures.won c.slot_mut.ensures.value c.in-Some.is in
    let left = left_in _ _ _ m m1 y c.requires.idle c.take.ensures.won in
    let goes = retain_goes _ g.M.Lent.same (λ s. g.M.Lent.content s.under) x (g.M.Ordered.pairs x.under) c.law_contains.ensures.ordered c.law_contains.ensures.only y (g.M.Ordered.pairs y.under)
    c.args.f.now c.retain.new.f c.law_contains-2.ensures.content c.retain.ensures.retains in (
      g.M.Ordered.pairs x.under,
      g.M.Ordered.pairs y.under,
      found_then _ _ _ m _ x y (number_of (at_of m1.0)) t (ap number_of (at_held _ _ _ m _ x t)) c.retain.ensures.places c.release.new.seat.me
          (λ s. retaining (g.M.Ordered.pairs s.under) (g.M.Ordered.pairs y.under)) goes (c.release.ensures.released y left),
      c.retain.ensures.retains,
    )
