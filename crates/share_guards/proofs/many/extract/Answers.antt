use Rattle.std.proofs.Common.{length, ap, sym, ◌∙◌}
use Rattle.spec_map.specs.Map.{between}
use Rattle.share_rule.specs.inner.Steps.{at_of, number_of}
use Rattle.share_rule.proofs.Holds.{at_held}
use Rattle.share_rule.proofs.InPlace.{found_may, found_then, left_in, slot_in, taken_in}
use Rattle.share_works.proofs.Removing.{removal_goes}
use Rattle.share_works.specs.Made.{range_removal}
use Rattle.share_guards.proofs.many.extract.Goals as goal

pub slot_mut-requires : goal.slot_mut-requires
slot_mut-requires g c =
    (c.take.ensures.table ∙ (c.requires.table ∙ sym c.table.ensures), slot_in _ _ _ c.args.seat.now.me c.take.new.seat.me c.requires.idle c.take.ensures.won)

pub release-requires-clause-may : goal.release-requires-clause-may
release-requires-clause-may g c =
    let m = c.args.seat.now.me in let m1 = c.take.new.seat.me in let x = c.in-Some.value in let y = c.extract_range.new.self in
    let t = taken_in _ _ _ m m1 c.slot_mut.result.now x c.requires.idle c.take.ensures.won c.slot_mut.ensures.value c.in-Some.is in
    let left = left_in _ _ _ m m1 y c.requires.idle c.take.ensures.won in
    let goes = removal_goes g.M.Lent.same (λ s. g.M.Lent.content s.under) x (g.M.Ordered.pairs x.under) c.law_contains.ensures.only y (g.M.Ordered.pairs y.under)
    c.args.start c.args.end c.law_contains-2.ensures.content c.extract_range.ensures.pairs in (
      y,
      left,
      found_may _ _ _ m _ x y (number_of (at_of m1.0)) t (ap number_of (at_held _ _ _ m _ x t)) c.extract_range.ensures.places
          (λ s. range_removal c.args.start c.args.end (length (g.M.Ordered.pairs s.under)) (between (g.M.Ordered.pairs s.under) c.args.start c.args.end)) goes,
    )

pub returns-clause-held : goal.returns-clause-held
returns-clause-held g c =
    let m = c.args.seat.now.me in let m1 = c.take.new.seat.me in let x = c.in-Some.value in let y = c.extract_range.new.self in
    let t = taken_in _ _ _ m m1 c.slot_mut.result.now x c.requires.idle c.take.ensures.won c.slot_mut.ensures.value c.in-Some.is in
    let left = left_in _ _ _ m m1 y c.requires.idle c.take.ensures.won in
    let goes = removal_goes g.M.Lent.same (λ s. g.M.Lent.content s.under) x (g.M.Ordered.pairs x.under) c.law_contains.ensures.only y (g.M.Ordered.pairs y.under)
    c.args.start c.args.end c.law_contains-2.ensures.content c.extract_range.ensures.pairs in (
      g.M.Ordered.pairs x.under,
      found_then _ _ _ m _ x y (number_of (at_of m1.0)) t (ap number_of (at_held _ _ _ m _ x t)) c.extract_range.ensures.places c.release.new.seat.me
          (λ s. range_removal c.args.start c.args.end (length (g.M.Ordered.pairs s.under)) (between (g.M.Ordered.pairs s.under) c.args.start c.args.end)) goes (c.release.ensures.released y left),
      c.extract_range.ensures.calls,
    )
