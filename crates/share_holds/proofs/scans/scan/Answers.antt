use Rattle.std.proofs.Common.{ℕ, List, inr, refl, sym, subst, ◌∙◌}
use Rattle.share_backend.specs.declared.lent.CallStage.TheVariants.{Denied}
use Rattle.share_holds.proofs.Attempts.{knows_twice}
use Rattle.share_holds.proofs.Founds.{none_found}
use Rattle.share_holds.proofs.Ranges.{asked_range, begun, done_range, going_range, pair_range, pair_stored, refused_range, undecided_range, unknown_range}
use Rattle.share_holds.specs.Moments.{WasStored}
use Rattle.share_holds.specs.inner.Founds.{AreFound}
use Rattle.share_rule.specs.History.{Entry}
use Rattle.share_rule.specs.inner.Steps.{seen_of}
use Rattle.share_rule.proofs.Holds.{sees_no_more_twice}
use Rattle.spec_olc.specs.declared.types.Op.TheVariants.{Range}
use Rattle.share_holds.proofs.scans.scan.Goals as goal

pub loop-init : goal.loop-init
loop-init g c =
    let t = begun g.M.Lent.meaning g.M.Lent.same c.args.id c.args.start c.args.end _ c.args.seat.now.me c.begin.new.seat.me c.in-Ok.field-0.outcome c.in-Ok.ensures.begun in
    (tt, tt, c.begin.ensures.table, t.1.quiet, (t.0, t.1.at_is), none_found _ _ g.E.RangeEntry.entry c.args.start c.args.end c.args.buffer.now, refl)

pub loop-preserved-in-Going : goal.loop-preserved-in-Going
loop-preserved-in-Going g c =
    let w = c.loop.invariant.4 in
    let t = going_range g.M.Lent.meaning g.M.Lent.same c.args.id c.args.start c.args.end _ c.loop.seat.me c.event-outcome.new.seat.me c.event-outcome.result.outcome w.0 _ c.event-outcome.result.report.kind (c.event-outcome.ensures.after w.0 w.1) c.in-Going.is in
    (tt, tt, c.event-outcome.ensures.table ∙ c.loop.invariant.2, sees_no_more_twice c.args.seat.now.me c.loop.seat.me c.event-outcome.new.seat.me c.loop.invariant.3 t.1.quiet, (t.0, t.1.at_is), c.loop.invariant.5, c.loop.invariant.6)

pub loop-preserved-in-Some-stored : goal.loop-preserved-in-Some-stored
loop-preserved-in-Some-stored g c =
    let w = c.loop.invariant.4 in
    let after = c.event-outcome.ensures.after w.0 w.1 in
    let t = pair_range g.M.Lent.meaning g.M.Lent.same c.args.id c.args.start c.args.end _ c.loop.seat.me c.event-outcome.new.seat.me c.event-outcome.result.outcome w.0 _ c.event-outcome.result.report.kind after c.in-Pair.key c.in-Pair.value c.in-Pair.is in
    let stored = pair_stored g.M.Lent.meaning g.M.Lent.same c.args.id c.args.start c.args.end _ c.loop.seat.me c.event-outcome.new.seat.me c.event-outcome.result.outcome w.0 _ c.event-outcome.result.report.kind after c.in-Pair.key c.in-Pair.value c.in-Pair.is in
    let known = subst (λ (l : List (Entry ℕ)). WasStored g.M.Lent.same l c.in-Pair.key (g.M.Lent.meaning c.in-Pair.value)) c.loop.invariant.3.seen stored in
    let was = subst (λ (f : ℕ → ℕ). WasStored g.M.Lent.same (seen_of c.args.seat.now.me.0) c.in-Pair.key (f c.in-Pair.value)) c.numbers_mean_themselves.ensures.meaning known in (
      tt,
      tt,
      c.event-outcome.ensures.table ∙ c.loop.invariant.2,
      sees_no_more_twice c.args.seat.now.me c.loop.seat.me c.event-outcome.new.seat.me c.loop.invariant.3 t.1.quiet,
      (t.0, t.1.at_is),
      c.in-Some-stored.ensures.found g.M.Lent.same (seen_of c.args.seat.now.me.0) c.args.start was c.loop.invariant.5,
      c.stored.ensures.room ∙ c.loop.invariant.6,
    )

pub loop-preserved-in-None-stored : goal.loop-preserved-in-None-stored
loop-preserved-in-None-stored g c =
    let w = c.loop.invariant.4 in
    let t = pair_range g.M.Lent.meaning g.M.Lent.same c.args.id c.args.start c.args.end _ c.loop.seat.me c.event-outcome.new.seat.me c.event-outcome.result.outcome w.0 _ c.event-outcome.result.report.kind (c.event-outcome.ensures.after w.0 w.1) c.in-Pair.key c.in-Pair.value c.in-Pair.is in
    let kept = c.stored.ensures.none c.in-None-stored.is in (
      tt,
      tt,
      c.event-outcome.ensures.table ∙ c.loop.invariant.2,
      sees_no_more_twice c.args.seat.now.me c.loop.seat.me c.event-outcome.new.seat.me c.loop.invariant.3 t.1.quiet,
      (t.0, t.1.at_is),
      subst (λ (b : List g.row.E.Denot). AreFound g.M.Lent.same (seen_of c.args.seat.now.me.0) g.E.RangeEntry.entry c.args.start c.args.end c.loop.found.next c.loop.found.count b) (sym kept) c.loop.invariant.5,
      c.stored.ensures.room ∙ c.loop.invariant.6,
    )

pub loop-preserved : goal.loop-preserved
loop-preserved g c =
    let w = c.loop.invariant.4 in
    let t = asked_range g.M.Lent.meaning g.M.Lent.same c.args.id c.args.start c.args.end _ c.loop.seat.me c.event-outcome.new.seat.me c.event-outcome.result.outcome w.0 _ c.event-outcome.result.report.kind (c.event-outcome.ensures.after w.0 w.1) c.in-Ask.field-0 c.in-Ask.is in
    (tt, tt, c.event-outcome.ensures.table ∙ c.loop.invariant.2, sees_no_more_twice c.args.seat.now.me c.loop.seat.me c.event-outcome.new.seat.me c.loop.invariant.3 t.1.quiet, (t.0, t.1.at_is), c.loop.invariant.5, c.loop.invariant.6)

pub returns-in-Done-clause-known : goal.returns-in-Done-clause-known
returns-in-Done-clause-known g c =
    let w = c.loop.invariant.4 in
    let t = done_range g.M.Lent.meaning g.M.Lent.same c.args.id c.args.start c.args.end _ c.loop.seat.me c.event-outcome.new.seat.me c.event-outcome.result.outcome w.0 _ c.event-outcome.result.report.kind (c.event-outcome.ensures.after w.0 w.1) c.in-Done.is in
    knows_twice c.args.seat.now.me c.loop.seat.me c.event-outcome.new.seat.me _ c.loop.invariant.3 t

pub returns-in-Unknown-clause-known : goal.returns-in-Unknown-clause-known
returns-in-Unknown-clause-known g c =
    let w = c.loop.invariant.4 in
    let t = unknown_range g.M.Lent.meaning g.M.Lent.same c.args.id c.args.start c.args.end _ c.loop.seat.me c.event-outcome.new.seat.me c.event-outcome.result.outcome w.0 _ c.event-outcome.result.report.kind (c.event-outcome.ensures.after w.0 w.1) c.in-Unknown.is in
    knows_twice c.args.seat.now.me c.loop.seat.me c.event-outcome.new.seat.me _ c.loop.invariant.3 t

pub finish-requires-clause-idle : goal.finish-requires-clause-idle
finish-requires-clause-idle g c =
    let w = c.loop.invariant.4 in
    let t = refused_range g.M.Lent.meaning g.M.Lent.same c.args.id c.args.start c.args.end _ c.loop.seat.me c.event-outcome.new.seat.me c.event-outcome.result.outcome w.0 _ c.event-outcome.result.report.kind (c.event-outcome.ensures.after w.0 w.1) c.in-Refused.is in
    t.quiet.idle

pub finish-requires-clause-over : goal.finish-requires-clause-over
finish-requires-clause-over g c =
    let w = c.loop.invariant.4 in
    let t = refused_range g.M.Lent.meaning g.M.Lent.same c.args.id c.args.start c.args.end _ c.loop.seat.me c.event-outcome.new.seat.me c.event-outcome.result.outcome w.0 _ c.event-outcome.result.report.kind (c.event-outcome.ensures.after w.0 w.1) c.in-Refused.is in
    (Denied (Range c.args.start c.args.end _), inr refl, t.at_is)

pub returns-in-Refused-clause-known : goal.returns-in-Refused-clause-known
returns-in-Refused-clause-known g c =
    let w = c.loop.invariant.4 in
    let t = refused_range g.M.Lent.meaning g.M.Lent.same c.args.id c.args.start c.args.end _ c.loop.seat.me c.event-outcome.new.seat.me c.event-outcome.result.outcome w.0 _ c.event-outcome.result.report.kind (c.event-outcome.ensures.after w.0 w.1) c.in-Refused.is in
    knows_twice c.args.seat.now.me c.event-outcome.new.seat.me c.finish.new.seat.me _
    (sees_no_more_twice c.args.seat.now.me c.loop.seat.me c.event-outcome.new.seat.me c.loop.invariant.3 t.quiet) c.finish.ensures.known

pub unreachable-requires : goal.unreachable-requires
unreachable-requires g c =
    let w = c.loop.invariant.4 in
    let t : ⊥ = undecided_range g.M.Lent.meaning g.M.Lent.same c.args.id c.args.start c.args.end _ c.loop.seat.me c.event-outcome.new.seat.me c.event-outcome.result.outcome w.0 _ c.event-outcome.result.report.kind (c.event-outcome.ensures.after w.0 w.1) c.in-Decided.field-0 c.in-Decided.is in
    t
