use Rattle.std.proofs.Common.{ap, subst, refl, inl, inr, ◌∙◌}
use Rattle.atomic_table.specs.Seated.{TableId}
use Rattle.share_backend.specs.Stages.{operation_by}
use Rattle.share_backend.specs.declared.lent.CallStage.TheVariants.{Settled, Denied}
use Rattle.share_holds.specs.inner.Events.{AfterEvent}
use Rattle.share_holds.proofs.Attempts.{booked_in, calls_on, kept_called, last_call_of, no_call, one_call}
use Rattle.share_rule.proofs.Holds.{made_later, made_still, sees_no_more_twice}
use Rattle.spec_olc.specs.Calls.{outline_of, asked_of}
use Rattle.spec_olc.specs.Meaning.{in_some, op_of, meant_reply, outcome_of}
use Rattle.spec_olc.specs.declared.types.Asking.TheVariants.{Wants}
use Rattle.spec_olc.specs.declared.types.Outcome.{Outcome}
use Rattle.spec_olc.specs.declared.types.Outcome.TheVariants.{Going, Ask}
use Rattle.share_holds.proofs.loops.go_on.Goals as goal

pub loop-preserved-in-Going : goal.loop-preserved-in-Going
loop-preserved-in-Going g c =
    let m = g.M.Lent.meaning in let o = outline_of c.args.op.now in let op = op_of m c.args.op.now in let w = c.loop.invariant.6 in
    let made = c.event-outcome.result in
    let A = λ (z : Outcome g.row.T.Denot). AfterEvent c.args.id o g.M.Lent.same op w.0 (in_some m c.in-Ok.copy) made.report.kind z c.loop.seat.me c.event-outcome.new.seat.me in
    let t = subst A (ap (outcome_of m) c.in-Going.is) (c.event-outcome.ensures.after w.0 w.1) in
    let next = t.3 in (
      tt,
      tt,
      c.loop.invariant.2,
      booked_in g.B.Purse.after c.args.op.now made.outcome Going c.loop.purse c.event-outcome.new.purse c.in-Going.is c.event-outcome.ensures.booked ∙ c.loop.invariant.3,
      ◌∙◌ {A = TableId} c.event-outcome.ensures.table c.loop.invariant.4,
      sees_no_more_twice c.args.seat.now.me c.loop.seat.me c.event-outcome.new.seat.me c.loop.invariant.5 next.quiet,
      (
        t.0,
        next.at_is,
        kept_called m g.Q.Asks.step c.loop.f w.0 c.loop.answer c.kept-answer.result (in_some m c.in-Ok.copy) t.0 made.report.kind c.in-Ok.ensures t.1 t.2 c.kept-answer.ensures w.2,
      ),
      c.loop.invariant.7,
    )

pub loop-preserved : goal.loop-preserved
loop-preserved g c =
    let m = g.M.Lent.meaning in let o = outline_of c.args.op.now in let op = op_of m c.args.op.now in let w = c.loop.invariant.6 in
    let made = c.event-outcome.result in
    let A = λ (z : Outcome g.row.T.Denot). AfterEvent c.args.id o g.M.Lent.same op w.0 (in_some m c.in-Ok.copy) made.report.kind z c.loop.seat.me c.event-outcome.new.seat.me in
    let t = subst A (ap (outcome_of m) c.in-Ask.is) (c.event-outcome.ensures.after w.0 w.1) in (
      tt,
      tt,
      c.ask-answer.ensures.callable,
      booked_in g.B.Purse.after c.args.op.now made.outcome (Ask c.in-Ask.old) c.loop.purse c.event-outcome.new.purse c.in-Ask.is c.event-outcome.ensures.booked ∙ c.loop.invariant.3,
      ◌∙◌ {A = TableId} c.event-outcome.ensures.table c.loop.invariant.4,
      sees_no_more_twice c.args.seat.now.me c.loop.seat.me c.event-outcome.new.seat.me c.loop.invariant.5 t.quiet,
      (Wants (in_some m c.in-Ask.old), t.at_is, record { before = c.loop.f; argument = c.in-Ask.old; called = c.ask-answer.ensures.step; old_is = refl }),
      calls_on g.Q.Asks.step c.args.f.now c.loop.f c.ask-answer.new.f c.loop.invariant.7
          (one_call g.Q.Asks.step c.loop.f c.in-Ask.old c.ask-answer.result c.ask-answer.new.f c.ask-answer.new.f c.ask-answer.ensures.step (no_call g.Q.Asks.step c.ask-answer.new.f)),
    )

pub finish-requires-clause-idle : goal.finish-requires-clause-idle
finish-requires-clause-idle g c =
    let m = g.M.Lent.meaning in let o = outline_of c.args.op.now in let op = op_of m c.args.op.now in let w = c.loop.invariant.6 in
    let made = c.event-outcome.result in
    let A = λ (z : Outcome g.row.T.Denot). AfterEvent c.args.id o g.M.Lent.same op w.0 (in_some m c.in-Ok.copy) made.report.kind z c.loop.seat.me c.event-outcome.new.seat.me in
    let t = subst A (ap (outcome_of m) c.in-Decided.is) (c.event-outcome.ensures.after w.0 w.1) in
    t.made.idle

pub finish-requires-clause-over : goal.finish-requires-clause-over
finish-requires-clause-over g c =
    let m = g.M.Lent.meaning in let o = outline_of c.args.op.now in let op = op_of m c.args.op.now in let w = c.loop.invariant.6 in
    let made = c.event-outcome.result in
    let A = λ (z : Outcome g.row.T.Denot). AfterEvent c.args.id o g.M.Lent.same op w.0 (in_some m c.in-Ok.copy) made.report.kind z c.loop.seat.me c.event-outcome.new.seat.me in
    let t = subst A (ap (outcome_of m) c.in-Decided.is) (c.event-outcome.ensures.after w.0 w.1) in
    (Settled o, inl refl, t.at_is)

pub returns-in-Decided-clause-attempted : goal.returns-in-Decided-clause-attempted
returns-in-Decided-clause-attempted g c =
    let m = g.M.Lent.meaning in let o = outline_of c.args.op.now in let op = op_of m c.args.op.now in let w = c.loop.invariant.6 in
    let made = c.event-outcome.result in
    let A = λ (z : Outcome g.row.T.Denot). AfterEvent c.args.id o g.M.Lent.same op w.0 (in_some m c.in-Ok.copy) made.report.kind z c.loop.seat.me c.event-outcome.new.seat.me in
    let t = subst A (ap (outcome_of m) c.in-Decided.is) (c.event-outcome.ensures.after w.0 w.1) in
    let d = operation_by op (asked_of w.0) (meant_reply m c.in-Decided.reply) in
    record {
      asked = asked_of w.0;
      made = made_still g.M.Lent.same c.args.seat.now.me c.event-outcome.new.seat.me c.finish.new.seat.me d
          (made_later g.M.Lent.same c.args.seat.now.me c.loop.seat.me c.event-outcome.new.seat.me d c.loop.invariant.5 t.made) c.finish.ensures.known.quiet;
      last_call = last_call_of m g.Q.Asks.step c.loop.f w.0 c.loop.answer w.2;
    }

pub finish-requires-in-Refused-clause-idle : goal.finish-requires-in-Refused-clause-idle
finish-requires-in-Refused-clause-idle g c =
    let m = g.M.Lent.meaning in let o = outline_of c.args.op.now in let op = op_of m c.args.op.now in let w = c.loop.invariant.6 in
    let made = c.event-outcome.result in
    let A = λ (z : Outcome g.row.T.Denot). AfterEvent c.args.id o g.M.Lent.same op w.0 (in_some m c.in-Ok.copy) made.report.kind z c.loop.seat.me c.event-outcome.new.seat.me in
    let t = subst A (ap (outcome_of m) c.in-Refused.is) (c.event-outcome.ensures.after w.0 w.1) in
    t.quiet.idle

pub finish-requires-in-Refused-clause-over : goal.finish-requires-in-Refused-clause-over
finish-requires-in-Refused-clause-over g c =
    let m = g.M.Lent.meaning in let o = outline_of c.args.op.now in let op = op_of m c.args.op.now in let w = c.loop.invariant.6 in
    let made = c.event-outcome.result in
    let A = λ (z : Outcome g.row.T.Denot). AfterEvent c.args.id o g.M.Lent.same op w.0 (in_some m c.in-Ok.copy) made.report.kind z c.loop.seat.me c.event-outcome.new.seat.me in
    let t = subst A (ap (outcome_of m) c.in-Refused.is) (c.event-outcome.ensures.after w.0 w.1) in
    (Denied o, inr refl, t.at_is)

pub returns-in-Refused-clause-attempted : goal.returns-in-Refused-clause-attempted
returns-in-Refused-clause-attempted g c =
    let m = g.M.Lent.meaning in let o = outline_of c.args.op.now in let op = op_of m c.args.op.now in let w = c.loop.invariant.6 in
    let made = c.event-outcome.result in
    let A = λ (z : Outcome g.row.T.Denot). AfterEvent c.args.id o g.M.Lent.same op w.0 (in_some m c.in-Ok.copy) made.report.kind z c.loop.seat.me c.event-outcome.new.seat.me in
    let t = subst A (ap (outcome_of m) c.in-Refused.is) (c.event-outcome.ensures.after w.0 w.1) in
    sees_no_more_twice c.args.seat.now.me c.event-outcome.new.seat.me c.finish-in-Refused.new.seat.me (sees_no_more_twice c.args.seat.now.me c.loop.seat.me c.event-outcome.new.seat.me c.loop.invariant.5 t.quiet) c.finish-in-Refused.ensures.known.quiet

pub returns-in-Unknown-clause-ready : goal.returns-in-Unknown-clause-ready
returns-in-Unknown-clause-ready g c =
    let m = g.M.Lent.meaning in let o = outline_of c.args.op.now in let op = op_of m c.args.op.now in let w = c.loop.invariant.6 in
    let made = c.event-outcome.result in
    let A = λ (z : Outcome g.row.T.Denot). AfterEvent c.args.id o g.M.Lent.same op w.0 (in_some m c.in-Ok.copy) made.report.kind z c.loop.seat.me c.event-outcome.new.seat.me in
    let t = subst A (ap (outcome_of m) c.in-Unknown.is) (c.event-outcome.ensures.after w.0 w.1) in
    t.at_is

pub returns-in-Unknown-clause-idle : goal.returns-in-Unknown-clause-idle
returns-in-Unknown-clause-idle g c =
    let m = g.M.Lent.meaning in let o = outline_of c.args.op.now in let op = op_of m c.args.op.now in let w = c.loop.invariant.6 in
    let made = c.event-outcome.result in
    let A = λ (z : Outcome g.row.T.Denot). AfterEvent c.args.id o g.M.Lent.same op w.0 (in_some m c.in-Ok.copy) made.report.kind z c.loop.seat.me c.event-outcome.new.seat.me in
    let t = subst A (ap (outcome_of m) c.in-Unknown.is) (c.event-outcome.ensures.after w.0 w.1) in
    t.quiet.idle

pub returns-in-Unknown-clause-attempted : goal.returns-in-Unknown-clause-attempted
returns-in-Unknown-clause-attempted g c =
    let m = g.M.Lent.meaning in let o = outline_of c.args.op.now in let op = op_of m c.args.op.now in let w = c.loop.invariant.6 in
    let made = c.event-outcome.result in
    let A = λ (z : Outcome g.row.T.Denot). AfterEvent c.args.id o g.M.Lent.same op w.0 (in_some m c.in-Ok.copy) made.report.kind z c.loop.seat.me c.event-outcome.new.seat.me in
    let t = subst A (ap (outcome_of m) c.in-Unknown.is) (c.event-outcome.ensures.after w.0 w.1) in
    sees_no_more_twice c.args.seat.now.me c.loop.seat.me c.event-outcome.new.seat.me c.loop.invariant.5 t.quiet

pub unreachable-requires : goal.unreachable-requires
unreachable-requires g c =
    let m = g.M.Lent.meaning in let o = outline_of c.args.op.now in let op = op_of m c.args.op.now in let w = c.loop.invariant.6 in
    let made = c.event-outcome.result in
    let A = λ (z : Outcome g.row.T.Denot). AfterEvent c.args.id o g.M.Lent.same op w.0 (in_some m c.in-Ok.copy) made.report.kind z c.loop.seat.me c.event-outcome.new.seat.me in
    let t = subst A (ap (outcome_of m) c.in-Done.is) (c.event-outcome.ensures.after w.0 w.1) in
    t.0 c.requires.point

pub unreachable-requires-in-Pair : goal.unreachable-requires-in-Pair
unreachable-requires-in-Pair g c =
    let m = g.M.Lent.meaning in let o = outline_of c.args.op.now in let op = op_of m c.args.op.now in let w = c.loop.invariant.6 in
    let made = c.event-outcome.result in
    let A = λ (z : Outcome g.row.T.Denot). AfterEvent c.args.id o g.M.Lent.same op w.0 (in_some m c.in-Ok.copy) made.report.kind z c.loop.seat.me c.event-outcome.new.seat.me in
    let t = subst A (ap (outcome_of m) c.in-Pair.is) (c.event-outcome.ensures.after w.0 w.1) in
    t.0 c.requires.point
