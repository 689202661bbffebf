use Rattle.std.proofs.Common.{ℕ, sym, subst, ap, ◌∙◌}
use Rattle.std.specs.Option.{option_copied}
use Rattle.spec_olc.specs.declared.trace.Line.TheVariants.{Done as Made}
use Rattle.spec_olc.specs.declared.types.Env.{Env}
use Rattle.spec_olc.specs.declared.types.Event.TheVariants.{Step}
use Rattle.olc_machine.specs.inner.Inside.{inside}
use Rattle.olc_replay.specs.declared.replay.Happened.{Happened}
use Rattle.olc_replay.specs.inner.Played.{last_read, IsHappening}
use Rattle.olc_replay.proofs.Happening.{step_unknown, step_made}
use Rattle.olc_replay.proofs.Numbers.{sound_meant, turn_itself}
use Rattle.olc_replay.proofs.replay.step.Goals as goal

pub returns-in_default : goal.returns-in_default
returns-in_default g c =
    let w = inside g.A.Allocator.charge c.args.machine.now in
    subst (λ (h : Happened). IsHappening w (Step c.args.id c.args.env.now) h.line h.decided w) (sym c.skipped.ensures)
    (step_unknown w c.args.id c.args.env.now (sym c.call.ensures ∙ ap option_copied c.in_default.is))

pub proceed-outcome-requires-clause-sound : goal.proceed-outcome-requires-clause-sound
proceed-outcome-requires-clause-sound g c = sound_meant (inside g.A.Allocator.charge c.args.machine.now) c.requires.sound

pub returns : goal.returns
returns g c =
    let w = inside g.A.Allocator.charge c.args.machine.now in
    let after = inside g.A.Allocator.charge c.proceed-outcome.new.self in
    let report = c.proceed-outcome.result.0 in
    let out = c.proceed-outcome.result.1 in
    let turn = turn_itself w after c.args.id c.copy_env.result report out c.proceed-outcome.ensures in
    subst (λ (env : Env ℕ). IsHappening w (Step c.args.id env) (Made report out c.last_read-seen.result) c.decision-decided.result after) c.copy_env.ensures
    (step_made w after c.args.id c.copy_env.result report out c.last_read-seen.result c.decision-decided.result c.in-Some.call.now turn (sym c.in-Some.ensures)
    (c.last_read-seen.ensures ∙ ap (last_read report.kind) c.call-2.ensures)
    (λ call op_is asked_is. c.decision-decided.ensures call (op_is ∙ sym c.copy_some_op-op.ensures) (asked_is ∙ sym c.asked_of-asked.ensures)))
