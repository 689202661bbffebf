use Rattle.std.proofs.Common.{ℕ, sym, subst}
use Rattle.spec_olc.specs.Runs.{same_number}
use Rattle.spec_olc.specs.declared.types.Event.TheVariants.{Start}
use Rattle.spec_olc.specs.declared.types.Op.{Op}
use Rattle.olc_machine.specs.inner.Inside.{inside}
use Rattle.olc_state.specs.inner.Turns.{IsBegun}
use Rattle.olc_replay.specs.declared.replay.Happened.{Happened}
use Rattle.olc_replay.specs.inner.Played.{IsHappening}
use Rattle.olc_replay.proofs.Happening.{start_in_flight, start_made}
use Rattle.olc_replay.proofs.Numbers.{sound_meant, begun_itself}
use Rattle.olc_replay.proofs.replay.start.Goals as goal

pub returns-then-is_in_flight : goal.returns-then-is_in_flight
returns-then-is_in_flight g c =
    let w = inside g.A.Allocator.charge c.args.machine.now in
    subst (λ (h : Happened). IsHappening w (Start c.args.id c.args.op.now) h.line h.decided w) (sym c.skipped.ensures)
    (start_in_flight w c.args.id c.args.op.now c.ranges.id.fits c.requires.sound (c.is_in_flight.ensures.0 c.if-is_in_flight.true))

pub begin-requires-clause-sound : goal.begin-requires-clause-sound
begin-requires-clause-sound g c = sound_meant (inside g.A.Allocator.charge c.args.machine.now) c.requires.sound

pub returns : goal.returns
returns g c =
    let w = inside g.A.Allocator.charge c.args.machine.now in
    let after = inside g.A.Allocator.charge c.begin.new.self in
    let begun = begun_itself w after c.args.id c.copy_op.result c.in_ok-report.report c.in_ok-report.ensures.ok in
    start_made w after c.args.id c.args.op.now c.in_ok-report.report
    (subst (λ (o : Op ℕ). IsBegun (Unit {0}) same_number w after c.args.id o c.in_ok-report.report) c.copy_op.ensures begun)
