use Rattle.std.proofs.Common.{sym, subst}
use Rattle.spec_olc.specs.Meaning.{op_of}
use Rattle.spec_olc.specs.declared.types.Report.{Report}
use Rattle.olc_state.specs.inner.Meant.{meant_world}
use Rattle.olc_state.specs.inner.Turns.{IsBegun}
use Rattle.olc_machine.specs.inner.Inside.{inside}
use Rattle.olc_machine.proofs.Handed.{free_pin}
use Rattle.olc_machine.proofs.Inners.{begins, begins_none, seat_has_room}
use Rattle.olc_machine.proofs.inner.Inner.begin.Goals as goal

pub enter-requires : goal.enter-requires
enter-requires g c =
    free_pin g.P.HasMeaning.meaning g.P.Payload.always_shared g.P.HasMeaning.same_meaning (inside g.A.Allocator.charge c.args.self.now) c.args.id c.ranges.id.fits c.requires.sound c.requires.free

pub returns-in_default-clause-stays : goal.returns-in_default-clause-stays
returns-in_default-clause-stays g c =
    let w = inside g.A.Allocator.charge c.args.self.now in
    (begins_none g.P.HasMeaning.meaning g.P.Payload.always_shared g.P.HasMeaning.same_meaning w c.args.id c.ranges.id.fits c.requires.sound c.leave.new.self c.put.new.places.entries c.enter.new.self c.requires.free
    (free_pin g.P.HasMeaning.meaning g.P.Payload.always_shared g.P.HasMeaning.same_meaning w c.args.id c.ranges.id.fits c.requires.sound c.requires.free)
    c.in_ok-enter.ensures.ok c.leave.ensures c.in_default.ensures.err).0

pub returns-in_default-clause-err : goal.returns-in_default-clause-err
returns-in_default-clause-err g c =
    let w = inside g.A.Allocator.charge c.args.self.now in
    (begins_none g.P.HasMeaning.meaning g.P.Payload.always_shared g.P.HasMeaning.same_meaning w c.args.id c.ranges.id.fits c.requires.sound c.leave.new.self c.put.new.places.entries c.enter.new.self c.requires.free
    (free_pin g.P.HasMeaning.meaning g.P.Payload.always_shared g.P.HasMeaning.same_meaning w c.args.id c.ranges.id.fits c.requires.sound c.requires.free)
    c.in_ok-enter.ensures.ok c.leave.ensures c.in_default.ensures.err).1

pub returns-in_default-clause-granted : goal.returns-in_default-clause-granted
returns-in_default-clause-granted g c seated =
    c.in_default.ensures.granted (seat_has_room g.P.HasMeaning.meaning g.P.Payload.always_shared g.P.HasMeaning.same_meaning (inside g.A.Allocator.charge c.args.self.now) c.args.id c.ranges.id.fits c.requires.sound seated)

pub returns-clause-stays : goal.returns-clause-stays
returns-clause-stays g c =
    let w = inside g.A.Allocator.charge c.args.self.now in
    (begins g.P.HasMeaning.meaning g.P.Payload.always_shared g.P.HasMeaning.same_meaning w c.args.id c.ranges.id.fits c.requires.sound c.enter.new.self c.put.new.places.entries
    (op_of g.P.HasMeaning.meaning c.args.op) c.begun-call.result c.begun-call.ensures.small c.begun-call.ensures.begins c.requires.free
    c.in_ok-enter.ensures.ok c.in-Ok.ensures.ok).0

pub returns-clause-ok : goal.returns-clause-ok
returns-clause-ok g c =
    let w = inside g.A.Allocator.charge c.args.self.now in
    subst (λ (report : Report). IsBegun g.P.Payload.always_shared g.P.HasMeaning.same_meaning (meant_world g.P.HasMeaning.meaning w) (meant_world g.P.HasMeaning.meaning (record w { pins = c.enter.new.self; calls = c.put.new.places.entries })) c.args.id (op_of g.P.HasMeaning.meaning c.args.op) report) (sym c.started.ensures)
    (begins g.P.HasMeaning.meaning g.P.Payload.always_shared g.P.HasMeaning.same_meaning w c.args.id c.ranges.id.fits c.requires.sound c.enter.new.self c.put.new.places.entries
    (op_of g.P.HasMeaning.meaning c.args.op) c.begun-call.result c.begun-call.ensures.small c.begun-call.ensures.begins c.requires.free
    c.in_ok-enter.ensures.ok c.in-Ok.ensures.ok).1
