use Rattle.std.proofs.Common.{None}
use Rattle.live_updates.specs.Closures.{Reaches, EndsWithCall}
use Rattle.live_updates.proofs.Reached.{no_call, call_on, last_call}
use Rattle.live_payloads.specs.Computes.{CalledAtOption}
use Rattle.live_payloads.proofs.Tried.{refused_tried}
use Rattle.live_payloads.proofs.payload_congee.PayloadCongee.add_computed.Given.{Over}
use Rattle.live_payloads.proofs.payload_congee.PayloadCongee.add_computed.Goals as goal
use Rattle.live_payloads.proofs.payload_congee.PayloadCongee.add_computed.Goals.{After-f-payload}

-- the closure was called with none
called : (g : Over) (c : After-f-payload g) → CalledAtOption g.F.FnMut c.args.f.now None c.f-payload.result c.f-payload.new.self
called g c = record { shown = c.nothing.result; shows = c.nothing.ensures; called = c.f-payload.ensures }

reached : (g : Over) (c : After-f-payload g) → Reaches (CalledAtOption g.F.FnMut) c.args.f.now c.f-payload.new.self
reached g c = call_on (CalledAtOption g.F.FnMut) c.args.f.now c.args.f.now c.f-payload.new.self None c.f-payload.result (no_call (CalledAtOption g.F.FnMut) c.args.f.now) (called g c)

last : (g : Over) (c : After-f-payload g) → EndsWithCall (CalledAtOption g.F.FnMut) c.args.f.now None c.f-payload.result c.f-payload.new.self
last g c = last_call (CalledAtOption g.F.FnMut) c.args.f.now c.f-payload.new.self None c.f-payload.result (called g c)

pub returns-in-Ok-clause-reached : goal.returns-in-Ok-clause-reached
returns-in-Ok-clause-reached g c = reached g (goal.at.returns-in-Ok-clause-reached g c).After-f-payload

pub returns-in-Ok-clause-added : goal.returns-in-Ok-clause-added
returns-in-Ok-clause-added g c = (c.in-Ok.field-0.ticket, c.f-payload.result, last g (goal.at.returns-in-Ok-clause-added g c).After-f-payload, c.in-Ok.ensures.added.1)

pub returns-clause-reached : goal.returns-clause-reached
returns-clause-reached g c = reached g (goal.at.returns-clause-reached g c).After-f-payload

pub returns-clause-refused : goal.returns-clause-refused
returns-clause-refused g c = refused_tried c.args.number c.args.guard.now.tickets c.add.new.guard.tickets c.in-Err.refused.0 c.in-Err.ensures.busy c.in-Err.ensures.memory
