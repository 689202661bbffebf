use Rattle.std.proofs.Common.{Err, refl, ap, ◌∙◌}
use Rattle.spec_map.specs.Map.{lookup}
use Rattle.spec_olc.specs.Meaning.{meant, op_of}
use Rattle.spec_olc.specs.declared.types.StartError.{StartError}
use Rattle.share_machine.proofs.Seating.{started_as, started_content, started_others, unflown, no_some, same_error}
use Rattle.share_machine.proofs.calls.open.Goals as goal

pub returns-in-Ok-clause-opens : goal.returns-in-Ok-clause-opens
returns-in-Ok-clause-opens g c ready =
    let i = g.P.HasMeaning.meaning in
    started_as i (meant i c.args.machine.now) (meant i c.start.new.self) c.args.id c.args.op.now c.in-Ok.report c.in-Ok.ensures.ok ready

pub returns-in-Ok-clause-content : goal.returns-in-Ok-clause-content
returns-in-Ok-clause-content g c m content =
    let i = g.P.HasMeaning.meaning in
    (m, started_content (meant i c.args.machine.now) (meant i c.start.new.self) c.args.id (op_of i c.args.op.now) c.in-Ok.report c.in-Ok.ensures.ok m content, refl)

pub returns-in-Ok-clause-others : goal.returns-in-Ok-clause-others
returns-in-Ok-clause-others g c k ne =
    let i = g.P.HasMeaning.meaning in
    started_others (meant i c.args.machine.now) (meant i c.start.new.self) c.args.id (op_of i c.args.op.now) c.in-Ok.report c.in-Ok.ensures.ok k ne

pub returns-in-Err-clause-free : goal.returns-in-Err-clause-free
returns-in-Err-clause-free g c ready e =
    no_some _ (lookup c.args.machine.now.calls c.args.id) (unflown g.P.HasMeaning.meaning c.args.machine.now c.args.id ready) (c.start.ensures.in_flight.0 (c.in-Err.is ∙ ap (λ x. Err x) (same_error c.in-Err.error StartError.InFlight _ _ refl refl e)))
