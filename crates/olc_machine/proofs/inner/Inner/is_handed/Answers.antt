use Rattle.std.proofs.Common.{rules, ◌≡◌, Some, None}
use Rattle.std.proofs.lemmas.Bool.{false≢true}
use Rattle.olc_state.specs.inner.World.{record_of}
use Rattle.olc_machine.specs.inner.Inside.{inside}
use Rattle.olc_machine.proofs.Handed.{handed, unhanded}
use Rattle.olc_machine.proofs.inner.Inner.is_handed.Goals as goal

pub returns-in-Some : goal.returns-in-Some
returns-in-Some g c =
    let w = inside g.A.Allocator.charge c.args.self.now in
    let found : record_of w c.args.id ≡ Some c.in-Some.call.now = search rules in
    handed g.P.HasMeaning.meaning g.P.Payload.always_shared g.P.HasMeaning.same_meaning w c.args.id c.ranges.id.fits c.requires.sound c.in-Some.call.now found c.args.op.now c.has_outline.result c.has_outline.ensures

pub returns-in-None : goal.returns-in-None
returns-in-None g c =
    let w = inside g.A.Allocator.charge c.args.self.now in
    let none : record_of w c.args.id ≡ None = search rules in (
      (λ t. absurd (false≢true t)),
      (λ h. absurd (unhanded g.P.HasMeaning.meaning g.P.Payload.always_shared g.P.HasMeaning.same_meaning w c.args.id c.ranges.id.fits c.requires.sound none c.args.op.now h)),
    )
