use Rattle.std.proofs.Common.{rules, ◌≡◌, Some, None, ◌∙◌, sym, ap, option_copied}
use Rattle.spec_olc.specs.Seats.{seen_in}
use Rattle.olc_state.specs.inner.World.{record_of}
use Rattle.olc_machine.specs.inner.Inside.{inside}
use Rattle.olc_machine.proofs.Handed.{last_seen, unflown}
use Rattle.olc_machine.proofs.inner.Inner.seen.Goals as goal

pub returns-in-Some : goal.returns-in-Some
returns-in-Some g c =
    let w = inside g.A.Allocator.charge c.args.self.now in
    let found : record_of w c.args.id ≡ Some c.in-Some.call.now = search rules in
    let shown : option_copied c.as_ref.result ≡ c.in-Some.call.now.task.last = search rules in
    shown ∙ sym (last_seen g.P.HasMeaning.meaning g.P.Payload.always_shared g.P.HasMeaning.same_meaning w c.args.id c.ranges.id.fits c.requires.sound c.in-Some.call.now found)

pub returns-in-None : goal.returns-in-None
returns-in-None g c =
    let w = inside g.A.Allocator.charge c.args.self.now in
    let none : record_of w c.args.id ≡ None = search rules in
    sym (ap seen_in (unflown g.P.HasMeaning.meaning g.P.Payload.always_shared g.P.HasMeaning.same_meaning w c.args.id c.ranges.id.fits c.requires.sound none))
