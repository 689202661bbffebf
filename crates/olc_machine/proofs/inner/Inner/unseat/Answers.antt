use Rattle.std.proofs.Common.{◌≡◌, None, sym, ◌∙◌, refl}
use Rattle.std.proofs.lemmas.Bool.{false≢true}
use Rattle.olc_state.specs.inner.World.{record_of}
use Rattle.olc_machine.specs.inner.Inside.{inside}
use Rattle.olc_machine.proofs.Handed.{none_there}
use Rattle.olc_machine.proofs.Inners.{unseats, unseats_flying}
use Rattle.olc_machine.proofs.inner.Inner.unseat.Goals as goal

pub returns-then-is_in_flight-clause-stays : goal.returns-then-is_in_flight-clause-stays
returns-then-is_in_flight-clause-stays g c =
    let w = inside g.A.Allocator.charge c.args.self.now in
    (unseats_flying g.P.HasMeaning.meaning g.P.Payload.always_shared g.P.HasMeaning.same_meaning w c.args.id c.ranges.id.fits c.requires.sound c.unseat.new.self w.calls refl c.unseat.ensures).0

pub returns-then-is_in_flight-clause-seats : goal.returns-then-is_in_flight-clause-seats
returns-then-is_in_flight-clause-seats g c =
    let w = inside g.A.Allocator.charge c.args.self.now in
    (unseats_flying g.P.HasMeaning.meaning g.P.Payload.always_shared g.P.HasMeaning.same_meaning w c.args.id c.ranges.id.fits c.requires.sound c.unseat.new.self w.calls refl c.unseat.ensures).1

pub returns-clause-stays : goal.returns-clause-stays
returns-clause-stays g c =
    let w = inside g.A.Allocator.charge c.args.self.now in
    let none : record_of w c.args.id ≡ None = none_there (record_of w c.args.id) (λ h. false≢true (sym c.if-is_in_flight.false ∙ c.is_in_flight.ensures.1 h)) in
    (unseats g.P.HasMeaning.meaning g.P.Payload.always_shared g.P.HasMeaning.same_meaning w c.args.id c.ranges.id.fits c.requires.sound c.unseat-2.new.self c.forget.new.places.entries none c.unseat-2.ensures c.forget.ensures).0

pub returns-clause-seats : goal.returns-clause-seats
returns-clause-seats g c =
    let w = inside g.A.Allocator.charge c.args.self.now in
    let none : record_of w c.args.id ≡ None = none_there (record_of w c.args.id) (λ h. false≢true (sym c.if-is_in_flight.false ∙ c.is_in_flight.ensures.1 h)) in
    (unseats g.P.HasMeaning.meaning g.P.Payload.always_shared g.P.HasMeaning.same_meaning w c.args.id c.ranges.id.fits c.requires.sound c.unseat-2.new.self c.forget.new.places.entries none c.unseat-2.ensures c.forget.ensures).1
