use Rattle.olc_machine.specs.inner.Inside.{inside}
use Rattle.olc_machine.proofs.Inners.{keeps_room, keeps_none}
use Rattle.olc_machine.proofs.inner.Inner.keep_room.Goals as goal

pub returns-in_default-clause-stays : goal.returns-in_default-clause-stays
returns-in_default-clause-stays g c =
    let w = inside g.A.Allocator.charge c.args.self.now in
    (keeps_none g.P.HasMeaning.meaning g.P.Payload.always_shared g.P.HasMeaning.same_meaning w c.args.id c.ranges.id.fits c.requires.sound c.seat.new.self c.forget.new.places.entries c.reserve.new.places.entries c.requires.free
    c.in_ok-reserve.ensures.ok c.in_default.ensures.err c.forget.ensures).0

pub returns-in_default-clause-err : goal.returns-in_default-clause-err
returns-in_default-clause-err g c =
    let w = inside g.A.Allocator.charge c.args.self.now in
    (keeps_none g.P.HasMeaning.meaning g.P.Payload.always_shared g.P.HasMeaning.same_meaning w c.args.id c.ranges.id.fits c.requires.sound c.seat.new.self c.forget.new.places.entries c.reserve.new.places.entries c.requires.free
    c.in_ok-reserve.ensures.ok c.in_default.ensures.err c.forget.ensures).1

pub returns-clause-stays : goal.returns-clause-stays
returns-clause-stays g c =
    let w = inside g.A.Allocator.charge c.args.self.now in
    (keeps_room g.P.HasMeaning.meaning g.P.Payload.always_shared g.P.HasMeaning.same_meaning w c.args.id c.ranges.id.fits c.requires.sound c.seat.new.self c.reserve.new.places.entries c.requires.free
    c.in_ok-reserve.ensures.ok c.in-Ok.ensures.ok).0

pub returns-clause-ok : goal.returns-clause-ok
returns-clause-ok g c =
    let w = inside g.A.Allocator.charge c.args.self.now in
    (keeps_room g.P.HasMeaning.meaning g.P.Payload.always_shared g.P.HasMeaning.same_meaning w c.args.id c.ranges.id.fits c.requires.sound c.seat.new.self c.reserve.new.places.entries c.requires.free
    c.in_ok-reserve.ensures.ok c.in-Ok.ensures.ok).1
