use Rattle.std.proofs.Common.{sym, ◌∙◌}
use Rattle.std.proofs.lemmas.Bool.{false≢true}
use Rattle.olc_machine.specs.inner.Inside.{meant_in}
use Rattle.olc_machine.proofs.Reclaiming.{pins_may, reader_may}
use Rattle.olc_machine.proofs.inner.Inner.reclaim.Goals as goal

pub returns-then-not-may_reclaim-clause-exactly : goal.returns-then-not-may_reclaim-clause-exactly
returns-then-not-may_reclaim-clause-exactly g c = (
  (λ t. absurd (false≢true t)),
  (λ may. absurd (false≢true (sym c.if-not-may_reclaim.true ∙ c.may_reclaim.ensures.1 (pins_may g.P.Payload.always_shared g.P.HasMeaning.same_meaning (meant_in g.P.HasMeaning.meaning g.A.Allocator.charge c.args.self.now) c.requires.sound c.args.slot may)))),
)

pub free-requires-clause-may : goal.free-requires-clause-may
free-requires-clause-may g c = reader_may g.P.Payload.always_shared g.P.HasMeaning.same_meaning (meant_in g.P.HasMeaning.meaning g.A.Allocator.charge c.args.self.now) c.requires.sound c.args.slot (c.may_reclaim.ensures.0 c.if-not-may_reclaim.false)

pub returns-clause-stays : goal.returns-clause-stays
returns-clause-stays g c = c.free.ensures.freed.after
