use Rattle.std.proofs.Common.{ℕ}
use Rattle.spec_olc.specs.Kinds.{MayReclaim}
use Rattle.olc_state.specs.inner.Shown.{state_of}
use Rattle.olc_words.specs.Epoch as epoch
use Rattle.olc_machine.specs.inner.Inside.{meant_in}
use Rattle.olc_machine.proofs.Reclaiming.{none_on, pins_may, reader_may, some_on}
use Rattle.olc_machine.proofs.inner.Inner.reclaimable.Goals as goal

pub returns-clause-some : goal.returns-clause-some
returns-clause-some g c =
    some_on (λ (slot : ℕ). epoch.IsReclaimable c.args.self.now.stock.store.pins slot)
    (λ slot. MayReclaim (state_of (meant_in g.P.HasMeaning.meaning g.A.Allocator.charge c.args.self.now)) slot)
    (λ slot may. reader_may g.P.Payload.always_shared g.P.HasMeaning.same_meaning (meant_in g.P.HasMeaning.meaning g.A.Allocator.charge c.args.self.now) c.requires.sound slot may) c.reclaimable.result c.reclaimable.ensures.some

pub returns-clause-none : goal.returns-clause-none
returns-clause-none g c =
    none_on c.reclaimable.result ((slot : ℕ) → epoch.IsReclaimable c.args.self.now.stock.store.pins slot → ⊥)
    ((slot : ℕ) → MayReclaim (state_of (meant_in g.P.HasMeaning.meaning g.A.Allocator.charge c.args.self.now)) slot → ⊥)
    (λ never slot may. never slot (pins_may g.P.Payload.always_shared g.P.HasMeaning.same_meaning (meant_in g.P.HasMeaning.meaning g.A.Allocator.charge c.args.self.now) c.requires.sound slot may)) c.reclaimable.ensures.none
