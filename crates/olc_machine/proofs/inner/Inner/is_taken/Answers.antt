use Rattle.std.proofs.Common.{◌∙◌, sym, inl, inr}
use Rattle.std.proofs.lemmas.Bool.{false≢true}
use Rattle.olc_state.proofs.States.{shown_seat}
use Rattle.olc_machine.specs.inner.Inside.{inside}
use Rattle.olc_machine.proofs.Handed.{flies}
use Rattle.olc_machine.proofs.inner.Inner.is_taken.Goals as goal

pub returns-then-is_seated : goal.returns-then-is_seated
returns-then-is_seated g c = (
  (λ t. inl (shown_seat (inside g.A.Allocator.charge c.args.self.now) c.args.id ∙ (sym c.is_seated.ensures ∙ t))),
  (λ h. c.if-is_seated.true),
)

pub returns-else-is_seated : goal.returns-else-is_seated
returns-else-is_seated g c =
    let w = inside g.A.Allocator.charge c.args.self.now in
    let f = flies g.P.HasMeaning.meaning g.P.Payload.always_shared g.P.HasMeaning.same_meaning w c.args.id c.ranges.id.fits c.requires.sound in (
      (λ t. inr (f.0 (c.is_in_flight.ensures.0 t))),
      (λ h.
          elim h [
            | inl seated ↦ absurd (false≢true (sym c.if-is_seated.false ∙ (c.is_seated.ensures ∙ (sym (shown_seat w c.args.id) ∙ seated))))
            | inr flies ↦ c.is_in_flight.ensures.1 (f.1 flies)
          ]),
    )
