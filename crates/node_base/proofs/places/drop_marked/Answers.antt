use Rattle.std.proofs.Common.{arith, None, inl, inr}
use Rattle.std.proofs.lemmas.Bool.{cases_lt}
use Rattle.std.proofs.lemmas.List.{get_or_past}
use Rattle.node_base.proofs.PlacesLaws.{all-empty}
use Rattle.node_base.proofs.places.drop_marked.Goals as goal

pub returns : goal.returns
returns g c =
    let slots = c.loop-byte.cells.slots in
    all-empty 256 slots c.loop-byte.invariant.long
    (λ b. elim (cases_lt b 256) [
      | inl less ↦ c.loop-byte.invariant.gone b (omega (arith, less, c.loop-byte-test.false))
      | inr past ↦ get_or_past slots b None (omega (arith, past, c.loop-byte.invariant.long))
    ])
