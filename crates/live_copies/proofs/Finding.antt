-- What a reader knows goes on.
use Rattle.std.proofs.Common.{◌≡◌, ℕ, ◌<◌, ◌≤◌, Option, Some, None, IfSome, sym, ◌∙◌, subst}
use Rattle.live_nodes.specs.Seats.{SeatView}
use Rattle.live_nodes.specs.Levels.{up, digit, place_at}
use Rattle.live_nodes.specs.Views.{View}
use Rattle.live_reads.specs.Paths.{Names, Sights, Keeps}
use Rattle.live_copies.specs.declared.children.Child.{Child}
use Rattle.live_copies.specs.inner.Children.{IsChild}

abbrev Seen : Type 0
Seen = SeatView View

pub sights_on : (v w : Seen) (n : ℕ) → Keeps v w → Sights v n → Sights w n
sights_on v w n k s = record { spot = s.spot; met = k.met s.spot s.met; placed = k.places (place_at s.spot) s.placed; named = s.named }

pub child_fits : (w : Seen) (key height byte : ℕ) (child : Child) (found : Option Child) → Names w child.name child.key child.height → 1 ≤ child.height → IfSome found (λ c. c ≡ child) → IfSome found (λ c. (c.height < height) × (1 ≤ c.name) × (up height c.key ≡ up height key) × (digit height c.key ≡ byte) × (c.byte ≡ byte)) → IfSome found (λ c. IsChild w key height c × (c.byte ≡ byte))
child_fits w key height byte child None names low same fits = tt
child_fits w key height byte child (Some c) names low same fits = (
  record {
    names = subst (λ (z : Child). Names w z.name z.key z.height) (sym same) names;
    low = subst (λ (z : Child). 1 ≤ z.height) (sym same) low;
    lower = fits.0;
    named = fits.1;
    upper = fits.2;
    byte = fits.3 ∙ sym fits.4;
  },
  fits.4,
)
