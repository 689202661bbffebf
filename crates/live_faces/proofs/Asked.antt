-- A closure that was called before.
use Rattle.std.proofs.Common.{◌≡◌, ℕ, Option, subst}
use Rattle.live_nodes.specs.Known.{Known}
use Rattle.live_updates.specs.Closures.{Reaches}
use Rattle.live_updates.proofs.Reached.{last_on}
use Rattle.live_faces.specs.Returned.{ReturnsInserted}

module _ {V F : Type 0} (of_number : ℕ → V) (step : F → Option ℕ → ℕ → F → Type 0) where
  last_inserted : (k n : Known) (f g h : F) (key : ℕ) (before : Option V) → Reaches step f g → ReturnsInserted of_number k step g h key before n → ReturnsInserted of_number k step f h key before n
  last_inserted k n f g h key before first r = (r.0, r.1, r.2, r.3, last_on step f g h r.0 r.1 first r.4)

  pub inserted_on : (k k' n : Known) (f g h : F) (key : ℕ) (before : Option V) → k' ≡ k → Reaches step f g → ReturnsInserted of_number k' step g h key before n → ReturnsInserted of_number k step f h key before n
  inserted_on k k' n f g h key before same first r = last_inserted k n f g h key before first (subst (λ (z : Known). ReturnsInserted of_number z step g h key before n) same r)
