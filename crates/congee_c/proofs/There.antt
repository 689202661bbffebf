-- What an answer shows.
use Rattle.std.proofs.Common.{◌≡◌, ℕ, pos, Option, None, Some, refl, w32, to_z, of_z}
use Rattle.congee_c.specs.Answer.{is_there}

-- 1 is answered only where there is a value
pub there : (o : Option ℕ) → to_z w32 (of_z w32 (is_there o)) ≡ pos 1 → (v : ℕ) × (o ≡ Some v)
there None one = absurd (cc)
there (Some v) one = (v, refl)
