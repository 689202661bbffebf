-- MANY PAIRS ARE INSERTED one by one, while others write. Keys and values are written as numbers.
use Rattle.std.specs.Prelude.{◌≡◌, ℕ, List, [], ◌∷◌, Option}
use Rattle.live_nodes.specs.Views.{ask, inserted}
use Rattle.live_nodes.specs.Known.{Known, MadeCall}

module _ {K V : Type 0} (key_of : K → ℕ) (value_of : V → ℕ) where
  -- THESE PAIRS WERE INSERTED in their order, one call after the other, by a guard that knew k
  abbrev pub HaveInserted : List (K × V) → Known → Known → Type 0
  HaveInserted [] k n = n ≡ k
  HaveInserted (p ∷ ps) k n = (found : Option ℕ) × (m : Known)
      × MadeCall k (inserted (ask k.caller (key_of p.0) (value_of p.1) 1) found) m × HaveInserted ps m n
