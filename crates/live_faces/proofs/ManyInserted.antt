-- Insertions, one after another.
use Rattle.std.proofs.Common.{◌≡◌, ℕ, List, [], ◌∷◌, ◌++◌, Option, refl, subst}
use Rattle.live_nodes.specs.Views.{ask, inserted}
use Rattle.live_nodes.specs.Known.{Known}
use Rattle.live_faces.specs.Returned.{ReturnsOld}
use Rattle.live_faces.specs.Inserted.{HaveInserted}

module _ {K V : Type 0} (key_of : K → ℕ) (value_of : V → ℕ) {B : Type 0} (of_number : ℕ → B) where
  -- one more
  pub inserted_more : (ps : List (K × V)) (p : K × V) (k m n : Known) (before : Option B) → HaveInserted key_of value_of ps k m
      → ReturnsOld of_number m (inserted (ask m.caller (key_of p.0) (value_of p.1) 1)) before n → HaveInserted key_of value_of (ps ++ p ∷ []) k n
  inserted_more [] p k m n before all one =
      subst (λ (z : Known). HaveInserted key_of value_of (p ∷ []) z n) all (one.0, n, one.2, refl)
  inserted_more (q ∷ ps) p k m n before all one = (all.0, all.1, all.2, inserted_more ps p all.1 m n before all.3 one)
