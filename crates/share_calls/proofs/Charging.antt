-- What the trees of all shards are charged.
use Rattle.std.proofs.Common.{◌≡◌, ℕ, ◌+◌, List, [], ◌∷◌, length, map, refl, sym, ap, subst, ◌∙◌}
use Rattle.std.proofs.lemmas.List.{length-map}
use Rattle.node_table.specs.Charge.{BudgetView}
use Rattle.share_calls.specs.Charged.{IsCharged}
use Rattle.share_moments.specs.declared.state.State.{State}
use Rattle.share_rule.specs.Known.{Known, MadeCall}
use Rattle.share_visits.specs.Charged.{AreCharges, IsChargeOfAll, sum_of}
use Rattle.share_works.specs.Made.{KnowsBy, returned}
use Rattle.spec_map.specs.Call.{count as counting, counted}
use Rattle.spec_olc.specs.Runs.{same_number}
use Rattle.tree_edit.specs.Tree.{TreeView}
use Rattle.tree_edit.specs.TreeCalls.{IsChargeOf}

-- the trees of all shards
module _ (f : State → TreeView ℕ BudgetView) where
  charges_of : (maps : List State) (sizes : List ℕ) → AreCharges (λ s. IsChargeOf (f s)) maps sizes → AreCharges IsChargeOf (map f maps) sizes
  charges_of [] [] h = h
  charges_of (s ∷ maps) (b ∷ sizes) h = (h.0, charges_of maps sizes h.1)
  charges_of [] (b ∷ sizes) h = absurd h
  charges_of (s ∷ maps) [] h = absurd h

  pub sums_of : (maps : List State) → sum_of (λ s. length (f s).pairs) maps ≡ sum_of (λ (t : TreeView ℕ BudgetView). length t.pairs) (map f maps)
  sums_of [] = refl
  sums_of (s ∷ maps) = ap (λ (n : ℕ). length (f s).pairs + n) (sums_of maps)

  pub charge_of : (maps : List State) (bytes : ℕ) → IsChargeOfAll (λ s. IsChargeOf (f s)) maps bytes → IsChargeOfAll IsChargeOf (map f maps) bytes
  charge_of maps bytes h = record { sizes = h.sizes; each = charges_of maps h.sizes h.each; sum = h.sum }

pub trees_of : (k k' n : Known ℕ) (bytes : ℕ) (maps : List State) → k' ≡ k → length maps ≡ k'.table.slots → KnowsBy (returned counting (counted (sum_of (λ s. length s.map.pairs) maps)) ∷ []) k n → IsChargeOfAll (λ (s : State). IsChargeOf s.map) maps bytes
    → IsCharged k' bytes n
trees_of k k' n bytes maps is many knows charge =
    let tree : State → TreeView ℕ BudgetView = λ s. s.map in
    (map tree maps, length-map maps tree ∙ many, subst (λ (z : ℕ × Known ℕ). MadeCall same_number z.1 (returned counting (counted z.0)) n) (λ i. (sums_of tree maps i, sym is i)) knows.1, charge_of tree maps bytes charge)
