-- The last operation of a legal history.
use Rattle.std.proofs.Common.{Bool, List, [], ◌∷◌, ◌++◌}
use Rattle.share_rule.specs.History.{Entry, operations_of}
use Rattle.spec_map.specs.Legal.{Allows, IsLegal, after_operation}
use Rattle.spec_map.specs.Map.{Pairs}
use Rattle.spec_map.specs.Refusal.{never}

-- it is one that the map allows then
pub last_allowed : {T : Type 0} (same : T → T → Bool) (m : Pairs T) (es : List (Entry T)) (e : Entry T) (n : Pairs T) → IsLegal same never m (operations_of (es ++ e ∷ [])) n → (a : Pairs T) × Allows same never a e.operation
last_allowed same m [] e n h = (m, h.0)
last_allowed same m (x ∷ xs) e n h = last_allowed same (after_operation same m x.operation) xs e n h.1
