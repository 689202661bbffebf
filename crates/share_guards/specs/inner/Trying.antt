-- The operations of holds that may miss memory.
use Rattle.std.specs.Prelude.{ℕ, List, [], ◌∷◌, Option, Result, Ok, Err, take}
use Rattle.share_guards.specs.Many.{insertions, owned_pair}
use Rattle.share_guards.specs.Operations.{returned}
use Rattle.spec_map.specs.Call.{Near, Operation, found, nearest}
use Rattle.spec_map.specs.Map.{Pairs}

-- a pair was looked for: none if one more owner was refused
abbrev pub finding : {P T E : Type 0} → (P → T) → Near ℕ → Result (Option (ℕ × P)) E → List (Operation ℕ T T)
finding owned near (Ok pair) = returned (nearest near) (found (owned_pair owned pair)) ∷ []
finding owned near (Err e) = []

-- as many of these pairs as were inserted
abbrev pub inserted_of : {U : Type 0} → Result U ℕ → Pairs ℕ → Pairs ℕ
inserted_of (Ok done) pairs = pairs
inserted_of (Err inserted) pairs = take inserted pairs

abbrev pub inserting : {U : Type 0} → Result U ℕ → Pairs ℕ → Pairs ℕ → List (Operation ℕ ℕ ℕ)
inserting result m pairs = insertions m (inserted_of result pairs)
