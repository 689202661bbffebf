-- THE OPERATIONS of calls that insert many pairs, and of those that find or remove a pair of a map of owners.
use Rattle.std.specs.Prelude.{ℕ, List, [], ◌∷◌, Option, Some, None, map}
use Rattle.std.specs.Option.{option_map}
use Rattle.share_guards.specs.Operations.{returned}
use Rattle.share_rule.specs.Known.{Known, MadeCalls}
use Rattle.spec_map.specs.Call.{Near, Operation, found, insert, nearest, old_value, remove}
use Rattle.spec_map.specs.Map.{Pairs, lookup, put}
use Rattle.spec_olc.specs.Runs.{same_number}

-- AN INSERTION OF PAIRS into a map, in their order: each returned what was stored at its key then
abbrev pub insertions : Pairs ℕ → Pairs ℕ → List (Operation ℕ ℕ ℕ)
insertions m [] = []
insertions m (pair ∷ pairs) =
    returned (insert pair.0 pair.1) (old_value (lookup m pair.0)) ∷ insertions (put m pair.0 pair.1) pairs

-- by a guard that knew k: these pairs were inserted at one moment
abbrev pub InsertsMany : Known ℕ → Pairs ℕ → Known ℕ → Type 0
InsertsMany k pairs n = (m : Pairs ℕ) × MadeCalls same_number k (insertions m pairs) n

-- the pairs of a slice, as numbers
abbrev pub numbers_of : {K V : Type 0} → (K → ℕ) → (V → ℕ) → List (K × V) → Pairs ℕ
numbers_of {K} {V} key value many = map (λ (pair : K × V). (key pair.0, value pair.1)) many

-- a pair of a key and an owner, by the value that it owns
abbrev pub owned_pair : {P T : Type 0} → (P → T) → Option (ℕ × P) → Option (ℕ × T)
owned_pair {P} {T} owned pair = option_map (λ (both : ℕ × P). (both.0, owned both.1)) pair

-- A POP of such a map: the pair there was found, and was removed if there was one
abbrev pub popping_owned : {T : Type 0} → Near ℕ → Option (ℕ × T) → List (Operation ℕ T T)
popping_owned near None = returned (nearest near) (found None) ∷ []
popping_owned near (Some pair) =
    returned (nearest near) (found (Some pair)) ∷ returned (remove pair.0) (old_value (Some pair.1)) ∷ []
