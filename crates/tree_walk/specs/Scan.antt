-- The pairs of a map from a key on.
use Rattle.std.specs.Prelude.{ℕ, ◌^◌, [], ◌∷◌, Option, Some, None}
use Rattle.spec_map.specs.Map.{Pairs, between}
use Rattle.spec_map.specs.Near.{first_of}

module _ {P : Type 0} where
  -- the pairs from a key on
  abbrev pub from_key : ℕ → Pairs P → Pairs P
  from_key start es = between es start (2 ^ 64)

  -- the key of the first pair
  abbrev pub first_number : Pairs P → Option ℕ
  first_number [] = None
  first_number (e ∷ es) = Some e.0

  -- the first pair, if there is one
  abbrev pub first_pair : Pairs P → Option (ℕ × P)
  first_pair es = first_of es
