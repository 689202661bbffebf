-- Of two pairs, the one that is nearer to a place in a map.
use Rattle.std.specs.Prelude.{ℕ, Option, None, Some, if◌then◌else◌, nat_le}
use Rattle.spec_map.specs.Call.{Near, first, last, floor, below, ceiling, above}

module _ {P : Type 0} where
  -- the pair with the lesser key
  abbrev pub lesser : Option (ℕ × P) → Option (ℕ × P) → Option (ℕ × P)
  lesser None o = o
  lesser (Some x) None = Some x
  lesser (Some x) (Some y) = if nat_le x.0 y.0 then Some x else Some y

  -- the pair with the greater key
  abbrev pub greater : Option (ℕ × P) → Option (ℕ × P) → Option (ℕ × P)
  greater None o = o
  greater (Some x) None = Some x
  greater (Some x) (Some y) = if nat_le y.0 x.0 then Some x else Some y

  abbrev pub nearer : Near ℕ → Option (ℕ × P) → Option (ℕ × P) → Option (ℕ × P)
  nearer first a b = lesser a b
  nearer last a b = greater a b
  nearer (floor k) a b = greater a b
  nearer (below k) a b = greater a b
  nearer (ceiling k) a b = lesser a b
  nearer (above k) a b = lesser a b
