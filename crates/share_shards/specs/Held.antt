-- SHARDS THAT ARE HELD: a list of their numbers, each with the value in its slot, and what these values are of the map.
use Rattle.std.specs.Prelude.{◌≡◌, ℕ, Bool, true, false, IsFalse, List, [], ◌∷◌, Option, None, Some, map, ◌==◌, if◌then◌else◌}
use Rattle.share_parts.specs.Parts.{kept, Ascends}
use Rattle.spec_map.specs.Map.{Pairs, lookup}

-- the number is in the list
abbrev pub is_in : List ℕ → ℕ → Bool
is_in [] i = false
is_in (n ∷ ns) i = if n == i then true else is_in ns i

-- each number is in the list once
abbrev pub AreDistinct : List ℕ → Type 0
AreDistinct [] = Unit {0}
AreDistinct (n ∷ ns) = IsFalse (is_in ns n) × AreDistinct ns

module _ {S : Type 0} where
  -- the shards that are held
  abbrev pub numbers : List (ℕ × S) → List ℕ
  numbers held = map (λ h. h.0) held

  -- the slots of a table that hold these values
  abbrev pub slots_of : List (ℕ × S) → List (ℕ × Option S)
  slots_of held = map (λ h. (h.0, Some h.1)) held

  -- and back
  abbrev pub values_of : List (ℕ × Option S) → List (ℕ × S)
  values_of [] = []
  values_of ((i, Some value) ∷ slots) = (i, value) ∷ values_of slots
  values_of ((i, None) ∷ slots) = values_of slots

module _ (shard : ℕ → ℕ) where
  -- the keys of one shard
  abbrev pub keys_at : ℕ → ℕ → Bool
  keys_at i k = shard k == i

  -- the keys of these shards
  abbrev pub keys_of : List ℕ → ℕ → Bool
  keys_of ns k = is_in ns (shard k)

-- the values that are held contain these pairs, which have no keys of other shards
pub record Contain {T S : Type 0} (content : S → Pairs T → Type 0) (shard : ℕ → ℕ) (held : List (ℕ × S)) (pairs : Pairs T) : Type 0 where
  pub ordered : Ascends pairs
  pub within : kept (keys_of shard (numbers held)) pairs ≡ pairs
  pub parts : (i : ℕ) (value : S) → lookup held i ≡ Some value → content value (kept (keys_at shard i) pairs)

-- EACH SHARD WAS VISITED, the last that was taken first. `does` is of one visit: the visitor and the buffer before it, the
-- shard and its value, the visitor and the buffer after it, and the value then
module _ {V E S : Type 0} (does : V → List E → ℕ → S → V → List E → S → Type 0) where
  abbrev pub Visited : V → List E → List (ℕ × S) → V → List E → List (ℕ × S) → Type 0
  Visited v before [] w after [] = (w ≡ v) × (after ≡ before)
  Visited v before (h ∷ held) w after (k ∷ values) =
      (k.0 ≡ h.0) × (next : V) × (between : List E) × does v before h.0 h.1 next between k.1 × Visited next between held w after values
  Visited v before [] w after (k ∷ values) = ⊥
  Visited v before (h ∷ held) w after [] = ⊥
