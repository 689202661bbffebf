-- When a call may be refused for lack of memory.
use Rattle.std.specs.Prelude.{◌≡◌, ℕ, ◌+◌, ◌*◌, ◌/◌, length, None, ◌⊎◌}
use Rattle.spec_map.specs.Map.{Pairs, lookup, between}
use Rattle.spec_map.specs.Call.{Call, insert, compute_or_insert, keys, range}

-- Which refusals a run may have: none, as the decided calls of the protocol; those of any new key, as a sorted vector;
-- those of a key that needs a node of its own or a larger one, as a tree.
pub data MayRunOut : Type 0 where
  never : MayRunOut
  at_new_key : MayRunOut
  at_new_node : MayRunOut

-- A leaf is made for the first of its keys, and grows for the one that it has no room for.
abbrev pub IsFullOrAbsent : ℕ → Type 0
IsFullOrAbsent n = (n ≡ 0) ⊎ ((n ≡ 4) ⊎ ((n ≡ 16) ⊎ (n ≡ 48)))

-- a list, of keys or of pairs, may be refused
abbrev pub MayNotList : MayRunOut → Type 0
MayNotList never = ⊥
MayNotList at_new_key = Unit {0}
MayNotList at_new_node = Unit {0}

module _ {P : Type 0} where
  -- the pairs whose keys share their first seven bytes with this one
  abbrev pub leaf_pairs : Pairs P → ℕ → Pairs P
  leaf_pairs m k = between m (k / 256 * 256) (k / 256 * 256 + 256)

  -- the key is absent
  pub record IsNewKey (m : Pairs P) (k : ℕ) : Type 0 where
    pub absent : lookup m k ≡ None

  -- the key is absent, and a node has to be made for it
  pub record NeedsNode (m : Pairs P) (k : ℕ) : Type 0 where
    pub absent : lookup m k ≡ None
    pub edge : IsFullOrAbsent (length (leaf_pairs m k))

  -- an insertion of this key may be refused
  abbrev pub MayNotInsert : MayRunOut → Pairs P → ℕ → Type 0
  MayNotInsert never m k = ⊥
  MayNotInsert at_new_key m k = IsNewKey m k
  MayNotInsert at_new_node m k = NeedsNode m k

  -- this call may be refused: no other call takes memory
  abbrev pub MayRefuse : MayRunOut → Pairs P → Call ℕ P → Type 0
  MayRefuse r m (insert k v) = MayNotInsert r m k
  MayRefuse r m (compute_or_insert k) = MayNotInsert r m k
  MayRefuse r m keys = MayNotList r
  MayRefuse r m (range a b n) = MayNotList r
  MayRefuse r m call = ⊥
