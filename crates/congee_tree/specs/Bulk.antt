-- Calls that change many pairs at once.
use Rattle.std.specs.Prelude.{◌≡◌, ℕ, ◌+◌, List, [], Option, Some, None, fold}
use Rattle.std.specs.Fn.{Mut, Called}
use Rattle.spec_map.specs.Map.{Pairs, put, between}
pub use Rattle.tree_edit.specs.Calls.{Retains}
pub use Rattle.tree_edit.specs.Outside.{outside}
use denote.Ref.{Bor}

-- the map after insertions of these pairs, one after another, each key and value written as its number
abbrev pub put_all : {K V : Type 0} → (K → ℕ) → (V → ℕ) → Pairs ℕ → List (K × V) → Pairs ℕ
put_all key value m pairs = fold (λ es pair. put es (key pair.0) (value pair.1)) m pairs

-- the least number that a key after this one can be: any number where there is none
abbrev pub next_of : Option ℕ → ℕ
next_of None = 0
next_of (Some k) = k + 1

-- the pairs between a least and a greatest key, or none
abbrev pub unread_pairs : {V : Type 0} → Pairs V → Option (ℕ × ℕ) → Pairs V
unread_pairs es None = []
unread_pairs es (Some keys) = between es keys.0 (keys.1 + 1)

-- a call of f at a key and a `&` to a payload may return r, and leave f'
pub record CalledAtEntry {F K P R : Type 0} (g : Mut F (K × (Bor P × Unit {0})) R) (f : F) (k : K) (p : P) (r : R) (f' : F) : Type 0 where
  pub shown : Bor P
  pub shows : shown.now ≡ p
  pub called : Called g f (k, (shown, tt)) r f'
