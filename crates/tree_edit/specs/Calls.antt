-- The pairs that a call hands on while it removes them, or asks about.
use Rattle.std.specs.Prelude.{◌≡◌, ℕ, ◌<◌, ◌≤◌, ◌^◌, Bool, List, [], ◌∷◌, ◌++◌, None, if◌then◌else◌}
use Rattle.std.specs.List.{FoldsTo}
use Rattle.spec_map.specs.Map.{Pairs, lookup, between, Rises}

-- no key is from a start on and below another key
abbrev pub HasNoneAfter : {P : Type 0} → Pairs P → ℕ → ℕ → Type 0
HasNoneAfter m start key = (k : ℕ) → start ≤ k → k < key → lookup m k ≡ None

-- pairs between two keys were handed on, in their order: what hands on those that are left does so, after those that are
-- gone, with all that there were
abbrev pub Calls : {F P : Type 0} → (F → ℕ × P → F → Type 0) → ℕ → ℕ → F → Pairs P → F → Pairs P → Type 0
Calls {F} step start end f m g n = (last : F) → FoldsTo step g (between n start end) last → FoldsTo step f (between m start end) last

-- A closure's steps at the items of a list, in their order, each once: it answers which items stay. Those are `kept`.
module _ {F E : Type 0} (step : F → E → Bool → F → Type 0) where
  abbrev pub Retains : F → List E → List E → F → Type 0
  Retains f [] kept last = (kept ≡ []) × (last ≡ f)
  Retains f (e ∷ es) kept last = (stays : Bool) × (next : F) × (rest : List E)
      × step f e stays next
      × Retains next es rest last
      × (kept ≡ (if stays then e ∷ rest else rest))

-- WHILE A CLOSURE IS ASKED: the pairs are those below a key, which it kept, and those from it on, at which it is still
-- to be called. What those calls keep, behind the former, is what all calls keep of the first pairs.
pub record Asking {F P : Type 0} (step : F → ℕ × P → Bool → F → Type 0) (f : F) (first : Pairs P) (g : F) (m : Pairs P) (from : ℕ) : Type 0 where
  pub done : Pairs P
  pub left : Pairs P
  pub is : m ≡ done ++ left
  pub below : Rises 0 from done
  pub above : Rises from (2 ^ 64) left
  pub further : (kept : Pairs P) (last : F) → Retains step g left kept last → Retains step f first (done ++ kept) last
