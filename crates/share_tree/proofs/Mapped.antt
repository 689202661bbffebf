-- Pairs, with payloads replaced by their meanings.
use Rattle.std.proofs.Common.{◌≡◌, ℕ, List, [], ◌∷◌, Option, Some, None, length, map, refl, ap}
use Rattle.spec_map.specs.Map.{lookup, put, without}
use Rattle.node_table.proofs.KindLaws.{length-mapped, lookup-mapped_some, lookup-mapped_none, put-mapped, without-mapped}
use Rattle.node_table.specs.inner.Kinds.{mapped}
use Rattle.spec_olc.specs.Meaning.{in_some}

module _ {X Y : Type 0} (f : X → Y) where
  pub lookup_mapped : (es : List (ℕ × X)) (k : ℕ) → lookup (mapped f es) k ≡ in_some f (lookup es k)
  lookup_mapped es k = at (lookup es k) refl
    where
      at : (o : Option X) → lookup es k ≡ o → lookup (mapped f es) k ≡ in_some f o
      at None is = lookup-mapped_none f es k is
      at (Some c) is = lookup-mapped_some f es k c is

  pub put_mapped : (es : List (ℕ × X)) (k : ℕ) (c : X) → mapped f (put es k c) ≡ put (mapped f es) k (f c)
  put_mapped es k c = put-mapped f es k c

  pub without_mapped : (es : List (ℕ × X)) (k : ℕ) → mapped f (without es k) ≡ without (mapped f es) k
  without_mapped es k = without-mapped f es k

  -- the keys are the same
  pub keys_mapped : (es : List (ℕ × X)) → map (λ (e : ℕ × Y). e.0) (mapped f es) ≡ map (λ (e : ℕ × X). e.0) es
  keys_mapped [] = refl
  keys_mapped (e ∷ es) = ap (λ (ks : List ℕ). e.0 ∷ ks) (keys_mapped es)

  -- and so is their number
  pub length_mapped : (es : List (ℕ × X)) → length (mapped f es) ≡ length es
  length_mapped es = length-mapped f es

-- payloads that are their own meanings
pub mapped_itself : {X : Type 0} (es : List (ℕ × X)) → mapped (λ (x : X). x) es ≡ es
mapped_itself [] = refl
mapped_itself (e ∷ es) = ap (λ xs. e ∷ xs) (mapped_itself es)
