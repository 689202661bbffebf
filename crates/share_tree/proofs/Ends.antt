-- The ends of a list of pairs and the neighbours of a key in it, with payloads replaced by their meanings.
use Rattle.std.proofs.Common.{◌≡◌, ℕ, ◌+◌, ◌^◌, List, [], ◌∷◌, Option, Some, None, refl, sym, ap, ◌∙◌}
use Rattle.std.specs.Option.{option_map}
use Rattle.spec_map.specs.Map.{between}
use Rattle.spec_map.specs.Near.{first_of, last_of, floor_of, below_of, ceiling_of, above_of, without_pair}
use Rattle.node_table.proofs.KindLaws.{between-mapped, without-mapped}
use Rattle.node_table.specs.inner.Kinds.{mapped}

module _ {X Y : Type 0} (f : X → Y) where
  abbrev pub meant : ℕ × X → ℕ × Y
  meant e = (e.0, f e.1)

  first_mapped : (es : List (ℕ × X)) → option_map meant (first_of es) ≡ first_of (mapped f es)
  first_mapped [] = refl
  first_mapped (e ∷ es) = refl

  last_mapped : (es : List (ℕ × X)) → option_map meant (last_of es) ≡ last_of (mapped f es)
  last_mapped [] = refl
  last_mapped (e ∷ []) = refl
  last_mapped (e ∷ next ∷ es) = last_mapped (next ∷ es)

  module _ {R : Type 0} (read : R → X) (r : Option (ℕ × R)) (es : List (ℕ × X)) where
    abbrev Reads : Option (ℕ × X) → Type 0
    Reads o = option_map (λ (lent : ℕ × R). (lent.0, read lent.1)) r ≡ o

    abbrev Means : Option (ℕ × Y) → Type 0
    Means o = option_map (λ (lent : ℕ × R). (lent.0, f (read lent.1))) r ≡ o

    means : (o : Option (ℕ × X)) → Reads o → Means (option_map meant o)
    means o is = both r ∙ ap (λ (x : Option (ℕ × X)). option_map meant x) is
      where
        both : (l : Option (ℕ × R)) → option_map (λ (lent : ℕ × R). (lent.0, f (read lent.1))) l
            ≡ option_map meant (option_map (λ (lent : ℕ × R). (lent.0, read lent.1)) l)
        both None = refl
        both (Some lent) = refl

    pub first_means : Reads (first_of es) → Means (first_of (mapped f es))
    first_means is = means (first_of es) is ∙ first_mapped es

    pub last_means : Reads (last_of es) → Means (last_of (mapped f es))
    last_means is = means (last_of es) is ∙ last_mapped es

    first_between : (a b : ℕ) → Reads (first_of (between es a b)) → Means (first_of (between (mapped f es) a b))
    first_between a b is =
        means (first_of (between es a b)) is
        ∙ (first_mapped (between es a b) ∙ ap (λ (xs : List (ℕ × Y)). first_of xs) (sym (between-mapped f es a b)))

    last_between : (a b : ℕ) → Reads (last_of (between es a b)) → Means (last_of (between (mapped f es) a b))
    last_between a b is =
        means (last_of (between es a b)) is
        ∙ (last_mapped (between es a b) ∙ ap (λ (xs : List (ℕ × Y)). last_of xs) (sym (between-mapped f es a b)))

    pub floor_means : (k : ℕ) → Reads (floor_of es k) → Means (floor_of (mapped f es) k)
    floor_means k is = last_between 0 (k + 1) is

    pub below_means : (k : ℕ) → Reads (below_of es k) → Means (below_of (mapped f es) k)
    below_means k is = last_between 0 k is

    pub ceiling_means : (k : ℕ) → Reads (ceiling_of es k) → Means (ceiling_of (mapped f es) k)
    ceiling_means k is = first_between k (2 ^ 64) is

    pub above_means : (k : ℕ) → Reads (above_of es k) → Means (above_of (mapped f es) k)
    above_means k is = first_between (k + 1) (2 ^ 64) is

  -- what a pop returns
  pub last_popped : (r : Option (ℕ × X)) (es : List (ℕ × X)) → r ≡ last_of es → option_map meant r ≡ last_of (mapped f es)
  last_popped r es is = ap (λ (o : Option (ℕ × X)). option_map meant o) is ∙ last_mapped es

  -- what a pop leaves
  without_meant : (es : List (ℕ × X)) (o : Option (ℕ × X)) → mapped f (without_pair es o) ≡ without_pair (mapped f es) (option_map meant o)
  without_meant es None = refl
  without_meant es (Some e) = without-mapped f es e.0

  module _ (es ns : List (ℕ × X)) where
    pub without_first : ns ≡ without_pair es (first_of es) → mapped f ns ≡ without_pair (mapped f es) (first_of (mapped f es))
    without_first is =
        ap (λ (xs : List (ℕ × X)). mapped f xs) is
        ∙ (without_meant es (first_of es) ∙ ap (λ (o : Option (ℕ × Y)). without_pair (mapped f es) o) (first_mapped es))

    pub without_last : ns ≡ without_pair es (last_of es) → mapped f ns ≡ without_pair (mapped f es) (last_of (mapped f es))
    without_last is =
        ap (λ (xs : List (ℕ × X)). mapped f xs) is
        ∙ (without_meant es (last_of es) ∙ ap (λ (o : Option (ℕ × Y)). without_pair (mapped f es) o) (last_mapped es))
