-- How many of a slice's pairs were inserted: the next one is the one that was refused.
use Rattle.std.proofs.Common.{ℕ, ◌<◌, List, length, refl}
use Rattle.std.proofs.lemmas.Option.{slice_get_within}
use Rattle.std.specs.List.{slice_get}
use Rattle.std.specs.Option.{IsSomeAnd}
use Rattle.std.specs.Prelude.{◌≡◌, Option, Some, None, Result, Ok, Err, IfErr}

module _ {X : Type 0} (many : List X) (refused : X → Type 0) where
  within : (i : ℕ) (o : Option X) → slice_get many i ≡ o → IsSomeAnd o refused → i < length many
  within i None is h = absurd h
  within i (Some x) is h = slice_get_within many i x is

  pub fewer_inserted : {U : Type 0} (left : ℕ → Type 0) (r : Result U ℕ) → IfErr r left → IfErr r (λ inserted. IsSomeAnd (slice_get many inserted) refused) → IfErr r (λ inserted. (inserted < length many) × left inserted)
  fewer_inserted left (Ok done) some next = tt
  fewer_inserted left (Err inserted) some next = (within inserted (slice_get many inserted) refl next, some)
