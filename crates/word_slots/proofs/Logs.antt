-- Reads of a log that has grown, and of its beginnings.
use Rattle.std.proofs.Common.{◌≡◌, ℕ, zero, suc, ◌⊎◌, ◌≤◌, List, [], ◌∷◌, ◌++◌, length, slice_get, Some, refl, ap, sym, ◌∙◌, inl, inr, arith, append_assoc, length-append, subst}
use Rattle.std.proofs.lemmas.List.{append-nil}
use Rattle.std.specs.List.{All}
use mathlib.Core.List.{IsPrefix}

module _ {A : Type 0} where
  pub get_longer : (xs ys : List A) (i : ℕ) (a : A) → slice_get xs i ≡ Some a → slice_get (xs ++ ys) i ≡ Some a
  get_longer [] ys i a e = absurd cc
  get_longer (x ∷ xs) ys zero a e = e
  get_longer (x ∷ xs) ys (suc i) a e = get_longer xs ys i a e

  pub get_last : (xs : List A) (a : A) → slice_get (xs ++ a ∷ []) (length xs) ≡ Some a
  get_last [] a = refl
  get_last (x ∷ xs) a = get_last xs a

  -- what is in a list with one more element is in the list, or is that element
  pub get_snoc : (xs : List A) (b : A) (i : ℕ) (a : A) → slice_get (xs ++ b ∷ []) i ≡ Some a → (slice_get xs i ≡ Some a) ⊎ ((i ≡ length xs) × (Some b ≡ Some a))
  get_snoc [] b zero a e = inr (refl, e)
  get_snoc [] b (suc i) a e = absurd cc
  get_snoc (x ∷ xs) b zero a e = inl e
  get_snoc (x ∷ xs) b (suc i) a e = let r = get_snoc xs b i a e in split_of r
    where
      split_of : (slice_get xs i ≡ Some a) ⊎ ((i ≡ length xs) × (Some b ≡ Some a)) → (slice_get xs i ≡ Some a) ⊎ ((suc i ≡ suc (length xs)) × (Some b ≡ Some a))
      split_of (inl h) = inl h
      split_of (inr h) = inr (ap suc h.0, h.1)

  -- what is in a beginning is in the whole, at the same place
  pub get_prefix : (xs ys : List A) → IsPrefix xs ys → (i : ℕ) (a : A) → slice_get xs i ≡ Some a → slice_get ys i ≡ Some a
  get_prefix xs ys p i a e = subst (λ (zs : List A). slice_get zs i ≡ Some a) p.1 (get_longer xs p.0 i a e)

  pub prefix_length : (xs ys : List A) → IsPrefix xs ys → length xs ≤ length ys
  prefix_length xs ys p = omega (arith, sym (ap length p.1) ∙ length-append xs p.0)

  pub prefix_self : (xs : List A) → IsPrefix xs xs
  prefix_self xs = ([], append-nil xs)

  pub prefix_trans : (xs ys zs : List A) → IsPrefix xs ys → IsPrefix ys zs → IsPrefix xs zs
  prefix_trans xs ys zs p q = (p.0 ++ q.0, sym (append_assoc xs p.0 q.0) ∙ (ap (λ w. w ++ q.0) p.1 ∙ q.1))

  pub all_one : (P : A → Type 0) (x : A) → P x → All P (x ∷ [])
  all_one P x p zero d less = p
  all_one P x p (suc k) d less = absurd (omega arith)
