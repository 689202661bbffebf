-- What is in a list.
use Rattle.std.proofs.Common.{◌≡◌, ◌⊎◌, inl, inr, ℕ, Bool, true, false, List, [], ◌∷◌, ◌++◌, refl, sym, ap, ◌∙◌}
use Rattle.std.specs.Prelude.{◌||◌}
use Rattle.std.specs.List.{list_any}
use Rattle.word_hazards.specs.Views.{In}

true-false : true ≡ false → ⊥
true-false e = absurd cc

right_false : (a b : Bool) → (a || b) ≡ false → b ≡ false
right_false true b e = absurd (true-false e)
right_false false b e = e

left_false : (a b : Bool) → (a || b) ≡ false → a ≡ false
left_false true b e = absurd (true-false e)
left_false false b e = refl

-- no element passes a test, so what does isn't in the list
pub not_in : (p : ℕ → Bool) (x : ℕ) → p x ≡ true → (xs : List ℕ) → list_any p xs ≡ false → In x xs → ⊥
not_in p x is [] e z = absurd z
not_in p x is (y ∷ xs) e (inl z) = true-false (sym is ∙ (ap p (sym z) ∙ left_false (p y) (list_any p xs) e))
not_in p x is (y ∷ xs) e (inr z) = not_in p x is xs (right_false (p y) (list_any p xs) e) z

pub in_left : (x : ℕ) (xs ys : List ℕ) → In x xs → In x (xs ++ ys)
in_left x [] ys e = absurd e
in_left x (z ∷ xs) ys (inl e) = inl e
in_left x (z ∷ xs) ys (inr e) = inr (in_left x xs ys e)

pub in_last : (x y : ℕ) (xs : List ℕ) → y ≡ x → In x (xs ++ y ∷ [])
in_last x y [] e = inl e
in_last x y (z ∷ xs) e = inr (in_last x y xs e)

pub of_longer : (x y : ℕ) (xs : List ℕ) → In x (xs ++ y ∷ []) → (y ≡ x) ⊎ In x xs
of_longer x y [] (inl e) = inl e
of_longer x y [] (inr e) = absurd e
of_longer x y (z ∷ xs) (inl e) = inr (inl e)
of_longer x y (z ∷ xs) (inr e) = push (of_longer x y xs e)
  where
    push : (y ≡ x) ⊎ In x xs → (y ≡ x) ⊎ In x (z ∷ xs)
    push (inl a) = inl a
    push (inr a) = inr (inr a)
