-- MEMBERS OF A LIST of numbers, by the test and by the fact.
use Rattle.std.proofs.Common.{◌≡◌, ℕ, Bool, true, false, IsTrue, List, [], ◌∷◌, ◌||◌, ◌⊎◌, inl, inr, refl, subst}
use Rattle.std.proofs.lemmas.Bool.{eq-eqb, ne_eqb, cases_eq}
use Rattle.std.proofs.lemmas.Bool.Decides.{eqb_tells}
use Rattle.spec_olc.specs.Lists.{is_in}
use Rattle.olc_state.specs.inner.Tables.{IsIn}
use Rattle.olc_state.proofs.Unlike.{false_true}

pub first_in : (x : ℕ) (xs : List ℕ) → IsTrue (is_in x (x ∷ xs))
first_in x xs = rw (eq-eqb x x refl) refl

pub next_in : (x s : ℕ) (xs : List ℕ) → IsTrue (is_in s xs) → IsTrue (is_in s (x ∷ xs))
next_in x s xs h =
    elim (cases_eq x s) [
      | inl e ↦ rw (eq-eqb x s e) refl
      | inr off ↦ rw (ne_eqb x s off) h
    ]

-- `is_in` is true exactly for the members of the list
pub listed : (s : ℕ) (slots : List ℕ) → IsIn s slots → IsTrue (is_in s slots)
listed s [] h = absurd h
listed s (x ∷ xs) h = elim h [ inl e ↦ subst (λ (z : ℕ). IsTrue (is_in z (x ∷ xs))) e (first_in x xs) | inr later ↦ next_in x s xs (listed s xs later) ]

pub told : (s : ℕ) (slots : List ℕ) → IsTrue (is_in s slots) → IsIn s slots
told s [] h = absurd (false_true h)
told s (x ∷ slots) h =
    elim (eqb_tells x s) [
      | inl same ↦ inl same.1
      | inr far ↦ inr (told s slots (subst (λ b. IsTrue (b || is_in s slots)) far.0 h))
    ]

pub true_or_false : (b : Bool) → (b ≡ true) ⊎ (b ≡ false)
true_or_false true = inl refl
true_or_false false = inr refl

pub true_or_not : (b : Bool) → IsTrue b ⊎ (IsTrue b → ⊥)
true_or_not true = inl refl
true_or_not false = inr (λ e. false_true e)
