-- The rule holds after a step, if it does for the seat that made it, for the words as they are then, and for each pair with that seat.
use Rattle.std.proofs.Common.{◌≡◌, ◌≢◌, ◌⊎◌, inl, inr, ℕ, zero, suc, ◌<◌, List, [], ◌∷◌, length, set, sym, ap, ◌∙◌, subst, arith}
use mathlib.Core.Option.{some, some-injective, some-ne-none}
use lib.ListN.{get_elem?}
use Rattle.atomic_table.proofs.Lists.{at_set, set_again}
use Rattle.word_book.specs.Book.{State, looked}
use Rattle.word_hazards.specs.Views.{View}
use Rattle.word_hazards.specs.inner.Rule.{AreGrown, IsSeat, AreApart, AreHazards}

pub within : {A : Type 0} (l : List A) (i : ℕ) (a : A) → get_elem? l i ≡ some a → i < length l
within [] i a e = absurd (some-ne-none a (sym e))
within (x ∷ xs) zero a e = omega arith
within (x ∷ xs) (suc i) a e = let r = within xs i a e in omega (arith, r)

-- one value at one place
pub same_at : {A : Type 0} (l : List A) (i j : ℕ) (a b : A) → i ≡ j → get_elem? l i ≡ some a → get_elem? l j ≡ some b → a ≡ b
same_at l i j a b is e f = some-injective a b (sym e ∙ (ap (get_elem? l) is ∙ f))

-- a number at a key, by another name of the key
pub moved : (ws : List ℕ) (k h n : ℕ) → k ≡ h → get_elem? ws k ≡ some n → get_elem? ws h ≡ some n
moved ws k h n e x = ap (get_elem? ws) (sym e) ∙ x

module _ (s : State View) (r : AreHazards s) (id : ℕ) (v v' : View) (ws : List ℕ) (at : get_elem? s.views id ≡ some v) (grown : AreGrown ws) (others : (j : ℕ) (w : View) → get_elem? s.views j ≡ some w → j ≢ id → IsSeat ws w) (own : IsSeat ws v') (apart : (j : ℕ) (w : View) → get_elem? s.views j ≡ some w → j ≢ id → AreApart v' w × AreApart w v') where
  seat_of : (j : ℕ) (w : View) → ((j ≡ id) × (v' ≡ w)) ⊎ ((j ≢ id) × (get_elem? s.views j ≡ some w)) → IsSeat ws w
  seat_of j w (inl a) = subst (IsSeat ws) a.1 own
  seat_of j w (inr a) = others j w a.1 a.0

  apart_of : (i j : ℕ) (x y : View)
      → ((i ≡ id) × (v' ≡ x)) ⊎ ((i ≢ id) × (get_elem? s.views i ≡ some x)) → ((j ≡ id) × (v' ≡ y)) ⊎ ((j ≢ id) × (get_elem? s.views j ≡ some y))
      → i ≢ j → AreApart x y
  apart_of i j x y (inl a) (inl b) ne = absurd (ne (a.0 ∙ sym b.0))
  apart_of i j x y (inl a) (inr b) ne = subst (λ (z : View). AreApart z y) a.1 (apart j y b.1 b.0).0
  apart_of i j x y (inr a) (inl b) ne = subst (λ (z : View). AreApart x z) b.1 (apart i x a.1 a.0).1
  apart_of i j x y (inr a) (inr b) ne = r.apart i j x y a.1 b.1 ne

  pub moves : AreHazards record { words = ws; views = set s.views id v' }
  moves = record {
    grown = grown;
    seats = λ j w e. seat_of j w (at_set s.views id j v' w e);
    apart = λ i j x y e f ne. apart_of i j x y (at_set s.views id i v' x e) (at_set s.views id j v' y f) ne;
  }

-- both ways
pub pair : (s : State View) (r : AreHazards s) (id : ℕ) (v : View) → get_elem? s.views id ≡ some v
    → (j : ℕ) (w : View) → get_elem? s.views j ≡ some w → j ≢ id → AreApart v w × AreApart w v
pair s r id v at j w e ne = (r.apart id j v w at e (λ z. ne (sym z)), r.apart j id w v e at ne)

pub stays : (s : State View) (id : ℕ) (v : View) → AreHazards s → get_elem? s.views id ≡ some v → AreHazards (looked s id v)
stays s id v r at = subst (λ (vs : List View). AreHazards record { words = s.words; views = vs }) (sym (set_again s.views id v at)) r
