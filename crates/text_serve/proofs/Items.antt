-- Short lists, from their length and what they have in each place.
use Rattle.std.proofs.Common.{◌≡◌, List, [], ◌∷◌, length, get_or, refl, sym, ap, ◌∙◌, arith}

pub no_items : {X : Type 0} (xs : List X) → length xs ≡ 0 → xs ≡ []
no_items [] none = refl
no_items (x ∷ xs) none = absurd (omega arith)

pub one_item : {X : Type 0} (xs : List X) (x : X) → length xs ≡ 1 → x ≡ get_or xs 0 x → xs ≡ x ∷ []
one_item [] x one here = absurd (omega arith)
one_item (y ∷ []) x one here = ap (λ z. z ∷ []) (sym here)
one_item (y ∷ z ∷ zs) x one here = absurd (omega arith)

pub two_items : {X : Type 0} (xs : List X) (x y : X) → length xs ≡ 2 → x ≡ get_or xs 0 x → y ≡ get_or xs 1 y → xs ≡ x ∷ y ∷ []
two_items [] x y two first second = absurd (omega arith)
two_items (v ∷ []) x y two first second = absurd (omega arith)
two_items (v ∷ w ∷ []) x y two first second = ap (λ z. z ∷ w ∷ []) (sym first) ∙ ap (λ z. x ∷ z ∷ []) (sym second)
two_items (v ∷ w ∷ z ∷ zs) x y two first second = absurd (omega arith)
