-- Slots that are filled one after another.
use Rattle.std.proofs.Common.{◌≡◌, ℕ, ◌+◌, zero, suc, List, [], ◌∷◌, ◌++◌, All, sym, ap, ◌∙◌, arith}
use Rattle.std.proofs.lemmas.List.{map-append, length-append}
use Rattle.std.specs.Prelude.{Option, Some}
use Rattle.share_calls.specs.inner.Filled.{Filled}

module _ {S : Type 0} (Empty : S → Type 0) where
  all_more : (l : List S) (x : S) → All Empty l → Empty x → All Empty (l ++ x ∷ [])
  all_more [] x h e zero d lt = e
  all_more [] x h e (suc k) d lt = absurd (omega (arith, lt))
  all_more (y ∷ l) x h e zero d lt = h 0 d (omega arith)
  all_more (y ∷ l) x h e (suc k) d lt = all_more l x (λ j c le. h (suc j) c (omega (arith, le))) e k d (omega (arith, lt))

  pub one_more : (n : ℕ) (slots later : List (Option S)) (x : S) → Filled Empty n slots → Empty x → later ≡ slots ++ Some x ∷ [] → Filled Empty (n + 1) later
  one_more n slots later x h e is = (
    h.0 ++ x ∷ [],
    is ∙ (ap (λ (l : List (Option S)). l ++ Some x ∷ []) h.1 ∙ sym (map-append (λ (y : S). Some y) h.0 (x ∷ []))),
    length-append h.0 (x ∷ []) ∙ ap (λ (k : ℕ). k + 1) h.2,
    all_more h.0 x h.3 e,
  )
