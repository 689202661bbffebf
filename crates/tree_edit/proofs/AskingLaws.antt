-- Pairs are asked about one after another, from a key on.
use Rattle.std.proofs.Common.{◌≡◌, ℕ, ◌+◌, ◌-◌, ◌<◌, ◌≤◌, ◌^◌, Bool, true, false, if◌then◌else◌, [], ◌∷◌, ◌++◌, Option, Some, None, refl, ap, sym, subst, ◌∙◌, append_assoc, arith}
use Rattle.std.proofs.lemmas.Bool.{lt-leb, eq-eqb, ne_eqb}
use Rattle.std.proofs.lemmas.List.Elements.{filter-append}
use Rattle.spec_map.specs.Map.{Pairs, IsMap, lookup, without, between, Rises}
use Rattle.spec_map.specs.Near.{first_of}
use Rattle.spec_map.proofs.JoinLaws.{Rises-append}
use Rattle.spec_map.proofs.MapLaws.{Rises-wider}
use Rattle.spec_map.proofs.RangeLaws.{between-all}
use Rattle.tree_edit.specs.Calls.{Asking, HasNoneAfter, Retains}
use Rattle.tree_edit.specs.inner.Run.{HasAsked}
use Rattle.tree_edit.proofs.HandedLaws.{first_there}

module _ {P : Type 0} where
  -- no pair is between two keys that are above all
  pub between-below : (a b s e : ℕ) (es : Pairs P) → Rises a b es → b ≤ s → between es s e ≡ []
  between-below a b s e [] h l = refl
  between-below a b s e (x ∷ xs) h l = rw (lt-leb s x.0 (omega arith)) (between-below (x.0 + 1) b s e xs h.2 l)

  -- a removal behind other pairs
  without-append : (a b : ℕ) (xs ys : Pairs P) (k : ℕ) → Rises a b xs → b ≤ k → without (xs ++ ys) k ≡ xs ++ without ys k
  without-append a b [] ys k h p = refl
  without-append a b (x ∷ xs) ys k h p = rw (ne_eqb x.0 k (omega arith)) (ap (λ t. x ∷ t) (without-append (x.0 + 1) b xs ys k h.2 p))

  -- of the pairs in two parts, below a key and from it on, the second part is the pairs from it on
  second_part : (from : ℕ) (done left : Pairs P) → Rises 0 from done → Rises from (2 ^ 64) left → between (done ++ left) from (2 ^ 64) ≡ left
  second_part from done left below above =
      filter-append _ done left
      ∙ ap (λ (t : Pairs P). t ++ between left from (2 ^ 64)) (between-below 0 from from (2 ^ 64) done below (omega arith))
      ∙ between-all from (2 ^ 64) from (2 ^ 64) left above (omega arith) (omega arith)

  -- the first of those
  pub record FirstOf (left : Pairs P) (k : ℕ) (v : P) : Type 0 where
    pub rest : Pairs P
    pub is : left ≡ (k, v) ∷ rest
    pub above : Rises (k + 1) (2 ^ 64) rest
    pub fits : k < 2 ^ 64

  first_of_left : (from : ℕ) (left : Pairs P) (k : ℕ) (v : P) → Rises from (2 ^ 64) left → first_of left ≡ Some (k, v) → FirstOf left k v
  first_of_left from [] k v h is = absurd (cc)
  first_of_left from (x ∷ xs) k v h is =
      let same : x ≡ (k, v) = cc in
      subst (λ (y : ℕ × P). FirstOf (x ∷ xs) y.0 y.1) same (record { rest = xs; is = refl; above = h.2; fits = h.1 })

  none_of_left : (left : Pairs P) → first_of left ≡ None → left ≡ []
  none_of_left [] is = refl
  none_of_left (x ∷ xs) is = absurd (cc)

module _ {F P : Type 0} (step : F → ℕ × P → Bool → F → Type 0) where
  pub asking_begins : (f : F) (m : Pairs P) → IsMap m → Asking step f m f m 0
  asking_begins f m h = record { done = []; left = m; is = refl; below = tt; above = h; further = λ kept last calls. calls }

  module _ (f : F) (first : Pairs P) (g : F) (m : Pairs P) (from : ℕ) (a : Asking step f first g m from) where
    left_is : between m from (2 ^ 64) ≡ a.left
    left_is = ap (λ (t : Pairs P). between t from (2 ^ 64)) a.is ∙ second_part from a.done a.left a.below a.above

    pub asking_ends : first_of (between m from (2 ^ 64)) ≡ None → Retains step f first m g
    asking_ends none =
        let empty : a.left ≡ [] = none_of_left a.left (ap first_of (sym left_is) ∙ none) in
        let whole : m ≡ a.done ++ [] = a.is ∙ ap (λ (t : Pairs P). a.done ++ t) empty in
        subst (λ (t : Pairs P). Retains step f first t g) (sym whole)
        (a.further [] g (subst (λ (t : Pairs P). Retains step g t [] g) (sym empty) (refl, refl)))

    module _ (k : ℕ) (v : P) (here : first_of (between m from (2 ^ 64)) ≡ Some (k, v)) (next : F) where
      at_first : FirstOf a.left k v
      at_first = first_of_left from a.left k v a.above (ap first_of (sym left_is) ∙ here)

      from_is : from ≤ k
      from_is = let above : Rises from (2 ^ 64) ((k, v) ∷ at_first.rest) = subst (Rises from (2 ^ 64)) at_first.is a.above in above.0

      -- the pair stays
      pub asking_keeps : step g (k, v) true next → Asking step f first next m (k + 1)
      asking_keeps called =
          let o = at_first in
          record {
            done = a.done ++ (k, v) ∷ [];
            left = o.rest;
            is = a.is ∙ ap (λ (t : Pairs P). a.done ++ t) o.is ∙ sym (append_assoc a.done ((k, v) ∷ []) o.rest);
            below = Rises-append 0 from (k + 1) a.done ((k, v) ∷ []) (omega arith) (omega (arith, from_is)) a.below (from_is, omega arith, tt);
            above = o.above;
            further = λ kept last calls.
                subst (λ (t : Pairs P). Retains step f first t last) (sym (append_assoc a.done ((k, v) ∷ []) kept))
                (a.further ((k, v) ∷ kept) last (subst (λ (t : Pairs P). Retains step g t ((k, v) ∷ kept) last) (sym o.is)
                (true, next, kept, called, calls, refl)));
          }

      -- it goes
      pub asking_removes : (n : Pairs P) → n ≡ without m k → step g (k, v) false next → Asking step f first next n (k + 1)
      asking_removes n gone called =
          let o = at_first in
          let less : without ((k, v) ∷ o.rest) k ≡ o.rest = rw (eq-eqb k k refl) refl in
          record {
            done = a.done;
            left = o.rest;
            is =
                gone
                ∙ ap (λ (t : Pairs P). without t k) (a.is ∙ ap (λ (t : Pairs P). a.done ++ t) o.is)
                ∙ without-append 0 from a.done ((k, v) ∷ o.rest) k a.below from_is
                ∙ ap (λ (t : Pairs P). a.done ++ t) less;
            below = Rises-wider 0 from 0 (k + 1) a.done (omega arith) (omega (arith, from_is)) a.below;
            above = o.above;
            further = λ kept last calls.
                a.further kept last (subst (λ (t : Pairs P). Retains step g t kept last) (sym o.is)
                (false, next, kept, called, calls, refl));
          }

      -- the next key to ask about is greater
      pub asking_goes_on : (from ≤ k) × (k < 2 ^ 64)
      asking_goes_on = (from_is, at_first.fits)

    -- one question
    pub asked_one : (k : ℕ) (v : P) (stays : Bool) (next : F) (n : Pairs P) → first_of (between m from (2 ^ 64)) ≡ Some (k, v) → step g (k, v) stays next → n ≡ (if stays then m else without m k) → Asking step f first next n (k + 1)
    asked_one k v true next n here called is = subst (λ (t : Pairs P). Asking step f first next t (k + 1)) (sym is) (asking_keeps k v here next called)
    asked_one k v false next n here called is = asking_removes k v here next n is called

  -- in a leaf, the next one
  module _ (f : F) (m : Pairs P) (start : ℕ) (g : F) (n : Pairs P) (k : ℕ) (a : HasAsked step f m start g n k) (ordered : IsMap n) (fits : k < 2 ^ 64) (v : P) (found : Some v ≡ lookup n k) (stays : Bool) (next : F) (called : step g (k, v) stays next)
      (o : Pairs P) (is : o ≡ (if stays then n else without n k)) where
    pub asked_more : (f' : F) (first : Pairs P) → Asking step f' first f m start → Asking step f' first next o (k + 1)
    asked_more f' first before =
        asked_one f' first g n a.from (a.asks f' first before) k v stays next o (ap (λ t. first_of t) (first_there 0 n a.from (2 ^ 64) k v ordered a.order fits found a.none)) called is

    pub asked_on : (t : ℕ) → k < t → HasNoneAfter o (k + 1) t → HasAsked step f m start next o t
    asked_on t less none = record { from = k + 1; order = omega (arith, less); none = none; asks = asked_more }
