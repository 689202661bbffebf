-- The part of an ascending list between two bytes.
use Rattle.std.proofs.Common.{◌≡◌, ℕ, ◌+◌, ◌<◌, ◌≤◌, List, [], ◌∷◌, ◌++◌, refl, ap, sym, subst, ◌∙◌, arith, inl, inr}
use Rattle.std.proofs.lemmas.Bool.{lt-ltb, le-ltb, le-leb, lt-leb, cases_lt}
use Rattle.spec_map.specs.Map.{between, Rises}
use Rattle.spec_map.proofs.MapLaws.{Rises-between}

module _ {C : Type 0} where
  -- the whole, where the bounds are no narrower
  pub between-all : (a b s e : ℕ) (es : List (ℕ × C)) → Rises a b es → s ≤ a → b ≤ e → between es s e ≡ es
  between-all a b s e [] h l m = refl
  between-all a b s e (x ∷ xs) h l m = rw (le-leb s x.0 (omega arith), lt-ltb x.0 e (omega arith)) (ap (λ t. x ∷ t) (between-all (x.0 + 1) b s e xs h.2 (omega arith) m))

  -- a scan from the first byte on returns everything
  pub whole-scan : (a : ℕ) (es scan : List (ℕ × C)) → Rises a 256 es → scan ≡ between es a 256 → es ≡ scan
  whole-scan a es scan h is = sym (is ∙ between-all a 256 a 256 es h (omega arith) (omega arith))

  -- nothing above
  pub between-above : (a b s e : ℕ) (es : List (ℕ × C)) → Rises a b es → e ≤ a → between es s e ≡ []
  between-above a b s e [] h l = refl
  between-above a b s e (x ∷ xs) h l =
      elim (cases_lt x.0 s) [
        | inl less ↦ rw (lt-leb s x.0 less) (between-above (x.0 + 1) b s e xs h.2 (omega arith))
        | inr more ↦ rw (le-leb s x.0 more, le-ltb x.0 e (omega arith)) (between-above (x.0 + 1) b s e xs h.2 (omega arith))
      ]

  -- nothing where the bounds cross
  pub between-crossed : (s e : ℕ) (es : List (ℕ × C)) → e ≤ s → between es s e ≡ []
  between-crossed s e [] l = refl
  between-crossed s e (x ∷ xs) l =
      elim (cases_lt x.0 s) [
        | inl less ↦ rw (lt-leb s x.0 less) (between-crossed s e xs l)
        | inr more ↦ rw (le-leb s x.0 more, le-ltb x.0 e (omega arith)) (between-crossed s e xs l)
      ]

  -- the pairs of a range ascend from its start
  pub between-rises : (a b s e : ℕ) (es : List (ℕ × C)) → Rises a b es → Rises s b (between es s e)
  between-rises a b s e [] h = tt
  between-rises a b s e (x ∷ xs) h =
      elim (cases_lt x.0 s) [
        | inl less ↦ rw (lt-leb s x.0 less) (between-rises (x.0 + 1) b s e xs h.2)
        | inr from ↦ elim (cases_lt x.0 e) [
          | inl to ↦ rw (le-leb s x.0 from, lt-ltb x.0 e to) (from, h.1, Rises-between (x.0 + 1) b s e xs h.2)
          | inr past ↦ rw (le-leb s x.0 from, le-ltb x.0 e past) (between-rises (x.0 + 1) b s e xs h.2)
        ]
      ]

  -- the pairs of a range ascend below its end
  pub between-inside : (a b s e : ℕ) (es : List (ℕ × C)) → Rises a b es → s ≤ a → Rises a e (between es s e)
  between-inside a b s e [] h l = tt
  between-inside a b s e (x ∷ xs) h l =
      elim (cases_lt x.0 e) [
        | inl to ↦ rw (le-leb s x.0 (omega (arith, h.0)), lt-ltb x.0 e to) (h.0, to, between-inside (x.0 + 1) b s e xs h.2 (omega (arith, h.0)))
        | inr past ↦ rw (le-leb s x.0 (omega (arith, h.0)), le-ltb x.0 e past, between-above (x.0 + 1) b s e xs h.2 (omega arith)) tt
      ]

  pub between-within : (a b s e : ℕ) (es : List (ℕ × C)) → Rises a b es → Rises s e (between es s e)
  between-within a b s e [] h = tt
  between-within a b s e (x ∷ xs) h =
      elim (cases_lt x.0 s) [
        | inl less ↦ rw (lt-leb s x.0 less) (between-within (x.0 + 1) b s e xs h.2)
        | inr from ↦ elim (cases_lt x.0 e) [
          | inl to ↦ rw (le-leb s x.0 from, lt-ltb x.0 e to) (from, to, between-inside (x.0 + 1) b s e xs h.2 (omega arith))
          | inr past ↦ rw (le-leb s x.0 from, le-ltb x.0 e past) (between-within (x.0 + 1) b s e xs h.2)
        ]
      ]

  -- those up to a key in the middle, and those from there on
  pub between-split : (a b s m e : ℕ) (es : List (ℕ × C)) → Rises a b es → s ≤ m → m ≤ e → between es s e ≡ between es s m ++ between es m e
  between-split a b s m e [] h l k = refl
  between-split a b s m e (x ∷ xs) h l k =
      let rest = between-split (x.0 + 1) b s m e xs h.2 l k in
      elim (cases_lt x.0 s) [
        | inl less ↦ rw (lt-leb s x.0 less, lt-leb m x.0 (omega arith)) rest
        | inr from ↦ elim (cases_lt x.0 m) [
          | inl before ↦ rw (le-leb s x.0 from, lt-ltb x.0 e (omega arith), lt-ltb x.0 m before, lt-leb m x.0 before) (ap (λ t. x ∷ t) rest)
          | inr after ↦
              let none = between-above (x.0 + 1) b s m xs h.2 (omega arith) in
              let same : between xs s e ≡ between xs m e = rest ∙ ap (λ t. t ++ between xs m e) none in
              elim (cases_lt x.0 e) [
                | inl to ↦ rw (le-leb s x.0 from, le-leb m x.0 after, lt-ltb x.0 e to, le-ltb x.0 m after, none) (ap (λ t. x ∷ t) same)
                | inr past ↦ rw (le-leb s x.0 from, le-leb m x.0 after, le-ltb x.0 e past, le-ltb x.0 m after) rest
              ]
        ]
      ]

  -- the first between two bytes, of which the second is past all, and those after it
  pub record Next (es : List (ℕ × C)) (s b e : ℕ) (x : ℕ × C) (rest : List (ℕ × C)) : Type 0 where
    pub order : s ≤ x.0
    pub inside : x.0 < b
    pub after : rest ≡ between es (x.0 + 1) e

  pub between-next : (a b s e : ℕ) (es : List (ℕ × C)) (x : ℕ × C) (rest : List (ℕ × C)) → Rises a b es → b ≤ e → between es s e ≡ x ∷ rest → Next es s b e x rest
  between-next a b s e [] x rest h m is = absurd (cc)
  between-next a b s e (y ∷ ys) x rest h m is =
      elim (cases_lt y.0 s) [
        | inl less ↦
            let n = between-next (y.0 + 1) b s e ys x rest h.2 m (rw (lt-leb s y.0 less) at is) in
            record { order = n.order; inside = n.inside; after = rw (lt-leb (x.0 + 1) y.0 (omega (arith, n.order))) n.after }
        | inr from ↦
            let is' : y ∷ between ys s e ≡ x ∷ rest = rw (le-leb s y.0 from, lt-ltb y.0 e (omega (arith, h.1))) at is in
            let same : y ≡ x = cc in
            let tail : rest ≡ between ys s e = cc in
            record {
              order = subst (λ z. s ≤ z.0) same from;
              inside = subst (λ z. z.0 < b) same h.1;
              after = subst (λ z. rest ≡ between (y ∷ ys) (z.0 + 1) e) same
                  (rw (lt-leb (y.0 + 1) y.0 (omega arith)) (tail ∙ between-all (y.0 + 1) b s e ys h.2 (omega arith) m ∙ sym (between-all (y.0 + 1) b (y.0 + 1) e ys h.2 (omega arith) m)));
            }
      ]
