-- What a page of a range has, and what is after it.
use Rattle.std.proofs.Common.{◌≡◌, ℕ, zero, suc, ◌+◌, ◌<◌, ◌≤◌, [], ◌∷◌, ◌++◌, length, take, drop, min, map, get_or, ap, sym, subst, ◌∙◌, arith, inl, inr}
use Rattle.std.proofs.lemmas.Bool.{lt-ltb, le-ltb, le-leb, lt-leb, cases_lt}
use Rattle.std.proofs.lemmas.List.{length-take-le, take-append-drop, map-id, append-nil, get_or-take}
use Rattle.std.proofs.Math.Seq.{take-append_seam, take-length}
use Rattle.spec_map.specs.Map.{Pairs, between, Rises}
use Rattle.spec_map.proofs.RangeLaws.{between-above, between-split}

module _ {P : Type 0} where
  -- the first pair between two keys, and those after it
  first_after : (a b s e : ℕ) (es : Pairs P) (x : ℕ × P) (rest : Pairs P) → Rises a b es → between es s e ≡ x ∷ rest → (s ≤ x.0) × (rest ≡ between es (x.0 + 1) e)
  first_after a b s e [] x rest h is = absurd cc
  first_after a b s e (y ∷ ys) x rest h is =
      elim (cases_lt y.0 s) [
        | inl less ↦
            let n = first_after (y.0 + 1) b s e ys x rest h.2 (rw (lt-leb s y.0 less) at is) in
            (n.0, rw (lt-leb (x.0 + 1) y.0 (omega (arith, n.0, less))) n.1)
        | inr from ↦ elim (cases_lt y.0 e) [
          | inl below ↦
              let is' : y ∷ between ys s e ≡ x ∷ rest = rw (le-leb s y.0 from, lt-ltb y.0 e below) at is in
              let same : y ≡ x = cc in
              let tail : rest ≡ between ys s e = cc in
              let parts = between-split (y.0 + 1) b s (y.0 + 1) e ys h.2 (omega (arith, from)) (omega (arith, below)) in
              let none = between-above (y.0 + 1) b s (y.0 + 1) ys h.2 (omega arith) in
              let others : rest ≡ between ys (y.0 + 1) e = tail ∙ parts ∙ ap (λ t. t ++ between ys (y.0 + 1) e) none in
              (subst (λ (z : ℕ × P). s ≤ z.0) same from, subst (λ (z : ℕ × P). rest ≡ between (y ∷ ys) (z.0 + 1) e) same (rw (lt-leb (y.0 + 1) y.0 (omega arith)) others))
          | inr past ↦ absurd (
              let is' : between ys s e ≡ x ∷ rest = rw (le-leb s y.0 from, le-ltb y.0 e past) at is in
              let none : between ys s e ≡ [] = between-above (y.0 + 1) b s e ys h.2 (omega (arith, past)) in
              let clash : [] ≡ x ∷ rest = sym none ∙ is' in cc)
        ]
      ]

  -- the pairs after some of those between two keys, by the last one of them
  after_page : (b s e : ℕ) (m es : Pairs P) (n : ℕ) (d : ℕ × P) → Rises 0 b m → between m s e ≡ es → n < length es → drop (suc n) es ≡ between m ((get_or es n d).0 + 1) e
  after_page b s e m [] n d h is few = absurd (omega (arith, few))
  after_page b s e m (x ∷ rest) zero d h is few = (first_after 0 b s e m x rest h is).1
  after_page b s e m (x ∷ rest) (suc n) d h is few = after_page b (x.0 + 1) e m rest n d h (sym (first_after 0 b s e m x rest h is).1) (omega (arith, few))

  -- a scan has written so many of these pairs over others
  module _ (n : ℕ) (es old new : Pairs P) (count : n ≡ min (length old) (length es)) (is : new ≡ take n (map (λ (p : ℕ × P). (p.0, p.1)) es) ++ drop n old) (room : length old ≡ 16) where
    written : take n new ≡ take n es
    written =
        let same : map (λ (p : ℕ × P). (p.0, p.1)) es ≡ es = map-id es in
        let fits : length (take n es) ≡ n = length-take-le n es (omega (arith, count)) in
        rw (is, same) (subst (λ (k : ℕ). take k (take n es ++ drop n old) ≡ take n es) fits (take-append_seam (take n es) (drop n old)))

    -- a page that isn't full has all
    pub short_page : n < 16 → take n new ++ [] ≡ es
    short_page few =
        let all : length es ≡ n = omega (arith, count, room, few) in
        append-nil (take n new) ∙ written ∙ subst (λ (k : ℕ). take k es ≡ es) all (take-length es)

    -- what comes after a full page
    pub full_page : (b s e : ℕ) (m : Pairs P) (d : ℕ × P) → Rises 0 b m → es ≡ between m s e → 16 ≤ n → take n new ++ between m ((get_or new 15 d).0 + 1) e ≡ es
    full_page b s e m d h each full =
        let all : n ≡ 16 = omega (arith, count, room, full) in
        let more : 15 < length es = omega (arith, count, full) in
        let first : take 16 new ≡ take 16 es = subst (λ (k : ℕ). take k new ≡ take k es) all written in
        let last : get_or new 15 d ≡ get_or es 15 d =
        sym (get_or-take 16 new 15 d (omega arith)) ∙ ap (λ (xs : Pairs P). get_or xs 15 d) first ∙ get_or-take 16 es 15 d (omega arith) in
        let after : drop 16 es ≡ between m ((get_or es 15 d).0 + 1) e = after_page b s e m es 15 d h (sym each) more in
        rw (written, all, last, ← after) (take-append-drop 16 es)
