-- The pairs of one node, from those of its children, whatever a child is.
use Rattle.std.proofs.Common.{◌≡◌, ℕ, ◌+◌, ◌<◌, ◌≤◌, List, [], ◌∷◌, ◌++◌, length, Option, Some, None, refl, ap, sym, subst, ◌∙◌, arith, inl, inr}
use Rattle.std.proofs.lemmas.Bool.{lt-ltb, le-ltb, eq-eqb, ne_eqb, cases_order}
use Rattle.spec_map.specs.Map.{lookup, put, Rises}
use Rattle.spec_node.specs.Key.{low, high}
use Rattle.spec_map.proofs.MapLaws.{Rises-wider, lookup-below, put-below}
use Rattle.spec_map.proofs.JoinLaws.{Rises-append, lookup-append_left, lookup-append_right, put-append_left, put-append_right}
use Rattle.node_table.proofs.KeyLaws.{room-positive, least-append, high-append, byte_order}

module _ {C P : Type 0} (under : ℕ → C → List (ℕ × P)) (p : List ℕ) where
  -- the pairs of all children
  abbrev pub pairs_of : List (ℕ × C) → List (ℕ × P)
  pairs_of [] = []
  pairs_of (e ∷ es) = under e.0 e.1 ++ pairs_of es

  abbrev pub pairs_at : ℕ → Option C → List (ℕ × P)
  pairs_at b None = []
  pairs_at b (Some c) = under b c

  -- each child's keys rise and begin with the prefix and its byte
  abbrev pub AllRise : List (ℕ × C) → Type 0
  AllRise [] = Unit {0}
  AllRise (e ∷ es) = Rises (low (p ++ e.0 ∷ [])) (high (p ++ e.0 ∷ [])) (under e.0 e.1) × AllRise es

  -- from the first child on
  pub children_rise : (d : ℕ) (es : List (ℕ × C)) → length p ≤ 7 → Rises d 256 es → AllRise es → (m : ℕ) → ((b : ℕ) → d ≤ b → b < 256 → m ≤ low (p ++ b ∷ [])) → Rises m (high p) (pairs_of es)
  children_rise d [] short o h m below = tt
  children_rise d (e ∷ es) short o h m below =
      let b = e.0 in
      let mid = high (p ++ b ∷ []) in
      let here = h.0 in
      let rest = children_rise (b + 1) es short o.2 h.1 mid (λ c le lt. byte_order 8 p b c (omega arith) (omega arith)) in
      let top : mid ≤ high p = high-append 8 p (b ∷ []) (o.1, tt) (omega arith) in
      let r = room-positive 8 (p ++ b ∷ []) in
      let start = below b o.0 o.1 in
      Rises-append m mid (high p) _ _ (omega arith) top (Rises-wider _ _ _ _ _ start (omega arith) here) rest

  pub node_rises : (es : List (ℕ × C)) → length p ≤ 7 → Rises 0 256 es → AllRise es → Rises (low p) (high p) (pairs_of es)
  node_rises es short o h = children_rise 0 es short o h (low p) (λ b le lt. least-append 8 p (b ∷ []) (lt, tt) (omega arith))

  -- the pairs after the first child begin above it
  pub rest_rises : (e : ℕ × C) (es : List (ℕ × C)) (d : ℕ) → length p ≤ 7 → Rises d 256 (e ∷ es) → AllRise es → Rises (high (p ++ e.0 ∷ [])) (high p) (pairs_of es)
  rest_rises e es d short o h = children_rise (e.0 + 1) es short o.2 h (high (p ++ e.0 ∷ [])) (λ c le lt. byte_order 8 p e.0 c (omega arith) (omega arith))

  -- a look-up goes to the child under the key's byte
  pub lookup-pairs_of : (d : ℕ) (es : List (ℕ × C)) (b k : ℕ) → length p ≤ 7 → Rises d 256 es → AllRise es → low (p ++ b ∷ []) ≤ k → k < high (p ++ b ∷ []) → lookup (pairs_of es) k ≡ lookup (pairs_at b (lookup es b)) k
  lookup-pairs_of d [] b k short o h at_least below = refl
  lookup-pairs_of d (e ∷ es) b k short o h at_least below =
      let here = h.0 in
      let rest = rest_rises e es d short o h.1 in
      elim (cases_order e.0 b) [
        | inl same ↦
            rw (eq-eqb e.0 b same) (subst (λ c. lookup (under e.0 e.1 ++ pairs_of es) k ≡ lookup (under c e.1) k) same
            (lookup-append_left (high (p ++ e.0 ∷ [])) _ _ _ k rest (rw same below)))
        | inr (inl less) ↦
            let apart = byte_order 8 p e.0 b less (omega arith) in
            rw (ne_eqb e.0 b (omega arith), lookup-append_right _ _ _ (pairs_of es) k here (omega arith))
            (lookup-pairs_of (e.0 + 1) es b k short o.2 h.1 at_least below)
        | inr (inr more) ↦
            let apart = byte_order 8 p b e.0 more (omega arith) in
            let none = lookup-below (e.0 + 1) 256 es b o.2 (omega arith) in
            rw (ne_eqb e.0 b (omega arith), none)
            (lookup-append_left (high (p ++ e.0 ∷ [])) _ _ _ k rest (let r = room-positive 8 (p ++ e.0 ∷ []) in omega arith) ∙ lookup-below _ _ _ k here (omega arith))
      ]

  -- and so does an insertion
  pub pairs_of-put : (d : ℕ) (es : List (ℕ × C)) (b k : ℕ) (c : C) (v : P) → length p ≤ 7 → Rises d 256 es → AllRise es → low (p ++ b ∷ []) ≤ k → k < high (p ++ b ∷ [])
      → under b c ≡ put (pairs_at b (lookup es b)) k v → pairs_of (put es b c) ≡ put (pairs_of es) k v
  pairs_of-put d [] b k c v short o h at_least below is = ap (λ t. t ++ []) is
  pairs_of-put d (e ∷ es) b k c v short o h at_least below is =
      let here = h.0 in
      let rest = rest_rises e es d short o h.1 in
      elim (cases_order e.0 b) [
        | inl same ↦
            let is' = rw (eq-eqb e.0 b same) at is in
            rw (le-ltb e.0 b (omega arith), eq-eqb e.0 b same)
            (ap (λ t. t ++ pairs_of es) is' ∙ (subst (λ c. put (under c e.1) k v ++ pairs_of es ≡ put (under e.0 e.1 ++ pairs_of es) k v) same
            (sym (put-append_left (high (p ++ e.0 ∷ [])) _ _ _ k v rest (rw same below)))))
        | inr (inl less) ↦
            let apart = byte_order 8 p e.0 b less (omega arith) in
            let is' = rw (ne_eqb e.0 b (omega arith)) at is in
            rw (lt-ltb e.0 b less)
            (ap (λ t. under e.0 e.1 ++ t) (pairs_of-put (e.0 + 1) es b k c v short o.2 h.1 at_least below is')
            ∙ sym (put-append_right _ _ _ _ k v here (omega arith)))
        | inr (inr more) ↦
            let apart = byte_order 8 p b e.0 more (omega arith) in
            let none = lookup-below (e.0 + 1) 256 es b o.2 (omega arith) in
            let is' = rw (ne_eqb e.0 b (omega arith), none) at is in
            let top : high (p ++ e.0 ∷ []) ≤ high p = high-append 8 p (e.0 ∷ []) (o.1, tt) (omega arith) in
            let all = Rises-append (low (p ++ e.0 ∷ [])) (high (p ++ e.0 ∷ [])) (high p) (under e.0 e.1) (pairs_of es) (omega arith) top here rest in
            rw (le-ltb e.0 b (omega arith), ne_eqb e.0 b (omega arith))
            (ap (λ t. t ++ (under e.0 e.1 ++ pairs_of es)) is' ∙ sym (put-below _ _ _ k v all (omega arith)))
      ]
