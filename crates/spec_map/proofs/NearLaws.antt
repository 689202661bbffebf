-- The laws of a map's ends and of a key's neighbours.
use Rattle.std.proofs.Common.{◌≡◌, ℕ, ◌+◌, ◌^◌, ◌<◌, ◌≤◌, [], ◌∷◌, ◌++◌, Option, Some, None, IsSome, option_map, refl, ap, sym, subst, ◌∙◌, arith, inl, inr}
use Rattle.std.specs.Option.{is_some}
use Rattle.std.proofs.lemmas.Bool.{lt-ltb, le-ltb, le-leb, lt-leb, eq-eqb, ne_eqb, cases_lt, cases_eq, cases_order, false≢true}
use Rattle.spec_map.specs.Map.{Pairs, IsMap, lookup, without, between, Rises}
use Rattle.spec_map.specs.Near.{first_of, last_of, below_of}
use Rattle.spec_map.proofs.MapLaws.{lookup-first, lookup-next, lookup-below, lookup-between_inside}
use Rattle.spec_map.proofs.JoinLaws.{lookup-above}
use Rattle.spec_map.proofs.RangeLaws.{between-within}

module _ {V : Type 0} where
  -- an end of an ascending list: it is stored, and nothing is beyond it
  pub record FirstAt (a b : ℕ) (es : Pairs V) (p : ℕ × V) : Type 0 where
    pub from : a ≤ p.0
    pub to : p.0 < b
    pub stored : lookup es p.0 ≡ Some p.1
    pub nothing : (j : ℕ) → j < p.0 → lookup es j ≡ None
    pub rest : es ≡ p ∷ without es p.0

  pub record LastAt (a b : ℕ) (es : Pairs V) (p : ℕ × V) : Type 0 where
    pub from : a ≤ p.0
    pub to : p.0 < b
    pub stored : lookup es p.0 ≡ Some p.1
    pub nothing : (j : ℕ) → p.0 < j → lookup es j ≡ None
    pub rest : es ≡ without es p.0 ++ p ∷ []

  first_here : (a b : ℕ) (e : ℕ × V) (es : Pairs V) → Rises a b (e ∷ es) → FirstAt a b (e ∷ es) e
  first_here a b e es h = record {
    from = h.0;
    to = h.1;
    stored = lookup-first e es;
    nothing = λ j less. lookup-below e.0 b (e ∷ es) j (omega arith, h.1, h.2) less;
    rest = rw (eq-eqb e.0 e.0 refl) refl;
  }

  pub first_at : (a b : ℕ) (es : Pairs V) (p : ℕ × V) → Rises a b es → first_of es ≡ Some p → FirstAt a b es p
  first_at a b [] p h is = absurd (cc)
  first_at a b (e ∷ es) p h is = let same : e ≡ p = cc in subst (λ x. FirstAt a b (e ∷ es) x) same (first_here a b e es h)

  last_here : (a b : ℕ) (e : ℕ × V) → Rises a b (e ∷ []) → LastAt a b (e ∷ []) e
  last_here a b e h = record {
    from = h.0;
    to = h.1;
    stored = lookup-first e [];
    nothing = λ j more. lookup-next e [] j (omega arith);
    rest = rw (eq-eqb e.0 e.0 refl) refl;
  }

  last_next : (a b : ℕ) (e : ℕ × V) (es : Pairs V) (p : ℕ × V) → Rises a b (e ∷ es) → LastAt (e.0 + 1) b es p → LastAt a b (e ∷ es) p
  last_next a b e es p h l = record {
    from = omega (arith, h.0, l.from);
    to = l.to;
    stored = lookup-next e es p.0 (omega (arith, l.from)) ∙ l.stored;
    nothing = λ j more. lookup-next e es j (omega (arith, l.from)) ∙ l.nothing j more;
    rest = rw (ne_eqb e.0 p.0 (omega (arith, l.from))) (ap (λ t. e ∷ t) l.rest);
  }

  pub last_at : (a b : ℕ) (es : Pairs V) (p : ℕ × V) → Rises a b es → last_of es ≡ Some p → LastAt a b es p
  last_at a b [] p h is = absurd (cc)
  last_at a b (e ∷ []) p h is = let same : e ≡ p = cc in subst (λ x. LastAt a b (e ∷ []) x) same (last_here a b e h)
  last_at a b (e ∷ f ∷ es) p h is = last_next a b e (f ∷ es) p h (last_at (e.0 + 1) b (f ∷ es) p h.2 is)

  pub no_first : (es : Pairs V) → first_of es ≡ None → es ≡ []
  no_first [] is = refl
  no_first (e ∷ es) is = absurd (cc)

  pub no_last : (es : Pairs V) → last_of es ≡ None → es ≡ []
  no_last [] is = refl
  no_last (e ∷ []) is = absurd (cc)
  no_last (e ∷ f ∷ es) is = absurd (let none = no_last (f ∷ es) is in cc)

  pub first_rest : (es : Pairs V) (p : ℕ × V) → first_of es ≡ Some p → es ≡ p ∷ without es p.0
  first_rest [] p is = absurd (cc)
  first_rest (e ∷ es) p is = let same : e ≡ p = cc in rw (eq-eqb e.0 p.0 (ap (λ (x : ℕ × V). x.0) same)) (ap (λ (x : ℕ × V). x ∷ es) same)

  -- what is stored between two keys
  pub stored_between : (a b : ℕ) (m : Pairs V) (p : ℕ × V) → a ≤ p.0 → p.0 < b → lookup (between m a b) p.0 ≡ Some p.1 → lookup m p.0 ≡ Some p.1
  stored_between a b m p from to is = sym (lookup-between_inside m a b p.0 from to) ∙ is

  pub absent_between : (a b : ℕ) (m : Pairs V) (j : ℕ) → a ≤ j → j < b → lookup (between m a b) j ≡ None → lookup m j ≡ None
  absent_between a b m j from to is = sym (lookup-between_inside m a b j from to) ∙ is

  pub none_between : (a b : ℕ) (m : Pairs V) (j : ℕ) → a ≤ j → j < b → between m a b ≡ [] → lookup m j ≡ None
  none_between a b m j from to is = absent_between a b m j from to (ap (λ es. lookup es j) is)

  pub least_between : (a b : ℕ) (m : Pairs V) (p : ℕ × V) → IsMap m → first_of (between m a b) ≡ Some p → FirstAt a b (between m a b) p
  least_between a b m p h is = first_at a b (between m a b) p (between-within 0 (2 ^ 64) a b m h) is

  pub greatest_between : (a b c d : ℕ) (m : Pairs V) (p : ℕ × V) → Rises c d m → last_of (between m a b) ≡ Some p → LastAt a b (between m a b) p
  greatest_between a b c d m p h is = last_at a b (between m a b) p (between-within c d a b m h) is

  pub none_from : (a : ℕ) (m : Pairs V) (j : ℕ) → IsMap m → between m a (2 ^ 64) ≡ [] → a ≤ j → lookup m j ≡ None
  none_from a m j h is from =
      elim (cases_lt j (2 ^ 64)) [
        | inl inside ↦ none_between a (2 ^ 64) m j from inside is
        | inr past ↦ lookup-above 0 (2 ^ 64) m j h past
      ]

  lookup-tail : (e : ℕ × V) (es : Pairs V) (j : ℕ) → lookup (e ∷ es) j ≡ None → lookup es j ≡ None
  lookup-tail e es j none =
      elim (cases_eq e.0 j) [
        | inl same ↦ absurd (let none' = rw (eq-eqb e.0 j same) at none in cc)
        | inr other ↦ sym (lookup-next e es j other) ∙ none
      ]

  between-cons : (e : ℕ × V) (es : Pairs V) (a b : ℕ) → a ≤ e.0 → e.0 < b → between (e ∷ es) a b ≡ e ∷ between es a b
  between-cons e es a b from to = rw (le-leb a e.0 from, lt-ltb e.0 b to) refl

  between-past : (e : ℕ × V) (es : Pairs V) (a b : ℕ) → b ≤ e.0 → between (e ∷ es) a b ≡ between es a b
  between-past e es a b past =
      elim (cases_lt e.0 a) [
        | inl less ↦ rw (lt-leb a e.0 less) refl
        | inr from ↦ rw (le-leb a e.0 from, le-ltb e.0 b past) refl
      ]

  between-twice : (m : Pairs V) (b c : ℕ) → c ≤ b → between (between m 0 b) 0 c ≡ between m 0 c
  between-twice [] b c l = refl
  between-twice (e ∷ es) b c l =
      let rest = between-twice es b c l in
      elim (cases_lt e.0 b) [
        | inl inside ↦ ap (λ t. between t 0 c) (between-cons e es 0 b (omega arith) inside) ∙ elim (cases_lt e.0 c) [
          | inl less ↦ between-cons e (between es 0 b) 0 c (omega arith) less ∙ ap (λ t. e ∷ t) rest ∙ sym (between-cons e es 0 c (omega arith) less)
          | inr more ↦ between-past e (between es 0 b) 0 c more ∙ rest ∙ sym (between-past e es 0 c more)
        ]
        | inr past ↦ ap (λ t. between t 0 c) (between-past e es 0 b past) ∙ rest ∙ sym (between-past e es 0 c (omega arith))
      ]

  pub none-between : (m : Pairs V) (a b : ℕ) → ((j : ℕ) → a ≤ j → j < b → lookup m j ≡ None) → between m a b ≡ []
  none-between [] a b nothing = refl
  none-between (e ∷ es) a b nothing =
      elim (cases_lt e.0 a) [
        | inl less ↦ rw (lt-leb a e.0 less) (none-between es a b (λ j from to. lookup-tail e es j (nothing j from to)))
        | inr from ↦ elim (cases_lt e.0 b) [
          | inl to ↦ absurd (let none = nothing e.0 from to in false≢true (ap is_some (sym none ∙ lookup-first e es)))
          | inr past ↦ rw (le-leb a e.0 from, le-ltb e.0 b past) (none-between es a b (λ j from to. lookup-tail e es j (nothing j from to)))
        ]
      ]

  -- a stored key, above which none is stored below another one
  pub below_at : (c d : ℕ) (m : Pairs V) (to key : ℕ) → Rises c d m → key < to → IsSome (lookup m key) → ((j : ℕ) → key < j → j < to → lookup m j ≡ None)
      → Some key ≡ option_map (λ p. p.0) (below_of m to)
  below_at c d m to key h less some nothing = go (last_of (between m 0 to)) refl
    where
      go : (o : Option (ℕ × V)) → last_of (between m 0 to) ≡ o → Some key ≡ option_map (λ p. p.0) o
      go None is = absurd (let none = none_between 0 to m key (omega arith) less (no_last (between m 0 to) is) in false≢true (rw none at some))
      go (Some p) is =
          let l = greatest_between 0 to c d m p h is in
          elim (cases_order key p.0) [
            | inl same ↦ ap (λ k. Some k) same
            | inr (inl before) ↦
                absurd (let stored = stored_between 0 to m p (omega arith) l.to l.stored in
                let none = nothing p.0 before l.to in
                false≢true (ap is_some (sym none ∙ stored)))
            | inr (inr after) ↦ absurd (let none = absent_between 0 to m key (omega arith) less (l.nothing key after) in false≢true (rw none at some))
          ]

  pub none_below : (m : Pairs V) (to : ℕ) → ((j : ℕ) → j < to → lookup m j ≡ None) → None ≡ option_map (λ p. p.0) (below_of m to)
  none_below m to nothing = ap (λ es. option_map (λ p. p.0) (last_of es)) (sym (none-between m 0 to (λ j from less. nothing j less)))

  -- the pairs up to the last one below a key
  pub up_to_last : (c d : ℕ) (es : Pairs V) (p : ℕ × V) → Rises c d es → last_of es ≡ Some p → es ≡ between es 0 p.0 ++ p ∷ []
  up_to_last c d [] p h is = absurd (cc)
  up_to_last c d (e ∷ []) p h is =
      let same : e ≡ p = cc in
      ap (λ (x : ℕ × V). x ∷ []) same ∙ ap (λ t. t ++ p ∷ []) (sym (between-past e [] 0 p.0 (omega (arith, ap (λ (x : ℕ × V). x.0) same))))
  up_to_last c d (e ∷ f ∷ es) p h is =
      let l = last_at (e.0 + 1) d (f ∷ es) p h.2 is in
      let rest = up_to_last (e.0 + 1) d (f ∷ es) p h.2 is in
      ap (λ t. e ∷ t) rest ∙ ap (λ t. t ++ p ∷ []) (sym (between-cons e (f ∷ es) 0 p.0 (omega arith) (omega (arith, l.from))))

  pub below_split : (c d : ℕ) (m : Pairs V) (to : ℕ) (p : ℕ × V) → Rises c d m → below_of m to ≡ Some p → between m 0 to ≡ between m 0 p.0 ++ p ∷ []
  below_split c d m to p h is =
      let l = greatest_between 0 to c d m p h is in
      up_to_last 0 to (between m 0 to) p (between-within c d 0 to m h) is ∙ ap (λ t. t ++ p ∷ []) (between-twice m to p.0 (omega (arith, l.to)))
