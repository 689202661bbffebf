-- What a node's children are, where each is made of another.
use Rattle.std.proofs.Common.{◌≡◌, ℕ, ◌+◌, ◌<◌, ◌≤◌, List, [], ◌∷◌, length, Option, Some, None, IsSome, Result, Ok, Err, IfOk, OnOk, OnErr, refl, ap, ◌∙◌, sym, subst, arith, inl, inr}
use Rattle.std.proofs.lemmas.Bool.{lt-ltb, le-ltb, lt-leb, le-leb, eq-eqb, ne_eqb, cases_order, cases_eq, cases_lt}
use Rattle.std.specs.Option.{option_map}
use Rattle.spec_map.specs.Map.{lookup, put, without, between, Rises}
use Rattle.spec_map.proofs.RangeLaws.{between-next}
use Rattle.node_base.specs.Form.{Fits}
use Rattle.node_table.specs.inner.Kinds.{mapped, node_of}
use Rattle.node_base.specs.declared.base_node.NodeType.{NodeType}
use Rattle.spec_node.specs.declared.child.Child.{Child as ChildOf}

module _ {C D : Type 0} (f : C → D) where
  pub length-mapped : (es : List (ℕ × C)) → length (mapped f es) ≡ length es
  length-mapped [] = refl
  length-mapped (e ∷ es) = omega (arith, length-mapped es)

  pub Rises-mapped : (a b : ℕ) (es : List (ℕ × C)) → Rises a b es → Rises a b (mapped f es)
  Rises-mapped a b [] h = tt
  Rises-mapped a b (e ∷ es) h = (h.0, h.1, Rises-mapped (e.0 + 1) b es h.2)

  pub lookup-mapped_none : (es : List (ℕ × C)) (k : ℕ) → lookup es k ≡ None → lookup (mapped f es) k ≡ None
  lookup-mapped_none [] k h = refl
  lookup-mapped_none (e ∷ es) k h = elim (cases_eq e.0 k) [
    | inl same ↦ absurd (let g : Some e.1 ≡ None = rw (eq-eqb e.0 k same) at h in cc)
    | inr other ↦ let h' = rw (ne_eqb e.0 k other) at h in rw (ne_eqb e.0 k other) (lookup-mapped_none es k h')
  ]

  pub lookup-mapped_some : (es : List (ℕ × C)) (k : ℕ) (c : C) → lookup es k ≡ Some c → lookup (mapped f es) k ≡ Some (f c)
  lookup-mapped_some [] k c h = absurd (cc)
  lookup-mapped_some (e ∷ es) k c h = elim (cases_eq e.0 k) [
    | inl same ↦
        let g : Some e.1 ≡ Some c = rw (eq-eqb e.0 k same) at h in
        let is : e.1 ≡ c = cc in
        rw (eq-eqb e.0 k same) (ap (λ x. Some (f x)) is)
    | inr other ↦ let h' = rw (ne_eqb e.0 k other) at h in rw (ne_eqb e.0 k other) (lookup-mapped_some es k c h')
  ]

  -- a look-up that finds nothing, or something, found so among what they are made of
  pub mapped-absent : (es : List (ℕ × C)) (k : ℕ) → lookup (mapped f es) k ≡ None → lookup es k ≡ None
  mapped-absent es k h = at (lookup es k) refl
    where
      at : (o : Option C) → lookup es k ≡ o → lookup es k ≡ None
      at None is = is
      at (Some c) is = absurd (let g : Some (f c) ≡ None = sym (lookup-mapped_some es k c is) ∙ h in cc)

  pub mapped-present : (es : List (ℕ × C)) (k : ℕ) → IsSome (lookup (mapped f es) k) → IsSome (lookup es k)
  mapped-present es k h = at (lookup es k) refl
    where
      at : (o : Option C) → lookup es k ≡ o → IsSome (lookup es k)
      at None is = absurd (let none = lookup-mapped_none es k is in let g = rw none at h in cc)
      at (Some c) is = rw is refl

  -- a look-up that found so among what they are made of, found it here
  pub lookup-mapped : (es : List (ℕ × C)) (k : ℕ) (o : Option C) → lookup es k ≡ o → lookup (mapped f es) k ≡ option_map f o
  lookup-mapped es k None h = lookup-mapped_none es k h
  lookup-mapped es k (Some c) h = lookup-mapped_some es k c h

  pub put-mapped : (es : List (ℕ × C)) (k : ℕ) (c : C) → mapped f (put es k c) ≡ put (mapped f es) k (f c)
  put-mapped [] k c = refl
  put-mapped (e ∷ es) k c = elim (cases_order e.0 k) [
    | inl same ↦ rw (le-ltb e.0 k (omega arith), eq-eqb e.0 k same) refl
    | inr (inl less) ↦ rw (lt-ltb e.0 k less) (ap (λ t. (e.0, f e.1) ∷ t) (put-mapped es k c))
    | inr (inr more) ↦ rw (le-ltb e.0 k (omega arith), ne_eqb e.0 k (omega arith)) refl
  ]

  pub without-mapped : (es : List (ℕ × C)) (k : ℕ) → mapped f (without es k) ≡ without (mapped f es) k
  without-mapped [] k = refl
  without-mapped (e ∷ es) k = elim (cases_eq e.0 k) [
    | inl same ↦ rw (eq-eqb e.0 k same) refl
    | inr other ↦ rw (ne_eqb e.0 k other) (ap (λ t. (e.0, f e.1) ∷ t) (without-mapped es k))
  ]

  pub between-mapped : (es : List (ℕ × C)) (a b : ℕ) → between (mapped f es) a b ≡ mapped f (between es a b)
  between-mapped [] a b = refl
  between-mapped (e ∷ es) a b = elim (cases_lt e.0 a) [
    | inl less ↦ rw (lt-leb a e.0 less) (between-mapped es a b)
    | inr from ↦ elim (cases_lt e.0 b) [
      | inl to ↦ rw (le-leb a e.0 from, lt-ltb e.0 b to) (ap (λ t. (e.0, f e.1) ∷ t) (between-mapped es a b))
      | inr past ↦ rw (le-leb a e.0 from, le-ltb e.0 b past) (between-mapped es a b)
    ]
  ]

  -- the first from a byte on
  pub first-mapped : (es : List (ℕ × C)) (from : ℕ) (x : ℕ × C) (rest : List (ℕ × C)) → Rises 0 256 es → between es from 256 ≡ x ∷ rest
      → (between (mapped f es) from 256 ≡ (x.0, f x.1) ∷ between (mapped f es) (x.0 + 1) 256) × (from ≤ x.0)
  first-mapped es from x rest h is =
      let n = between-next 0 256 from 256 es x rest h (omega arith) is in (
        between-mapped es from 256 ∙ ap (mapped f) is ∙ ap (λ t. (x.0, f x.1) ∷ t) (ap (mapped f) n.after ∙ sym (between-mapped es (x.0 + 1) 256)),
        n.order,
      )

  pub none-mapped : (es : List (ℕ × C)) (from : ℕ) → between es from 256 ≡ [] → between (mapped f es) from 256 ≡ []
  none-mapped es from is = between-mapped es from 256 ∙ ap (mapped f) is

  -- as many children fit, whatever they are made of
  pub fits_here : (a : NodeType) (es : List (ℕ × C)) (k : ℕ) → Fits a (length (mapped f es) + k) → Fits a (length es + k)
  fits_here a es k h = subst (λ l. Fits a (l + k)) (length-mapped es) h

-- a node whose children are made of others
module _ {D P C : Type 0} (f : D → ChildOf P C) where
  pub put_into : (a b : NodeType) (p q : List ℕ) (es ds : List (ℕ × D)) (k : ℕ) (c : D) → b ≡ a → q ≡ p → ds ≡ put es k c
      → node_of f b q ds ≡ record (node_of f a p es) { children = put (mapped f es) k (f c) }
  put_into a b p q es ds k c x y z = rw (x, y, z) (ap (λ l. record (node_of f a p es) { children = l }) (put-mapped f es k c))

  pub taken_from : (a b : NodeType) (p q : List ℕ) (es ds : List (ℕ × D)) (k : ℕ) → b ≡ a → q ≡ p → ds ≡ without es k
      → node_of f b q ds ≡ record (node_of f a p es) { children = without (mapped f es) k }
  taken_from a b p q es ds k x y z = rw (x, y, z) (ap (λ l. record (node_of f a p es) { children = l }) (without-mapped f es k))

-- as many children, whatever they are made of
pub one_more : {C D : Type 0} (f : C → D) (es : List (ℕ × C)) (most : ℕ) → length es < most → length (mapped f es) + 1 ≤ most
one_more f es most h = omega (arith, length-mapped f es, h)

-- A CALL WITH TWO OUTCOMES
pub if_ok : {A E : Type 0} {F G : A → Type 0} (r : Result A E) → ((a : A) → F a → G a) → IfOk r F → IfOk r G
if_ok (Ok a) f h = f a h
if_ok (Err e) f h = h

pub on_ok : {A E X Y : Type 0} (r : Result A E) → (X → Y) → OnOk r X → OnOk r Y
on_ok (Ok a) f h = f h
on_ok (Err e) f h = h

pub on_err : {A E X Y : Type 0} (r : Result A E) → (X → Y) → OnErr r X → OnErr r Y
on_err (Ok a) f h = h
on_err (Err e) f h = f h
