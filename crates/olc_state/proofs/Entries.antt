-- Look-ups in lists by number, and what stays where each is mapped.
use Rattle.std.proofs.Common.{◌≡◌, ◌≢◌, ℕ, zero, suc, ◌<◌, ◌≤◌, List, [], ◌∷◌, map, Option, Some, None, inl, inr, refl, ap, sym, ◌∙◌, arith, slice_index_or}
use Rattle.std.proofs.lemmas.Bool.{lt-ltb, le-ltb, eq-eqb, ne_eqb, cases_eq, cases_lt}
use Rattle.spec_map.specs.Map.{lookup, with_answer, Rises}
use Rattle.spec_map.proofs.MapLaws.{Rises-put, Rises-without, lookup-put_same, lookup-put_other, lookup-without_same, lookup-without_other}
use Rattle.node_table.specs.inner.Kinds.{mapped}
use Rattle.node_table.proofs.KindLaws.{lookup-mapped_some, lookup-mapped_none, put-mapped, without-mapped}
use Rattle.spec_olc.specs.Meaning.{in_some}
use Rattle.olc_words.specs.Epoch.{entry_at}

module _ {X : Type 0} where
  -- the value at the first key
  pub lookup-first : (e : ℕ × X) (es : List (ℕ × X)) → lookup (e ∷ es) e.0 ≡ Some e.1
  lookup-first e es = rw (eq-eqb e.0 e.0 refl)

  -- the entry of the first number, and of another
  pub entry-first : (e : ℕ × X) (es : List (ℕ × X)) (k : ℕ) → e.0 ≡ k → entry_at (e ∷ es) k ≡ Some e.1
  entry-first e es k same = rw (le-ltb k e.0 (omega arith), eq-eqb k e.0 (sym same))

  pub entry-next : (e : ℕ × X) (es : List (ℕ × X)) (k : ℕ) → e.0 ≢ k → entry_at (e ∷ es) k ≡ entry_at es k
  entry-next e es k other =
      elim (cases_lt k e.0) [
        | inl less ↦ rw (lt-ltb k e.0 less)
        | inr more ↦ rw (le-ltb k e.0 more, ne_eqb k e.0 (λ x. other (sym x)))
      ]

  -- an answer at a key
  pub answer_same : (a b : ℕ) (es : List (ℕ × X)) (k : ℕ) (o : Option X) → Rises a b es → lookup (with_answer es k o) k ≡ o
  answer_same a b es k None h = lookup-without_same a b es k h
  answer_same a b es k (Some v) h = lookup-put_same es k v

  pub answer_other : (es : List (ℕ × X)) (k : ℕ) (o : Option X) (j : ℕ) → j ≢ k → lookup (with_answer es k o) j ≡ lookup es j
  answer_other es k None j d = lookup-without_other es k j d
  answer_other es k (Some v) j d = lookup-put_other es k v j d

  pub Rises-answer : (a b : ℕ) (es : List (ℕ × X)) (k : ℕ) (o : Option X) → Rises a b es → a ≤ k → k < b → Rises a b (with_answer es k o)
  Rises-answer a b es k None h p q = Rises-without a b es k h
  Rises-answer a b es k (Some v) h p q = Rises-put a b es k v h p q

module _ {X Y : Type 0} (f : X → Y) where
  -- the value at a key of a mapped list
  pub lookup-mapped : (es : List (ℕ × X)) (k : ℕ) → lookup (mapped f es) k ≡ in_some f (lookup es k)
  lookup-mapped es k = at (lookup es k) refl
    where
      at : (o : Option X) → lookup es k ≡ o → lookup (mapped f es) k ≡ in_some f o
      at None is = lookup-mapped_none f es k is
      at (Some c) is = lookup-mapped_some f es k c is

  pub entry-mapped : (es : List (ℕ × X)) (k : ℕ) → entry_at (mapped f es) k ≡ in_some f (entry_at es k)
  entry-mapped [] k = refl
  entry-mapped (e ∷ es) k =
      elim (cases_eq e.0 k) [
        | inl same ↦ entry-first (e.0, f e.1) (mapped f es) k same ∙ ap (in_some f) (sym (entry-first e es k same))
        | inr other ↦ entry-next (e.0, f e.1) (mapped f es) k other ∙ entry-mapped es k ∙ ap (in_some f) (sym (entry-next e es k other))
      ]

  pub answer-mapped : (es : List (ℕ × X)) (k : ℕ) (o : Option X) → mapped f (with_answer es k o) ≡ with_answer (mapped f es) k (in_some f o)
  answer-mapped es k None = without-mapped f es k
  answer-mapped es k (Some v) = put-mapped f es k v

  -- the element of a mapped list whose elements may be none
  pub slot-mapped : (xs : List (Option X)) (s : ℕ) → slice_index_or (map (in_some f) xs) s None ≡ in_some f (slice_index_or xs s None)
  slot-mapped [] zero = refl
  slot-mapped [] (suc s) = refl
  slot-mapped (x ∷ xs) zero = refl
  slot-mapped (x ∷ xs) (suc s) = slot-mapped xs s
