-- Bytes that are copied to another head, and children that are put from the last one on.
use Rattle.std.proofs.Common.{◌≡◌, ℕ, zero, suc, ◌+◌, ◌<◌, ◌≤◌, List, [], ◌∷◌, ◌++◌, length, map, take, drop, get_or, set, None, refl, ap, sym, subst, ◌∙◌, arith, add-one, append_assoc, length-append}
use Rattle.std.proofs.lemmas.Bool.{le-ltb, ne_eqb}
use Rattle.spec_map.specs.Map.{lookup, put, Rises}
use Rattle.spec_map.proofs.MapLaws.{lookup-below}
use Rattle.node_base.specs.inner.Sorted.{pairs}

module _ {C : Type 0} where
  abbrev pub bytes_of : List (ℕ × C) → List ℕ
  bytes_of es = map (λ (e : ℕ × C). e.0) es

-- one byte more
pub take_set : (ks : List ℕ) (n b : ℕ) → n < length ks → take (n + 1) (set ks n b) ≡ take n ks ++ b ∷ []
take_set [] n b less = absurd (omega (arith, less))
take_set (k ∷ ks) zero b less = refl
take_set (k ∷ ks) (suc n) b less = rw add-one (ap (λ t. k ∷ t) (rw add-one at (take_set ks n b (omega (arith, less)))))

module _ {C : Type 0} where
  -- what was copied is beside the same children
  pub pairs_bytes : (ks ls : List ℕ) (cs : List C) → length cs ≤ length ks → length cs ≤ length ls → bytes_of (pairs ks cs) ≡ take (length cs) ls → pairs ls cs ≡ pairs ks cs
  pairs_bytes [] ls [] m n is = none ls
    where
      none : (ls : List ℕ) → pairs {C = C} ls [] ≡ []
      none [] = refl
      none (l ∷ ls) = refl
  pairs_bytes [] ls (c ∷ cs) m n is = absurd (omega (arith, m))
  pairs_bytes (k ∷ ks) [] [] m n is = refl
  pairs_bytes (k ∷ ks) (l ∷ ls) [] m n is = refl
  pairs_bytes (k ∷ ks) [] (c ∷ cs) m n is = absurd (omega (arith, n))
  pairs_bytes (k ∷ ks) (l ∷ ls) (c ∷ cs) m n is =
      let one : k ≡ l = cc in
      let others : bytes_of (pairs ks cs) ≡ take (length cs) ls = cc in
      let rest = pairs_bytes ks ls cs (omega (arith, m)) (omega (arith, n)) others in
      rw (one, rest) refl

pub drop_step : (ks : List ℕ) (n : ℕ) → n < length ks → drop n ks ≡ get_or ks n 0 ∷ drop (n + 1) ks
drop_step [] n less = absurd (omega (arith, less))
drop_step (k ∷ ks) zero less = refl
drop_step (k ∷ ks) (suc n) less = rw add-one (rw add-one at (drop_step ks n (omega (arith, less))))

module _ {C : Type 0} where
  -- a child that comes before all others
  pub put_before : (k : ℕ) (c : C) (es : List (ℕ × C)) → Rises (k + 1) 256 es → put es k c ≡ (k, c) ∷ es
  put_before k c [] h = refl
  put_before k c ((j, d) ∷ es) h = let less : k < j = omega (arith, h.0) in rw (le-ltb j k (omega (arith, less)), ne_eqb j k (omega (arith, less))) refl

  pub none_before : (k : ℕ) (es : List (ℕ × C)) → Rises (k + 1) 256 es → lookup es k ≡ None
  none_before k es h = lookup-below (k + 1) 256 es k h (omega arith)

  -- those after a place are above its byte
  pub rises_after : (a : ℕ) (ks : List ℕ) (xs : List C) (c : C) (done : List C) → length xs < length ks → Rises a 256 (pairs ks (xs ++ c ∷ done)) → Rises (get_or ks (length xs) 0 + 1) 256 (pairs (drop (length xs + 1) ks) done)
  rises_after a [] xs c done less h = absurd (omega (arith, less))
  rises_after a (k ∷ ks) [] c done less h = h.2
  rises_after a (k ∷ ks) (x ∷ xs) c done less h =
      let e : suc (length xs + 1) ≡ suc (length xs) + 1 = omega arith in
      subst (λ m. Rises (get_or ks (length xs) 0 + 1) 256 (pairs (drop m (k ∷ ks)) done)) e (rises_after (k + 1) ks xs c done (omega (arith, less)) h.2)

  -- the last child of those that are left goes before those that are done
  pub record Next (keys : List ℕ) (all xs : List C) (c : C) (done : List C) : Type 0 where
    pub whole : all ≡ xs ++ c ∷ done
    pub absent : lookup (pairs (drop (length xs + 1) keys) done) (get_or keys (length xs) 0) ≡ None
    pub put_is : put (pairs (drop (length xs + 1) keys) done) (get_or keys (length xs) 0) c ≡ pairs (drop (length xs) keys) (c ∷ done)

  pub next_before : (keys : List ℕ) (all left xs : List C) (c : C) (done : List C) → length all ≤ length keys → Rises 0 256 (pairs keys all) → all ≡ left ++ done → left ≡ xs ++ c ∷ [] → Next keys all xs c done
  next_before keys all left xs c done few h is last =
      let whole : all ≡ xs ++ c ∷ done = is ∙ ap (λ t. t ++ done) last ∙ append_assoc xs (c ∷ []) done in
      let long = ap length whole in
      let less : length xs < length keys = omega (arith, few, long, length-append xs (c ∷ done)) in
      let after = rises_after 0 keys xs c done less (subst (λ t. Rises 0 256 (pairs keys t)) whole h) in
      record {
        whole = whole;
        absent = none_before (get_or keys (length xs) 0) (pairs (drop (length xs + 1) keys) done) after;
        put_is = put_before (get_or keys (length xs) 0) c (pairs (drop (length xs + 1) keys) done) after ∙ ap (λ t. pairs t (c ∷ done)) (sym (drop_step keys (length xs) less));
      }
