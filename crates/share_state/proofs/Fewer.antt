-- How a removal of pairs is booked, and how an insertion.
use Rattle.std.proofs.Common.{◌≡◌, ℕ, ◌+◌, ◌-◌, ◌<◌, ◌≤◌, ◌%◌, ◌^◌, Bool, List, true, false, if◌then◌else◌, not, [], ◌∷◌, length, inl, inr, refl, ap, arith}
use Rattle.std.proofs.lemmas.Bool.{cases_eq, eq-eqb, ne_eqb}
use Rattle.std.proofs.lemmas.List.Filters.{length-filter_both}
use Rattle.std.specs.Prelude.{Option, Some, None, Result, Ok, Err, IfErr, OnOk, ◌&&◌, ◌==◌, nat_le, nat_lt, filter, take}
use Rattle.congee_tree.specs.Bulk.{outside, put_all, Retains}
use Rattle.spec_map.specs.Map.{Pairs, put, without}
use Rattle.spec_map.specs.Near.{without_pair}

fewer_by : {V : Type 0} (es : Pairs V) (k : ℕ) → length (without es k) ≤ length es
fewer_by [] k = omega arith
fewer_by (e ∷ es) k =
    elim (cases_eq e.0 k) [
      | inl is ↦ rw (eq-eqb e.0 k is) (omega arith)
      | inr ne ↦ rw (ne_eqb e.0 k ne) (omega (arith, fewer_by es k))
    ]

-- no more pairs are left
pub fewer_without : {V : Type 0} (es : Pairs V) (e : Option (ℕ × V)) → length (without_pair es e) ≤ length es
fewer_without es None = omega arith
fewer_without es (Some e) = fewer_by es e.0

pub fewer_outside : (es : Pairs ℕ) (a b : ℕ) → length (outside es a b) ≤ length es
fewer_outside es a b =
    let p : ℕ × ℕ → Bool = λ e. nat_le a e.0 && nat_lt e.0 b in
    let both : length (filter p es) + length (filter (λ e. not (p e)) es) ≡ length es = length-filter_both p (λ e. not (p e)) (λ e. refl) es in
    omega (arith, both)

either : (b : Bool) (e : ℕ × ℕ) (es : Pairs ℕ) → length (if b then e ∷ es else es) ≤ length es + 1
either true e es = omega arith
either false e es = omega arith

-- those that a closure keeps
pub fewer_kept : {F : Type 0} (step : F → ℕ × ℕ → Bool → F → Type 0) (es : Pairs ℕ) (f : F) (kept : Pairs ℕ) (last : F) → Retains step f es kept last → length kept ≤ length es
fewer_kept step [] f kept last h = omega (arith, ap (λ (l : Pairs ℕ). length l) h.0)
fewer_kept step (e ∷ es) f kept last (stays, next, rest, called, more, is) =
    omega (arith, ap (λ (l : Pairs ℕ). length l) is, either stays e rest, fewer_kept step es next rest last more)

-- the total is the number of those that are left
pub booked_to : (before after total next : ℕ) → before ≡ total % 2 ^ 128 → after ≤ before → before ≤ 2 ^ 64
    → (after < before → next ≡ total + (2 ^ 128 - (before - after))) → (after ≡ before → next ≡ total) → after ≡ next % 2 ^ 128
booked_to before after total next was fewer few less same =
    elim (cases_eq after before) [
      | inl is ↦ omega (arith, same is)
      | inr ne ↦ omega (arith, less (omega arith))
    ]

-- no fewer pairs are there after an insertion
more_by : (e : ℕ × ℕ) (es later : Pairs ℕ) (k v : ℕ) → length es ≤ length later → (below here : Bool)
    → length (e ∷ es) ≤ length (if below then e ∷ later else (if here then (k, v) ∷ es else (k, v) ∷ e ∷ es))
more_by e es later k v rest true here = omega (arith, rest)
more_by e es later k v rest false true = omega arith
more_by e es later k v rest false false = omega arith

more_put : (es : Pairs ℕ) (k v : ℕ) → length es ≤ length (put es k v)
more_put [] k v = omega arith
more_put (e ∷ es) k v = more_by e es (put es k v) k v (more_put es k v) (nat_lt e.0 k) (e.0 == k)

module _ {K V : Type 0} (key : K → ℕ) (value : V → ℕ) where
  pub more_all : (m : Pairs ℕ) (many : List (K × V)) → length m ≤ length (put_all key value m many)
  more_all m [] = omega arith
  more_all m (pair ∷ many) =
      omega (arith, more_put m (key pair.0) (value pair.1), more_all (put m (key pair.0) (value pair.1)) many)

  -- of as many as went in
  pub more_inserted : {U : Type 0} (m n : Pairs ℕ) (many : List (K × V)) (r : Result U ℕ) → OnOk r (n ≡ put_all key value m many) → IfErr r (λ inserted. (inserted < length many) × (n ≡ put_all key value m (take inserted many)))
      → length m ≤ length n
  more_inserted m n many (Ok done) all some = omega (arith, more_all m many, ap (λ (l : Pairs ℕ). length l) all)
  more_inserted m n many (Err inserted) all some =
      omega (arith, more_all m (take inserted many), ap (λ (l : Pairs ℕ). length l) some.1)

-- the total is the number of those that there are then
pub booked_up : (before after total next : ℕ) → before ≡ total % 2 ^ 128 → before ≤ after → after ≤ 2 ^ 64 → next ≡ total + (after - before) → after ≡ next % 2 ^ 128
booked_up before after total next was more few is = omega (arith, is)
