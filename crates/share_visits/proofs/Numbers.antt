-- The numbers of all shards.
use Rattle.std.proofs.Common.{◌≡◌, ℕ, zero, suc, ◌<◌, ◌≤◌, ◌%◌, ◌/◌, Bool, true, false, cond, All, List, [], ◌∷◌, length, reverse, ◌++◌, refl, sym, ap, subst, ◌∙◌, inl, inr, eq-eqb, ne_eqb, arith}
use Rattle.std.proofs.lemmas.Bool.{cases_eq}
use Rattle.std.proofs.lemmas.List.{reverse-append, reverse-reverse}
use Rattle.share_shards.specs.Held.{is_in, keys_of, AreDistinct}
use Rattle.share_visits.specs.Whole.{IsCount, down, shard_of}

pub covers : (n k : ℕ) → k < n → is_in (down n) k ≡ true
covers zero k lt = absurd (omega (arith, lt))
covers (suc n) k lt =
    elim (cases_eq n k) [
      | inl is ↦ ap (λ (b : Bool). cond b true (is_in (down n) k)) (eq-eqb n k is)
      | inr ne ↦ ap (λ (b : Bool). cond b true (is_in (down n) k)) (ne_eqb n k ne) ∙ covers n k (omega (arith, lt, ne))
    ]

pub fresh : (n k : ℕ) → n ≤ k → is_in (down n) k ≡ false
fresh zero k from = refl
fresh (suc n) k from =
    ap (λ (b : Bool). cond b true (is_in (down n) k)) (ne_eqb n k (λ is. absurd (omega (arith, from, is)))) ∙ fresh n k (omega (arith, from))

pub distinct : (n : ℕ) → AreDistinct (down n)
distinct zero = tt
distinct (suc n) = (fresh n n (omega arith), distinct n)

pub length-down : (n : ℕ) → length (down n) ≡ n
length-down zero = refl
length-down (suc n) = let rest : length (down n) ≡ n = length-down n in omega (arith, rest)

pub few_shards : (count : ℕ) → IsCount count → count ≤ 64
few_shards count (inl one) = omega (arith, one)
few_shards count (inr many) = omega (arith, many)

pub all_keys : (count : ℕ) → IsCount count → (k : ℕ) → keys_of (shard_of count) (down count) k ≡ true
all_keys count (inl one) k = subst (λ (n : ℕ). is_in (down n) ((k / 256) % n) ≡ true) (sym one) (covers 1 ((k / 256) % 1) (omega arith))
all_keys count (inr many) k = subst (λ (n : ℕ). is_in (down n) ((k / 256) % n) ≡ true) (sym many) (covers 64 ((k / 256) % 64) (omega arith))

-- all in a list whose reverse they are
all_more : (n : ℕ) (l : List ℕ) (x : ℕ) → All (λ (i : ℕ). i < n) l → x < n → All (λ (i : ℕ). i < n) (l ++ x ∷ [])
all_more n [] x h e zero d lt = e
all_more n [] x h e (suc k) d lt = absurd (omega (arith, lt))
all_more n (y ∷ l) x h e zero d lt = h 0 d (omega arith)
all_more n (y ∷ l) x h e (suc k) d lt = all_more n l x (λ j c le. h (suc j) c (omega (arith, le))) e k d (omega (arith, lt))

below_up : (n : ℕ) → All (λ (i : ℕ). i < n) (reverse (down n))
below_up zero = λ k d lt. absurd (omega (arith, lt))
below_up (suc n) =
    subst (λ (l : List ℕ). All (λ (i : ℕ). i < suc n) l) (sym (reverse-append (n ∷ []) (down n)))
    (all_more (suc n) (reverse (down n)) n (λ k d lt. let h = below_up n k d lt in omega (arith, h)) (omega arith))

pub below_all : (n : ℕ) (l : List ℕ) → reverse l ≡ down n → All (λ (i : ℕ). i < n) l
below_all n l is =
    subst (λ (z : List ℕ). All (λ (i : ℕ). i < n) z) (ap (λ (z : List ℕ). reverse z) (sym is) ∙ reverse-reverse l) (below_up n)
