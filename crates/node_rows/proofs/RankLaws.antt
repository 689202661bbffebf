-- Bytes that are searched sixteen at once.
use Rattle.std.proofs.Common.{◌≡◌, ℕ, ◌+◌, ◌-◌, ◌≤◌, Bool, List, take, drop, cond, ap, ◌∙◌, arith, take-take, take-add, drop-drop}
use Rattle.std.specs.List.{count_by}
use Rattle.std.proofs.lemmas.List.Sums.{sum_by-append, count_by-le-length}
use Rattle.std.proofs.lemmas.List.{length-take}

module _ (p : ℕ → Bool) (keys : List ℕ) where
  -- in sixteen lanes are the first bytes from a place on
  pub rank-lanes : (lanes : List ℕ) (from n count : ℕ) → 16 ≤ n → count ≤ 16 → lanes ≡ take 16 (take n (drop from keys)) → count_by p (take count lanes) ≡ count_by p (take count (drop from keys))
  rank-lanes lanes from n count long few is =
      ap (λ l. count_by p (take count l)) is
      ∙ ap (count_by p) (take-take count 16 (take n (drop from keys)) few ∙ take-take count n (drop from keys) (omega arith))

  pub rank-few : (n : ℕ) (xs : List ℕ) → count_by p (take n xs) ≤ n
  rank-few n xs = omega (arith, count_by-le-length p (take n xs), length-take n xs)

  count-parts : (a b : ℕ) (xs : List ℕ) → count_by p (take (a + b) xs) ≡ count_by p (take a xs) + count_by p (take b (drop a xs))
  count-parts a b xs = ap (count_by p) (take-add a b xs) ∙ sum_by-append (λ y. cond (p y) 1 0) (take a xs) (take b (drop a xs))

  -- the first bytes, and those after sixteen
  pub rank-two : (count : ℕ) → 16 ≤ count → count_by p (take count keys) ≡ count_by p (take 16 keys) + count_by p (take (count - 16) (drop 16 keys))
  rank-two count more =
      let whole : count ≡ 16 + (count - 16) = omega arith in
      ap (λ n. count_by p (take n keys)) whole ∙ count-parts 16 (count - 16) keys

  -- and those after thirty-two
  pub rank-three : (count : ℕ) → 32 ≤ count → count_by p (take count keys) ≡ (count_by p (take 16 keys) + count_by p (take 16 (drop 16 keys))) + count_by p (take (count - 32) (drop 32 keys))
  rank-three count more =
      let rest : count - 16 ≡ 16 + (count - 32) = omega arith in
      let parts = count-parts 16 (count - 32) (drop 16 keys) in
      let high : count_by p (take (count - 32) (drop 16 (drop 16 keys))) ≡ count_by p (take (count - 32) (drop 32 keys)) = ap (λ l. count_by p (take (count - 32) l)) (drop-drop 16 16 keys) in
      let two = rank-two count (omega arith) in
      let same : count_by p (take (count - 16) (drop 16 keys)) ≡ count_by p (take (16 + (count - 32)) (drop 16 keys)) = ap (λ n. count_by p (take n (drop 16 keys))) rest in
      omega (arith, two, same, parts, high)
