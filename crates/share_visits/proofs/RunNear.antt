-- A pair that was found in a shard is the nearest of all, if the keys between it and the place are all of that shard.
use Rattle.std.proofs.Common.{◌≡◌, ℕ, ◌+◌, ◌/◌, ◌%◌, ◌<◌, ◌≤◌, ◌^◌, [], ◌∷◌, ◌++◌, Some, refl, sym, ap, ◌∙◌, eq-eqb, arith}
use Rattle.share_parts.specs.Parts.{kept, Ascends}
use Rattle.share_parts.proofs.Parts.{ascends_kept, between-kept, lookup-kept}
use Rattle.share_shards.specs.Held.{keys_at}
use Rattle.share_visits.specs.Near.{near_of}
use Rattle.share_visits.specs.Whole.{shard_of}
use Rattle.share_visits.specs.declared.near.Near.{Near}
use Rattle.share_visits.specs.declared.near.Near.TheVariants.{First, Last, Floor, Below, Ceiling, Above}
use Rattle.share_visits.specs.inner.Place.{key_at}
use Rattle.share_visits.proofs.Running.{single}
use Rattle.share_visits.proofs.Splitting.{between-split, in_range}
use Rattle.spec_map.proofs.MapLaws.{lookup-between_inside, Rises-between}
use Rattle.spec_map.proofs.NearLaws.{first_at, last_at, none-between}
use Rattle.spec_map.specs.Map.{Pairs, between, lookup}
use Rattle.spec_map.specs.Near.{first_of, last_of, pair_near}

last_push : (l : Pairs ℕ) (p : ℕ × ℕ) → last_of (l ++ p ∷ []) ≡ Some p
last_push [] p = refl
last_push (x ∷ []) p = refl
last_push (x ∷ (y ∷ l)) p = last_push (y ∷ l) p

module _ (count : ℕ) (all : Pairs ℕ) (up : Ascends all) (s : ℕ) where
  abbrev part : Pairs ℕ
  part = kept (keys_at (shard_of count) s) all

  ascends : Ascends part
  ascends = ascends_kept (keys_at (shard_of count) s) all up

  none_there : (a b : ℕ) → ((k : ℕ) → a ≤ k → k < b → shard_of count k ≡ s) → between part a b ≡ [] → between all a b ≡ []
  none_there a b one none = sym (between-kept (keys_at (shard_of count) s) all a b (λ k from to. eq-eqb (shard_of count k) s (one k from to))) ∙ none

  -- from here on
  first_in_run : (a : ℕ) (p : ℕ × ℕ) → first_of (between part a (2 ^ 64)) ≡ Some p → ((k : ℕ) → a ≤ k → k ≤ p.0 → shard_of count k ≡ s) → first_of (between all a (2 ^ 64)) ≡ Some p
  first_in_run a p is one =
      let at = first_at 0 ascends.0 (between part a (2 ^ 64)) p (Rises-between 0 ascends.0 a (2 ^ 64) part ascends.1) is in
      let r = in_range part ascends a (2 ^ 64) p at.stored in
      let low = r.0 in let high = r.1 in
      let mine : shard_of count p.0 ≡ s = one p.0 low (omega arith) in
      let stored : lookup all p.0 ≡ Some p.1 =
      sym (lookup-kept (keys_at (shard_of count) s) all p.0 (eq-eqb (shard_of count p.0) s mine)) ∙ (sym (lookup-between_inside part a (2 ^ 64) p.0 low high) ∙ at.stored)
      in
      let none : between all a p.0 ≡ [] =
      none_there a p.0 (λ k from to. one k from (omega (arith, to))) (none-between part a p.0 (λ k from to. sym (lookup-between_inside part a (2 ^ 64) k from (omega (arith, to, high))) ∙ at.nothing k to))
      in
      ap (λ (l : Pairs ℕ). first_of l)
      (between-split all up a p.0 (2 ^ 64) low (omega (arith, high))
      ∙ (λ i. none i ++ (between-split all up p.0 (p.0 + 1) (2 ^ 64) (omega arith) (omega (arith, high)) ∙ ap (λ (l : Pairs ℕ). l ++ between all (p.0 + 1) (2 ^ 64)) (single all up p.0 p.1 stored)) i))

  -- up to here
  last_in_run : (b : ℕ) (p : ℕ × ℕ) → last_of (between part 0 b) ≡ Some p → ((k : ℕ) → p.0 ≤ k → k < b → shard_of count k ≡ s) → last_of (between all 0 b) ≡ Some p
  last_in_run b p is one =
      let at = last_at 0 ascends.0 (between part 0 b) p (Rises-between 0 ascends.0 0 b part ascends.1) is in
      let r = in_range part ascends 0 b p at.stored in
      let low = r.0 in let high = r.1 in
      let mine : shard_of count p.0 ≡ s = one p.0 (omega arith) high in
      let stored : lookup all p.0 ≡ Some p.1 =
      sym (lookup-kept (keys_at (shard_of count) s) all p.0 (eq-eqb (shard_of count p.0) s mine)) ∙ (sym (lookup-between_inside part 0 b p.0 low high) ∙ at.stored)
      in
      let none : between all (p.0 + 1) b ≡ [] =
      none_there (p.0 + 1) b (λ k from to. one k (omega (arith, from)) to)
      (none-between part (p.0 + 1) b (λ k from to. sym (lookup-between_inside part 0 b k (omega arith) to) ∙ at.nothing k (omega (arith, from))))
      in
      ap (λ (l : Pairs ℕ). last_of l)
      (between-split all up 0 p.0 b low (omega (arith, high))
      ∙ ap (λ (l : Pairs ℕ). between all 0 p.0 ++ l)
      (between-split all up p.0 (p.0 + 1) b (omega arith) (omega (arith, high)) ∙ (λ i. single all up p.0 p.1 stored i ++ none i)))
      ∙ last_push (between all 0 p.0) p

-- the keys of one run are of one shard
same_shard : (count key k : ℕ) → k / 256 ≡ key / 256 → shard_of count k ≡ shard_of count key
same_shard count key k is = ap (λ (n : ℕ). n % count) is

pub nearest_of_run : (count : ℕ) (all : Pairs ℕ) → Ascends all → (near : Near) (key : ℕ) (p : ℕ × ℕ) → key_at near ≡ Some key → p.0 / 256 ≡ key / 256
    → pair_near (kept (keys_at (shard_of count) (shard_of count key)) all) (near_of near) ≡ Some p → pair_near all (near_of near) ≡ Some p
nearest_of_run count all up First key p at run is = absurd (cc)
nearest_of_run count all up Last key p at run is = absurd (cc)
nearest_of_run count all up (Floor k) key p at run is =
    let same : k ≡ key = cc in
    last_in_run count all up (shard_of count key) (k + 1) p is (λ j from to. same_shard count key j (omega (arith, from, to, same, run)))
nearest_of_run count all up (Below k) key p at run is =
    let same : k ≡ key = cc in
    last_in_run count all up (shard_of count key) k p is (λ j from to. same_shard count key j (omega (arith, from, to, same, run)))
nearest_of_run count all up (Ceiling k) key p at run is =
    let same : k ≡ key = cc in
    first_in_run count all up (shard_of count key) k p is (λ j from to. same_shard count key j (omega (arith, from, to, same, run)))
nearest_of_run count all up (Above k) key p at run is =
    let same : k ≡ key = cc in
    first_in_run count all up (shard_of count key) (k + 1) p is (λ j from to. same_shard count key j (omega (arith, from, to, same, run)))
