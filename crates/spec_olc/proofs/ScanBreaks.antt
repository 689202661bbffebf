-- What violates IsScan.
use Rattle.std.proofs.Common.{◌≡◌, ℕ, ◌<◌, ◌≤◌, List, [], ◌∷◌, ◌++◌, length, Some, None, inl, inr, ◌⊎◌, sym, subst, ap, ◌∙◌, arith}
use Rattle.std.specs.Prelude.{IsSome}
use Rattle.spec_map.proofs.JoinLaws.{lookup-above}
use Rattle.spec_map.specs.Map.{Pairs, lookup, between, Rises}
use Rattle.spec_olc.specs.Scans.{Reported, pair_in, given, WasStored, EndsBy, Ends, IsScan}
use Rattle.spec_olc.specs.declared.types.Outcome.{Outcome}
use Rattle.spec_olc.specs.declared.types.Outcome.TheVariants.{Going, Pair, Done}

none_some : (x : ℕ) → None ≡ Some x → ⊥
none_some x e = cc

no_number : (key : ℕ) → let n : Pairs ℕ = [] in IsSome (lookup n key) → ⊥
no_number key h = cc

module _ (start end limit : ℕ) where
  -- a pair that isn't stored
  pub breaks_absent : (x : Reported) (key value : ℕ) → x.out ≡ Pair key value → lookup x.content key ≡ None → IsScan start end limit (x ∷ []) → ⊥
  breaks_absent x key value e none scan =
      let stood : lookup x.content key ≡ Some value = subst (λ (o : Outcome ℕ). WasStored o x.content) e scan.was_stored.0 in
      none_some value (sym none ∙ stood)

  given_one : (x : Reported) (key value : ℕ) → x.out ≡ Pair key value → given (x ∷ []) ≡ (key, value) ∷ []
  given_one x key value e = ap (λ (o : Outcome ℕ). pair_in o ++ []) e

  given_two : (x y : Reported) (k j v u : ℕ) → x.out ≡ Pair k v → y.out ≡ Pair j u → given (x ∷ y ∷ []) ≡ (k, v) ∷ (j, u) ∷ []
  given_two x y k j v u e f = ap (λ (o : Outcome ℕ). pair_in o ++ (pair_in y.out ++ [])) e ∙ ap (λ (o : Outcome ℕ). (k, v) ∷ (pair_in o ++ [])) f

  -- the range's end
  pub breaks_end : (x : Reported) (value : ℕ) → x.out ≡ Pair end value → IsScan start end limit (x ∷ []) → ⊥
  breaks_end x value e scan =
      let one : Rises start end ((end, value) ∷ []) = subst (λ (g : Pairs ℕ). Rises start end g) (given_one x end value e) scan.ascend in
      absurd (omega (arith, one.1))

  -- a key given twice
  pub breaks_twice : (x y : Reported) (key v u : ℕ) → x.out ≡ Pair key v → y.out ≡ Pair key u → IsScan start end limit (x ∷ y ∷ []) → ⊥
  breaks_twice x y key v u e f scan =
      let two : Rises start end ((key, v) ∷ (key, u) ∷ []) = subst (λ (g : Pairs ℕ). Rises start end g) (given_two x y key key v u e f) scan.ascend in
      absurd (omega (arith, two.2.0))

  -- one pair too many
  pub breaks_many : (x : Reported) (key value : ℕ) → limit ≡ 0 → x.out ≡ Pair key value → IsScan start end limit (x ∷ []) → ⊥
  breaks_many x key value n e scan =
      let one : 1 ≤ limit = subst (λ (g : Pairs ℕ). length g ≤ limit) (given_one x key value e) scan.at_most in
      absurd (omega (arith, n, one))

  given_none : (x y : Reported) → x.out ≡ Going → y.out ≡ Done → given (x ∷ y ∷ []) ≡ []
  given_none x y e f = ap (λ (o : Outcome ℕ). pair_in o ++ (pair_in y.out ++ [])) e ∙ ap (λ (o : Outcome ℕ). pair_in o ++ []) f

  ends_both : (x y : Reported) → x.out ≡ Going → y.out ≡ Done → Ends (x ∷ y ∷ [])
  ends_both x y e f = subst (λ (o : Outcome ℕ). EndsBy o (EndsBy y.out ⊥)) (sym e) (subst (λ (o : Outcome ℕ). EndsBy o ⊥) (sym f) tt)

  -- a key that is skipped
  pub breaks_passed : (x y : Reported) (key : ℕ) → x.out ≡ Going → y.out ≡ Done → start ≤ key → key < end → 0 < limit
      → IsSome (lookup x.content key) → IsSome (lookup y.content key) → IsScan start end limit (x ∷ y ∷ []) → ⊥
  breaks_passed x y key e f from to some s t scan =
      let end_is : IsSome (lookup (given (x ∷ y ∷ [])) key) ⊎ (length (between (given (x ∷ y ∷ [])) 0 key) ≡ limit) = scan.complete (ends_both x y e f) key from to (s, (t, tt)) in
      let nothing : IsSome (lookup {V = ℕ} [] key) ⊎ (0 ≡ limit) = subst (λ (g : Pairs ℕ). IsSome (lookup g key) ⊎ (length (between g 0 key) ≡ limit)) (given_none x y e f) end_is in
      elim nothing [
        | inl found ↦ no_number key found
        | inr full ↦ absurd (omega (arith, full, some))
      ]

  -- a key at the range's end or above is never given
  pub never_from_end : (events : List Reported) (key : ℕ) → IsScan start end limit events → end ≤ key → lookup (given events) key ≡ None
  never_from_end events key scan le = lookup-above start end (given events) key scan.ascend le
