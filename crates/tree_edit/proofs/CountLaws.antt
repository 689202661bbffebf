-- How many pairs a tree has.
use Rattle.std.proofs.Common.{◌≡◌, ℕ, ◌+◌, ◌^◌, ◌≤◌, true, false, [], length, Some, None, Option, IsSome, is_some, refl, sym, subst, ◌∙◌, arith}
use Rattle.spec_map.specs.Map.{Pairs, lookup, put, without, IsMap}
use Rattle.node_table.specs.Table.{NodeTable, pairs_at, IsTree}
use Rattle.spec_map.proofs.ByteMapLaws.{length-from_Rises, length-put_new, length-put_some, length-without_present}
use Rattle.node_table.proofs.TableLaws.{tree_rises}
use Rattle.tree_path.specs.inner.Root.{depth}

none_is : {P : Type 0} → (o : Option P) → is_some o ≡ false → o ≡ None
none_is None e = refl
none_is (Some v) e = absurd (cc)

module _ {P : Type 0} (s : NodeTable P) (root : ℕ) (h : IsTree s depth [] root) where
  pub is_map : IsMap (pairs_at s depth root)
  is_map = tree_rises s depth [] root h

  -- they fit in 65 bits
  pub few_pairs : length (pairs_at s depth root) ≤ 2 ^ 64
  few_pairs = omega (arith, length-from_Rises 0 (2 ^ 64) (pairs_at s depth root) (omega arith) is_map)

  module _ (k : ℕ) (v : P) (before : Option P) (was : before ≡ lookup (pairs_at s depth root) k) (n : ℕ) (counted : n ≡ length (pairs_at s depth root)) (pairs : Pairs P) (is : pairs ≡ put (pairs_at s depth root) k v) where
    -- a new key is one more
    pub count_new : is_some before ≡ false → n + 1 ≡ length pairs
    count_new none =
        let absent = sym was ∙ none_is before none in
        rw is (omega (arith, counted, length-put_new 0 (2 ^ 64) (pairs_at s depth root) k v is_map absent))

    -- a key that was present is counted already
    pub count_same : is_some before ≡ true → n ≡ length pairs
    count_same some =
        let present : IsSome (lookup (pairs_at s depth root) k) = subst (λ o. IsSome o) was some in
        rw is (counted ∙ sym (length-put_some 0 (2 ^ 64) (pairs_at s depth root) k v is_map present))

  module _ (k : ℕ) (before : Option P) (was : before ≡ lookup (pairs_at s depth root) k) (n : ℕ) (counted : n ≡ length (pairs_at s depth root)) (pairs : Pairs P) (is : pairs ≡ without (pairs_at s depth root) k) where
    -- the count is one less for a pair that is removed
    pub count_less : is_some before ≡ true → n ≡ length pairs + 1
    count_less some =
        let present : IsSome (lookup (pairs_at s depth root) k) = subst (λ o. IsSome o) was some in
        rw is (counted ∙ sym (length-without_present 0 (2 ^ 64) (pairs_at s depth root) k is_map present))
