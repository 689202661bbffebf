-- No key is below a bound, after each change of a tree's pairs.
use Rattle.std.proofs.Common.{Ok, Err, ◌≡◌, ℕ, ◌+◌, ◌≤◌, ◌<◌, ◌^◌, ◌∷◌, Bor, Option, Some, None, IfSome, IfNone, Result, refl, ap, sym, subst, arith}
use Rattle.std.specs.Fn.{Mut}
use Rattle.spec_map.specs.Map.{Pairs, IsMap, lookup, put, without, with_answer, Rises}
use Rattle.spec_map.specs.Near.{first_of}
use Rattle.spec_map.proofs.MapLaws.{Rises-wider, Rises-put, Rises-without}
use Rattle.spec_map.proofs.NearLaws.{first_rest}
use Rattle.node_table.specs.Charge.{Charge}
use Rattle.tree_edit.specs.Tree.{TreeView}
use Rattle.tree_edit.specs.TreeCalls.{Removes, Inserts, ComputesOrInserts, ComputesIfPresent}

module _ {P : Type 0} where
  pub without_least : (a : ℕ) (m n : Pairs P) (k : ℕ) → Rises a (2 ^ 64) m → n ≡ without m k → Rises a (2 ^ 64) n
  without_least a m n k h is = subst (λ (t : Pairs P). Rises a (2 ^ 64) t) (sym is) (Rises-without a (2 ^ 64) m k h)

  put_least : (a b : ℕ) (m n : Pairs P) (k : ℕ) (v : P) → Rises a (2 ^ 64) m → b ≤ a → b ≤ k → k < 2 ^ 64 → n ≡ put m k v → Rises b (2 ^ 64) n
  put_least a b m n k v h below at fits is =
      subst (λ (t : Pairs P). Rises b (2 ^ 64) t) (sym is) (Rises-put b (2 ^ 64) m k v (Rises-wider a (2 ^ 64) b (2 ^ 64) m below (omega arith) h) at fits)

  -- a pair is gone, or none was there
  pub popped_any_least : {A : Type 0} (charge : A → Option Charge) (old new : TreeView P A) (a : ℕ) → Rises a (2 ^ 64) old.pairs → (result : Option (ℕ × P)) → IfSome result (λ pair. Removes charge old pair.0 (Some pair.1) new) → IfNone result (new ≡ old) → Rises a (2 ^ 64) new.pairs
  popped_any_least charge old new a h (Some pair) some none = without_least a old.pairs new.pairs pair.0 h some.pairs
  popped_any_least charge old new a h None some none = subst (λ t. Rises a (2 ^ 64) t.pairs) (sym none) h

  -- the first pair is gone
  pub popped_least : (m n : Pairs P) (k : ℕ) (v : P) (b : ℕ) → IsMap m → Some (k, v) ≡ first_of m → n ≡ without m k → b ≤ k + 1 → Rises b (2 ^ 64) n
  popped_least m n k v b h first is below =
      let whole : m ≡ (k, v) ∷ without m k = first_rest m (k, v) (sym first) in
      let rest : Rises 0 (2 ^ 64) ((k, v) ∷ without m k) = subst (λ (t : Pairs P). Rises 0 (2 ^ 64) t) whole h in
      subst (λ (t : Pairs P). Rises b (2 ^ 64) t) (sym is) (Rises-wider (k + 1) (2 ^ 64) b (2 ^ 64) (without m k) below (omega arith) rest.2)

  module _ {A : Type 0} (charge : A → Option Charge) (old : TreeView P A) (key : ℕ) (new : TreeView P A) (a b : ℕ) (h : Rises a (2 ^ 64) old.pairs) (below : b ≤ a) (at : b ≤ key) (fits : key < 2 ^ 64) where
    same_least : new.pairs ≡ old.pairs → Rises b (2 ^ 64) new.pairs
    same_least is = subst (λ (t : Pairs P). Rises b (2 ^ 64) t) (sym is) (Rises-wider a (2 ^ 64) b (2 ^ 64) old.pairs below (omega arith) h)

    pub inserted_least : {E : Type 0} (v : P) (result : Result (Option P) E) → Inserts charge old key v result new → Rises b (2 ^ 64) new.pairs
    inserted_least v (Ok before) x = put_least a b old.pairs new.pairs key v h below at fits x.ok
    inserted_least v (Err e) x = same_least x.err.0

    pub computed_least : {E F : Type 0} (call : Mut F (Option (Bor P) × Unit {0}) P) (f f' : F) (result : Result (Option P) E) → ComputesOrInserts charge old key call f result f' new → Rises b (2 ^ 64) new.pairs
    computed_least call f f' (Ok before) x = put_least a b old.pairs new.pairs key x.ok.0 h below at fits x.ok.2
    computed_least call f f' (Err e) x = same_least x.err.0

    answered : (answer : Option P) → new.pairs ≡ with_answer old.pairs key answer → Rises b (2 ^ 64) new.pairs
    answered (Some v) is = put_least a b old.pairs new.pairs key v h below at fits is
    answered None is = without_least b old.pairs new.pairs key (Rises-wider a (2 ^ 64) b (2 ^ 64) old.pairs below (omega arith) h) is

    pub present_least : {F : Type 0} (call : Mut F (Bor P × Unit {0}) (Option P)) (f f' : F) (result : Option P) → ComputesIfPresent charge old key call f result f' new → Rises b (2 ^ 64) new.pairs
    present_least call f f' result x = go (lookup old.pairs key) refl
      where
        go : (o : Option P) → lookup old.pairs key ≡ o → Rises b (2 ^ 64) new.pairs
        go None none = same_least (ap (λ (t : TreeView P A). t.pairs) (x.absent none).0)
        go (Some v) some =
            let one = x.present v some in
            answered one.0 one.2
