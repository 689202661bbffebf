-- A machine has one content.
use Rattle.std.proofs.Common.{◌≡◌, ◌^◌, ℕ, refl, sym, ◌∙◌}
use Rattle.std.specs.Prelude.{Option, Some, None}
use Rattle.spec_map.proofs.MapLaws.{same_from_lookups}
use Rattle.spec_map.specs.Map.{Pairs, lookup}
use Rattle.spec_olc.specs.Content.{IsContent}
use Rattle.spec_olc.specs.State.{State}

module _ {M : Type 0} (s : State M) where
  found_in : (m n : Pairs M) → IsContent s m → IsContent s n → (k : ℕ) (v : M) → lookup m k ≡ Some v → lookup n k ≡ Some v
  found_in m n c d k v e = (d.pairs k v).1 ((c.pairs k v).0 e)

  same_at : (m n : Pairs M) → IsContent s m → IsContent s n → (k : ℕ) (a b : Option M) → lookup m k ≡ a → lookup n k ≡ b → lookup n k ≡ lookup m k
  same_at m n c d k (Some v) b e f = found_in m n c d k v e ∙ sym e
  same_at m n c d k None (Some w) e f = f ∙ sym (found_in n m d c k w f)
  same_at m n c d k None None e f = f ∙ sym e

  pub one_content : (m n : Pairs M) → IsContent s m → IsContent s n → n ≡ m
  one_content m n c d =
      same_from_lookups 0 (2 ^ 64) 0 (2 ^ 64) n m d.map c.map (λ k. same_at m n c d k (lookup m k) (lookup n k) refl refl)
