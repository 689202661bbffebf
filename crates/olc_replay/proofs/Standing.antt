-- A state has one content only, and that of a fresh machine is empty.
use Rattle.std.proofs.Common.{◌≡◌, ℕ, ◌^◌, [], Option, Some, None, inl, inr, refl, sym, subst, ◌∙◌}
use Rattle.std.proofs.lemmas.Bool.Decides.{eqb_tells}
use Rattle.std.proofs.lemmas.Bool.{ne_eqb, eq-eqb}
use Rattle.node_table.specs.Charge.{Charge}
use Rattle.spec_map.proofs.MapLaws.{same_from_lookups}
use Rattle.spec_map.specs.Map.{Pairs, lookup}
use Rattle.spec_node.specs.declared.child.Child.TheVariants.{Payload}
use Rattle.spec_olc.specs.Content.{IsContent}
use Rattle.spec_olc.specs.Runs.{fresh, bare_root}
use Rattle.spec_olc.specs.State.{State, VersionedNode}
use Rattle.olc_state.proofs.Options.{none_some, some_same}

same_option : {X : Type 0} (x y : Option X) → ((v : X) → x ≡ Some v → y ≡ Some v) → ((v : X) → y ≡ Some v → x ≡ Some v) → x ≡ y
same_option None None to from = refl
same_option None (Some v) to from = from v refl
same_option (Some v) y to from = sym (to v refl)

module _ {M : Type 0} where
  pub content_once : (s : State M) (m n : Pairs M) → IsContent s m → IsContent s n → m ≡ n
  content_once s m n c d =
      same_from_lookups 0 (2 ^ 64) 0 (2 ^ 64) m n c.map d.map
      (λ k. same_option (lookup m k) (lookup n k) (λ v e. (d.pairs k v).1 ((c.pairs k v).0 e)) (λ v e. (c.pairs k v).1 ((d.pairs k v).0 e)))

  none_here : (root slot : ℕ) (a : VersionedNode M) (byte : ℕ) (charge : Option Charge) → lookup (State.nodes (fresh root charge)) slot ≡ Some a → lookup a.node.children byte ≡ None
  none_here root slot a byte charge here =
      elim (eqb_tells root slot) [
        | inl at ↦
            let first : lookup (State.nodes (fresh {M = M} root charge)) slot ≡ Some bare_root = rw (eq-eqb root slot at.1) in
            let is : bare_root ≡ a = some_same bare_root a (sym first ∙ here) in
            subst (λ (x : VersionedNode M). lookup x.node.children byte ≡ None) is refl
        | inr off ↦
            let none : lookup (State.nodes (fresh {M = M} root charge)) slot ≡ None = rw (ne_eqb root slot off.1) in
            absurd (none_some a (sym none ∙ here))
      ]

  pub fresh_content : (root : ℕ) (charge : Option Charge) → IsContent (fresh {M = M} root charge) []
  fresh_content root charge = record {
    map = tt;
    pairs = λ key value. (
      (λ e. absurd (none_some value e)),
      (λ h. absurd (none_some (Payload value) (sym (none_here root h.slot h.payload.above h.byte charge h.payload.here) ∙ h.payload.entry))),
    );
  }
