-- The root of a well formed tree has no payload.
use Rattle.std.proofs.Common.{◌≡◌, ℕ, length, Some, sym, ap, ◌∙◌}
use Rattle.spec_map.specs.Map.{lookup}
use Rattle.spec_node.specs.declared.child.Child.TheVariants.{Payload}
use Rattle.spec_olc.specs.Content.{at_root}
use Rattle.spec_olc.specs.State.{State, VersionedNode}
use Rattle.spec_olc.specs.WellFormed.{IsWellFormed}

some_is : {X : Type 0} (x y : X) → Some x ≡ Some y → x ≡ y
some_is x y e = cc

zero_seven : ◌≡◌ {A = ℕ} 0 7 → ⊥
zero_seven e = cc

pub root_has_none : {M : Type 0} (s : State M) (a : VersionedNode M) (byte : ℕ) (v : M) → IsWellFormed s → lookup s.nodes s.root ≡ Some a → lookup a.node.children byte ≡ Some (Payload v) → ⊥
root_has_none s a byte v w here is =
    let same : w.root ≡ a = some_is w.root a (sym w.root_here ∙ here) in
    zero_seven (sym (ap (λ p. length p) w.root_prefix) ∙ (ap (λ n. length n.node.prefix) same ∙ w.shape s.root byte (Payload v) (record { above = a; reaches = at_root; here = here; entry = is })))
