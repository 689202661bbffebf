-- The form of a node that takes one more child.
use Rattle.std.proofs.Common.{◌≡◌, ℕ, ◌+◌, ◌≤◌, refl, arith}
use Rattle.std.proofs.lemmas.Bool.{lt-ltb}
use Rattle.node_base.specs.Form.{Fits}
use Rattle.node_table.specs.Shape.{grown_form}
use Rattle.node_base.specs.declared.base_node.NodeType.{NodeType}
use Rattle.node_base.specs.declared.base_node.NodeType.TheVariants.{N4, N16, N48, N256}

pub grown_fits : (f : NodeType) (c : ℕ) → Fits f (c + 1) → grown_form f c ≡ f
grown_fits N4 c h = rw (lt-ltb c 4 (omega (arith, h))) refl
grown_fits N16 c h = rw (lt-ltb c 16 (omega (arith, h))) refl
grown_fits N48 c h = rw (lt-ltb c 48 (omega (arith, h))) refl
grown_fits N256 c h = refl

at_most : (c n : ℕ) → (c + 1 ≤ n → ⊥) → n ≤ c
at_most c n h = omega (arith, h)
