-- A node's children have their bytes in order.
use Rattle.std.proofs.Common.{ℕ, ◌+◌, ◌<◌, ◌≤◌, List, [], ◌∷◌, Option, Some, None, subst}
use Rattle.node_base.specs.Form.{limit}
use Rattle.spec_node.specs.TableNode.{TableNode, Child}
use Rattle.spec_map.specs.Map.{Rises}
use Rattle.live_layout.specs.Encodes.{Stands, HasChildren, Encodes}

stands_rise : (low high : ℕ) (es : List (ℕ × ℕ)) (fs : List (ℕ × Child ℕ)) → Stands es fs → Rises low high es → Rises low high fs
stands_rise low high [] [] s r = tt
stands_rise low high [] (f ∷ fs) s r = absurd s
stands_rise low high (e ∷ es) [] s r = absurd s
stands_rise low high (e ∷ es) (f ∷ fs) s r = (
  subst (λ (z : ℕ). low ≤ z) s.0 r.0,
  subst (λ (z : ℕ). z < high) s.0 r.1,
  stands_rise (f.0 + 1) high es fs s.2 (subst (λ (z : ℕ). Rises (z + 1) high es) s.0 r.2),
)

children_rise : (o : Option ℕ) (c : List ℕ) (es : List (ℕ × ℕ)) → HasChildren o c es → Rises 0 256 es
children_rise None c es h = h.ordered
children_rise (Some room) c es h = h.ordered

pub encodes_rise : (c : List ℕ) (n : TableNode ℕ) → Encodes c n → Rises 0 256 n.children
encodes_rise c n e = stands_rise 0 256 e.words n.children e.stand (children_rise (limit n.form) c e.words e.children)
