-- From words to children.
use Rattle.std.proofs.Common.{◌≡◌, ℕ, ◌<◌, ◌≤◌, Bool, true, List, length, Option, Some, None, refl, subst, arith}
use Rattle.spec_map.specs.Map.{lookup}
use Rattle.node_base.specs.Form.{limit}
use Rattle.spec_node.specs.TableNode.{TableNode, Child}
use Rattle.live_layout.specs.Encodes.{HasChildren, Encodes, IsBelow, Stands}
use Rattle.live_layout.proofs.StandLaws.{stands-lookup, leaf-found}
use Rattle.live_layout.specs.Order.{IsNearest, HasNearest}
use Rattle.live_layout.specs.Page.{IsNext}

no_child : (o : Option (Child ℕ)) → IsBelow o None → o ≡ None
no_child None t = refl
no_child (Some x) t = absurd t

absent : (es : List (ℕ × ℕ)) (fs : List (ℕ × Child ℕ)) (k : ℕ) → Stands es fs → lookup es k ≡ None → lookup fs k ≡ None
absent es fs k s none = no_child (lookup fs k) (subst (λ (o : Option ℕ). IsBelow (lookup fs k) o) none (stands-lookup es fs k s))

to_children : (up : Bool) (es : List (ℕ × ℕ)) (fs : List (ℕ × Child ℕ)) (from : ℕ) (r : Option (ℕ × ℕ)) → Stands es fs → IsNearest up es from r → HasNearest up fs from r
to_children up es fs from None s near = λ k f. absent es fs k s (near k f)
to_children up es fs from (Some e) s near =
    (near.0, subst (λ (o : Option ℕ). IsBelow (lookup fs e.0) o) near.1 (stands-lookup es fs e.0 s), λ k f less. absent es fs k s (near.2 k f less))

pub nearest_child : (c : List ℕ) (n : TableNode ℕ) (up : Bool) (from : ℕ) (r : Option (ℕ × ℕ)) (o : Option ℕ) → limit n.form ≡ o → Encodes c n → ((es : List (ℕ × ℕ)) → HasChildren o c es → IsNearest up es from r) → HasNearest up n.children from r
nearest_child c n up from r o is e near = to_children up e.words n.children from r e.stand (near e.words (subst (λ (k : Option ℕ). HasChildren k c e.words) is e.children))

-- the next child of a leaf, up to a byte
pub next_child : (c : List ℕ) (n : TableNode ℕ) (from last : ℕ) (e : ℕ × ℕ) → Encodes c n → length n.prefix ≡ 7 → e.0 ≤ last → HasNearest true n.children from (Some e) → IsNext n from last (Some e)
next_child c n from last e encodes seven low near = (near.0, low, leaf-found c n e.0 (Some e.1) encodes seven near.1, near.2)

pub none_within : (n : TableNode ℕ) (from last : ℕ) (e : ℕ × ℕ) → last < e.0 → HasNearest true n.children from (Some e) → IsNext n from last None
none_within n from last e high near = λ b f l. near.2 b f (omega (arith, l, high))
