-- What a leaf has under a byte.
use Rattle.std.proofs.Common.{◌≡◌, ℕ, Option, Some, None, IsSome, rules, IfSome, IfNone, refl, sym, ◌∙◌, subst}
use Rattle.spec_node.specs.TableNode.{Child}
use Rattle.spec_node.specs.declared.child.Child.TheVariants.{Payload, Node as Below}
use Rattle.live_layout.specs.Encodes.{IsBelow, payload_of}
use Rattle.live_nodes.specs.Tree.{HasValue}

none_some : {A : Type 0} {x : A} → None ≡ Some x → ⊥
none_some e = cc

pub value_found : (o : Option (Child ℕ)) (r : Option ℕ) → IsBelow o r → payload_of o ≡ r → HasValue o r
value_found None None below e = refl
value_found None (Some w) below e = absurd below
value_found (Some (Payload v)) r below e = sym e
value_found (Some (Below s)) None below e = absurd below
value_found (Some (Below s)) (Some w) below e = absurd (none_some e)

pub value_once : (o : Option (Child ℕ)) (x y : Option ℕ) → HasValue o x → HasValue o y → x ≡ y
value_once None x y a b = a ∙ sym b
value_once (Some (Payload v)) x y a b = a ∙ sym b
value_once (Some (Below s)) x y a b = absurd a

pub at_some : {P : Type 0} (o : Option ℕ) (w : ℕ) → o ≡ Some w → IfSome o (λ _. P) → P
at_some {P} o w e h = subst (λ (z : Option ℕ). IfSome z (λ _. P)) e h

pub at_none : {P : Type 0} (o : Option ℕ) → o ≡ None → IfNone o P → P
at_none {P} o none h = subst (λ z. IfNone z P) none h

pub none_below : (p : Option (Child ℕ)) (o : Option ℕ) → IsBelow p o → o ≡ None → p ≡ None
none_below None o i e = refl
none_below (Some x) None i e = absurd i
none_below (Some x) (Some w) i e = absurd (none_some (sym e))

-- what was found is there
pub child_found : (p : Option (Child ℕ)) (o : Option ℕ) → IsBelow p o → IsSome o → p ≡ None → ⊥
child_found None None i s e = absurd (search rules)
child_found None (Some w) i s e = i
child_found (Some x) o i s e = none_some (sym e)
