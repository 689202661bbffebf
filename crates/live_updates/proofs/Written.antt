-- A leaf where a key was given another value, or none, by what is known of the writing.
use Rattle.std.proofs.Common.{◌≡◌, ℕ, ◌≤◌, List, length, Option, Some, None, sym, ◌∙◌, subst, arith}
use Rattle.node_base.specs.Form.{limit}
use Rattle.node_base.specs.declared.base_node.NodeType.{NodeType}
use Rattle.spec_node.specs.TableNode.{TableNode}
use Rattle.spec_map.specs.Map.{lookup}
use Rattle.spec_map.proofs.ByteMapLaws.{length-from_Rises}
use Rattle.live_nodes.specs.Nodes.{Content}
use Rattle.live_layout.specs.Encodes.{counted, most, HasChildren, IsCounted, Encodes, with_child}
use Rattle.live_nodes.specs.Levels.{digit}
use Rattle.live_nodes.specs.Tree.{HasValue}
use Rattle.live_updates.specs.declared.leaf.Missed.{Missed}
use Rattle.live_updates.specs.inner.Updates.{Update, child_for, IsSet}

abbrev Sets : ℕ → Option ℕ → Option ℕ → NodeType → Option Missed → Content → Content → Type 0
Sets byte old new form r c d = (n : TableNode ℕ) → Encodes c n → n.form ≡ form → length n.prefix ≡ 7 → IsSet byte old new r c d n

module _ (u : Update) (byte : ℕ) (old new : Option ℕ) (byte_is : byte ≡ digit 1 u.key) (old_is : u.old ≡ old) (new_is : u.new ≡ new) (form : NodeType) (c c' d : Content) (same : c' ≡ c) where
  pub set_leaf : (r : Option Missed) → r ≡ None → Sets byte old new form r c' d → (f : NodeType) → f ≡ form → (n : TableNode ℕ) → Encodes c n → n.form ≡ f → length n.prefix ≡ 7
      → HasValue (lookup n.children (digit 1 u.key)) u.old × Encodes d (with_child n (digit 1 u.key) (child_for u.new))
  set_leaf r done w f f_is n encodes formed deep =
      let is = subst (λ (z : Option Missed). IsSet byte old new z c' d n) done (w n (subst (λ (z : Content). Encodes z n) (sym same) encodes) (formed ∙ f_is) deep) in (
        subst (λ (z : ℕ × Option ℕ). HasValue (lookup n.children z.0) z.1) (λ i. (byte_is i, sym old_is i)) is.0,
        subst (λ (z : ℕ × Option ℕ). Encodes d (with_child n z.0 (child_for z.1))) (λ i. (byte_is i, sym new_is i)) is.1,
      )

  pub kept_leaf : (r : Option Missed) (missed : Missed) → r ≡ Some missed → Sets byte old new form r c' d → (n : TableNode ℕ) → Encodes c n → n.form ≡ form → length n.prefix ≡ 7 → d ≡ c
  kept_leaf r missed kept w n encodes formed deep = subst (λ (z : Option Missed). IsSet byte old new z c' d n) kept (w n (subst (λ (z : Content). Encodes z n) (sym same) encodes) formed deep) ∙ same

-- a node's words count no more children than there is room for
children_few : (o : Option ℕ) (c : List ℕ) (es : List (ℕ × ℕ)) → HasChildren o c es → counted o c ≤ most o
children_few None c es h = omega (arith, h.counted, length-from_Rises 0 256 es (omega arith) h.ordered)
children_few (Some room) c es h = h.few

pub encodes_few : (c : List ℕ) (n : TableNode ℕ) (form : NodeType) → n.form ≡ form → Encodes c n → IsCounted form c
encodes_few c n form is e = subst (λ (z : NodeType). IsCounted z c) is (children_few (limit n.form) c e.words e.children)
