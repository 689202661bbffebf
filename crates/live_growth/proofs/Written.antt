-- A leaf that was written, by what is known of the writing.
use Rattle.std.proofs.Common.{◌≡◌, ℕ, List, length, Option, Some, None, sym, ◌∙◌, subst, arith}
use Rattle.node_base.specs.Form.{form_place}
use Rattle.node_base.specs.declared.base_node.NodeType.{NodeType}
use Rattle.spec_node.specs.TableNode.{TableNode}
use Rattle.spec_node.specs.declared.child.Child.TheVariants.{Payload}
use Rattle.spec_map.specs.Map.{lookup}
use Rattle.live_nodes.specs.Nodes.{Content}
use Rattle.live_layout.specs.Head.{IsHead}
use Rattle.live_layout.specs.Words as cells
use Rattle.live_layout.specs.Encodes.{Encodes, with_child}
use Rattle.live_nodes.specs.Levels.{digit}
use Rattle.live_nodes.specs.Views.{View, Ask, content_of, inserted}
use Rattle.live_nodes.specs.Tree.{HasValue, Inserted, Answers}
use Rattle.live_nodes.proofs.Makes.{one-form}
use Rattle.live_growth.specs.Holds.{IsWritten}
use Rattle.live_growth.proofs.Values.{value_once}

same_len : (word f g : ℕ) (p q : List ℕ) → IsHead word f p → IsHead word g q → length p ≡ length q
same_len word f g p q h i = omega (arith, h.sized, h.short, i.sized, i.short)

pub one-prefix : (c : Content) (l m : TableNode ℕ) → Encodes c l → Encodes c m → length l.prefix ≡ length m.prefix
one-prefix c l m e f = same_len (cells.at c 0) (form_place l.form) (form_place m.form) l.prefix m.prefix e.head f.head

abbrev pub Writes : ℕ → ℕ → NodeType → Option (Option ℕ) → Content → Content → Type 0
Writes byte value form r c d = (n : TableNode ℕ) → Encodes c n → n.form ≡ form → length n.prefix ≡ 7 → IsWritten byte value r c d n

module _ (q : Ask) (byte value : ℕ) (byte_is : byte ≡ digit 1 q.key) (value_is : q.value ≡ value) (form : NodeType) (c c' d : Content) (same : c' ≡ c) where
  pub changes_leaf : (r : Option (Option ℕ)) (old : Option ℕ) → r ≡ Some old → Writes byte value form r c' d → (f : NodeType) → f ≡ form → (n : TableNode ℕ) → Encodes c n → n.form ≡ f → length n.prefix ≡ 7 → Encodes d (with_child n (digit 1 q.key) (Some (Payload q.value)))
  changes_leaf r old some w f f_is n encodes formed deep =
      let written = subst (λ (z : Option (Option ℕ)). IsWritten byte value z c' d n) some (w n (subst (λ (z : Content). Encodes z n) (sym same) encodes) (formed ∙ f_is) deep) in
      subst (λ (z : ℕ × ℕ). Encodes d (with_child n z.0 (Some (Payload z.1)))) (λ i. (byte_is i, sym value_is i)) written.0

  pub stays_leaf : (r : Option (Option ℕ)) → r ≡ None → Writes byte value form r c' d → (n : TableNode ℕ) → Encodes c n → n.form ≡ form → length n.prefix ≡ 7 → d ≡ c
  stays_leaf r none w n encodes formed deep = subst (λ (z : Option (Option ℕ)). IsWritten byte value z c' d n) none (w n (subst (λ (z : Content). Encodes z n) (sym same) encodes) formed deep) ∙ same

  -- what was found before is what the map had
  pub found_leaf : (r : Option (Option ℕ)) (old : Option ℕ) → r ≡ Some old → Writes byte value form r c' d → (m : TableNode ℕ) → Encodes c m → m.form ≡ form → length m.prefix ≡ 7 → (v w : View) → content_of v.own ≡ c → Inserted q v w → Answers q.caller (inserted q old) v.seen w.seen
  found_leaf r old some wr m m_encodes m_form m_deep v w is i =
      let encodes : Encodes c i.its = subst (λ (z : Content). Encodes z i.its) is i.encodes in
      let written = subst (λ (z : Option (Option ℕ)). IsWritten byte value z c' d i.its) some (wr i.its (subst (λ (z : Content). Encodes z i.its) (sym same) encodes) (one-form c i.its m encodes m_encodes ∙ m_form) (one-prefix c i.its m encodes m_encodes ∙ m_deep)) in
      let mine : HasValue (lookup i.its.children (digit 1 q.key)) old = subst (λ (z : ℕ). HasValue (lookup i.its.children z) old) byte_is written.1 in
      subst (λ (z : Option ℕ). Answers q.caller (inserted q z) v.seen w.seen) (value_once (lookup i.its.children (digit 1 q.key)) i.found old i.was mine) i.answers
