-- A node that leads to a new one, by what is known of the writing.
use Rattle.std.proofs.Common.{◌≡◌, ℕ, ◌<◌, ◌≤◌, length, replicate, Option, Some, None, IfNone, sym, ap, ◌∙◌, subst, arith}
use Rattle.node_base.specs.declared.base_node.NodeType.{NodeType}
use Rattle.spec_node.specs.TableNode.{TableNode, Child, MayHave}
use Rattle.spec_node.specs.declared.child.Child.TheVariants.{Node as Below}
use Rattle.spec_map.specs.Map.{lookup}
use Rattle.live_nodes.specs.Nodes.{Content}
use Rattle.live_nodes.specs.Seats.{Place, SeatView, seat_view, IsIn}
use Rattle.live_layout.specs.Encodes.{Encodes, IsWord, with_child}
use Rattle.live_nodes.specs.Levels.{digit, Spot, name_of}
use Rattle.live_nodes.specs.Views.{View, Ask}
use Rattle.live_nodes.proofs.Joins.{Changes}
use Rattle.live_growth.specs.Rooms.{HasRoom}

abbrev Seen : Type 0
Seen = SeatView View

pub when_none : {A : Type 0} {P : Type 0} (o : Option A) → o ≡ None → IfNone o P → P
when_none {A} {P} o none h = subst (λ z. IfNone z P) none h

pub none_under : (c c' : Content) → c' ≡ c → (form f : NodeType) → f ≡ form → (byte b : ℕ) → byte ≡ b → ((n : TableNode ℕ) → Encodes c' n → n.form ≡ form → lookup n.children byte ≡ None) → (n : TableNode ℕ) → Encodes c n → n.form ≡ f → lookup n.children b ≡ None
none_under c c' same form f f_is byte b b_is h n encodes formed = subst (λ (z : ℕ). lookup n.children z ≡ None) b_is (h n (subst (λ (z : Content). Encodes z n) (sym same) encodes) (formed ∙ f_is))

pub link_changes : (q : Ask) (key : ℕ) (c c' : Content) → c' ≡ c → (d : Content) (form : NodeType) (a y : Spot) (byte : ℕ) → byte ≡ digit a.shape.height q.key → form ≡ a.shape.form → (word name : ℕ) → IsWord word (Below name) → name ≡ name_of y.shape → (height : ℕ) → a.shape.height ≡ height → 2 ≤ height
    → ((n : TableNode ℕ) → Encodes c n → n.form ≡ a.shape.form → lookup n.children (digit a.shape.height q.key) ≡ None)
    → ((n : TableNode ℕ) (x : Child ℕ) → Encodes c' n → n.form ≡ form → IsWord word x → MayHave n.prefix x → lookup n.children byte ≡ None → Encodes d (with_child n byte (Some x)))
    → Changes a c d q.key y
link_changes q key c c' same d form a y byte byte_is form_is word name is_word named height high low absent put n encodes formed deep =
    let short : length n.prefix < 7 = omega (arith, deep, high, low) in
    let none = subst (λ (z : ℕ). lookup n.children z ≡ None) (sym byte_is) (absent n encodes formed) in
    subst (λ (z : ℕ × ℕ). Encodes d (with_child n z.0 (Some (Below z.1)))) (λ i. (byte_is i, named i))
    (put n (Below name) (subst (λ (z : Content). Encodes z n) (sym same) encodes) (formed ∙ sym form_is) is_word short none)

-- the room stays while nodes are linked
pub room_after : (v w : Seen) (start left start' left' : ℕ) → w.room ≡ v.room → start ≡ start' → left' ≤ left → HasRoom v start left → HasRoom w start' left'
room_after v w start left start' left' same s l r = record { count = r.count; enough = (let e = r.enough in omega (arith, e, l)); is = same ∙ (r.is ∙ ap (λ (z : ℕ). Rattle.live_nodes.specs.Seats.room_at z (replicate r.count 0)) s) }
