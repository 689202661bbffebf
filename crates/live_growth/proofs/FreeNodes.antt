-- The nodes that a seat may use again, where one is put or taken.
use Rattle.std.proofs.Common.{◌≡◌, ℕ, ◌≤◌, refl, sym, subst, arith}
use Rattle.node_base.specs.Form.{form_place}
use Rattle.node_base.specs.declared.base_node.NodeType.{NodeType}
use Rattle.node_base.specs.declared.base_node.NodeType.TheVariants.{N4, N16, N48, N256}
use Rattle.live_nodes.specs.Seats.{SeatView}
use Rattle.live_nodes.specs.Views.{View}
use Rattle.live_reads.specs.Paths.{Sights}
use Rattle.live_growth.specs.FreeNodes.{IsSpare, slot_of, with_slot, HasFreeNodes}
use Rattle.live_growth.specs.declared.free_nodes.FreeNodes.{FreeNodes}

pub slot_put : (s : FreeNodes) (form : NodeType) (n : ℕ) → slot_of (with_slot s form n) form ≡ n
slot_put s N4 n = refl
slot_put s N16 n = refl
slot_put s N48 n = refl
slot_put s N256 n = refl

forms_put : (v : SeatView View) (s : FreeNodes) (form : NodeType) (n : ℕ) → ((f : NodeType) → 1 ≤ slot_of s f → IsSpare v f (slot_of s f)) → (1 ≤ n → IsSpare v form n)
    → (f : NodeType) → 1 ≤ slot_of (with_slot s form n) f → IsSpare v f (slot_of (with_slot s form n) f)
forms_put v s N4 n h i N4 = i
forms_put v s N4 n h i N16 = h N16
forms_put v s N4 n h i N48 = h N48
forms_put v s N4 n h i N256 = h N256
forms_put v s N16 n h i N4 = h N4
forms_put v s N16 n h i N16 = i
forms_put v s N16 n h i N48 = h N48
forms_put v s N16 n h i N256 = h N256
forms_put v s N48 n h i N4 = h N4
forms_put v s N48 n h i N16 = h N16
forms_put v s N48 n h i N48 = i
forms_put v s N48 n h i N256 = h N256
forms_put v s N256 n h i N4 = h N4
forms_put v s N256 n h i N16 = h N16
forms_put v s N256 n h i N48 = h N48
forms_put v s N256 n h i N256 = i

second_stays : (s : FreeNodes) (form : NodeType) (n : ℕ) → (with_slot s form n).second ≡ s.second
second_stays s N4 n = refl
second_stays s N16 n = refl
second_stays s N48 n = refl
second_stays s N256 n = refl

more_stays : (s : FreeNodes) (form : NodeType) (n : ℕ) → (with_slot s form n).more ≡ s.more
more_stays s N4 n = refl
more_stays s N16 n = refl
more_stays s N48 n = refl
more_stays s N256 n = refl

pub free_nodes_put : (v : SeatView View) (s : FreeNodes) (form : NodeType) (n : ℕ) → HasFreeNodes v s → (1 ≤ n → IsSpare v form n) → HasFreeNodes v (with_slot s form n)
free_nodes_put v s form n h i = (forms_put v s form n h.0 i, subst (λ (x : ℕ). 1 ≤ x → IsSpare v N4 x) (sym (second_stays s form n)) h.1, subst (λ (x : ℕ). 1 ≤ x → Sights v x) (sym (more_stays s form n)) h.2)

forms_second : (v : SeatView View) (s : FreeNodes) (n : ℕ) → ((f : NodeType) → 1 ≤ slot_of s f → IsSpare v f (slot_of s f)) → (f : NodeType) → 1 ≤ slot_of (record s { second = n }) f → IsSpare v f (slot_of (record s { second = n }) f)
forms_second v s n h N4 = h N4
forms_second v s n h N16 = h N16
forms_second v s n h N48 = h N48
forms_second v s n h N256 = h N256

pub free_nodes_second : (v : SeatView View) (s : FreeNodes) (n : ℕ) → HasFreeNodes v s → (1 ≤ n → IsSpare v N4 n) → HasFreeNodes v (record s { second = n })
free_nodes_second v s n h i = (forms_second v s n h.0, i, h.2)

forms_more : (v : SeatView View) (s : FreeNodes) (n : ℕ) → ((f : NodeType) → 1 ≤ slot_of s f → IsSpare v f (slot_of s f)) → (f : NodeType) → 1 ≤ slot_of (record s { more = n }) f → IsSpare v f (slot_of (record s { more = n }) f)
forms_more v s n h N4 = h N4
forms_more v s n h N16 = h N16
forms_more v s n h N48 = h N48
forms_more v s n h N256 = h N256

pub free_nodes_more : (v : SeatView View) (s : FreeNodes) (n : ℕ) → HasFreeNodes v s → (1 ≤ n → Sights v n) → HasFreeNodes v (record s { more = n })
free_nodes_more v s n h i = (forms_more v s n h.0, h.1, i)

pub free_nodes_none : (v : SeatView View) (s : FreeNodes) → ((form : NodeType) → slot_of s form ≡ 0) → s.second ≡ 0 → s.more ≡ 0 → HasFreeNodes v s
free_nodes_none v s none none_second none_more = ((λ form some. absurd (let e = none form in omega (arith, e, some))), (λ some. absurd (omega (arith, none_second, some))), (λ some. absurd (omega (arith, none_more, some))))

-- where each name that is kept was kept before
pub free_nodes_fewer : (v : SeatView View) (s t : FreeNodes) → ((form : NodeType) → 1 ≤ slot_of t form → slot_of t form ≡ slot_of s form) → (1 ≤ t.second → t.second ≡ s.second) → (1 ≤ t.more → t.more ≡ s.more) → HasFreeNodes v s → HasFreeNodes v t
free_nodes_fewer v s t f second more h = (
  (λ form some. subst (IsSpare v form) (sym (f form some)) (h.0 form (subst (λ (x : ℕ). 1 ≤ x) (f form some) some))),
  (λ some. subst (IsSpare v N4) (sym (second some)) (h.1 (subst (λ (x : ℕ). 1 ≤ x) (second some) some))),
  (λ some. subst (Sights v) (sym (more some)) (h.2 (subst (λ (x : ℕ). 1 ≤ x) (more some) some))),
)

pub one_form : (f g : NodeType) → form_place f ≡ form_place g → f ≡ g
one_form N4 N4 e = refl
one_form N4 N16 e = absurd (omega (arith, e))
one_form N4 N48 e = absurd (omega (arith, e))
one_form N4 N256 e = absurd (omega (arith, e))
one_form N16 N4 e = absurd (omega (arith, e))
one_form N16 N16 e = refl
one_form N16 N48 e = absurd (omega (arith, e))
one_form N16 N256 e = absurd (omega (arith, e))
one_form N48 N4 e = absurd (omega (arith, e))
one_form N48 N16 e = absurd (omega (arith, e))
one_form N48 N48 e = refl
one_form N48 N256 e = absurd (omega (arith, e))
one_form N256 N4 e = absurd (omega (arith, e))
one_form N256 N16 e = absurd (omega (arith, e))
one_form N256 N48 e = absurd (omega (arith, e))
one_form N256 N256 e = refl
