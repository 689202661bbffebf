-- A node without children is taken out, or has few of them.
use Rattle.std.proofs.Common.{◌≡◌, ◌≢◌, ℕ, ◌≤◌, List, [], ◌∷◌, length, Option, Some, None, IfSome, refl, sym, ap, ◌∙◌, subst, arith}
use Rattle.node_base.specs.Form.{limit, smaller_form, few_in}
use Rattle.node_base.specs.declared.base_node.NodeType.{NodeType}
use Rattle.node_base.specs.declared.base_node.NodeType.TheVariants.{N4, N16, N48, N256}
use Rattle.spec_node.specs.TableNode.{TableNode, Child}
use Rattle.spec_map.specs.Map.{lookup}
use Rattle.live_nodes.specs.Nodes.{Content}
use Rattle.live_nodes.specs.Seats.{Place, SeatView, IsIn}
use Rattle.live_layout.specs.Encodes.{Encodes, IsBelow, counted, most, with_child}
use Rattle.live_layout.proofs.StandLaws.{encodes-counted}
use Rattle.live_nodes.specs.Levels.{digit, Spot}
use Rattle.live_nodes.specs.Views.{View}
use Rattle.live_reads.specs.Paths.{Keeps}
use Rattle.live_growth.specs.Holds.{HasRest}
use Rattle.live_growth.proofs.Pairs.{change_done, at_result}
use Rattle.live_updates.proofs.Unlinks.{Loses}

abbrev Seen : Type 0
Seen = SeatView View

none_long : (fs : List (ℕ × Child ℕ)) → length fs ≡ 0 → fs ≡ []
none_long [] e = refl
none_long (f ∷ fs) e = absurd (omega (arith, e))

-- a node has no children where none is counted in its words
pub none_counted : (form its : NodeType) (a c : Content) → a ≡ c → form ≡ its → counted (limit form) a ≡ 0 → (n : TableNode ℕ) → Encodes c n → n.form ≡ its → n.children ≡ []
none_counted form its a c same formed none n encodes is =
    none_long n.children (encodes-counted c n encodes ∙ (ap (λ k. counted (limit k) c) (is ∙ sym formed) ∙ (ap (λ z. counted (limit form) z) (sym same) ∙ none)))

-- few children have room in the next smaller form
pub few_fit : (f : NodeType) (c : Content) → f ≢ N4 → counted (limit f) c ≤ few_in f → counted (limit f) c ≤ most (limit (smaller_form f))
few_fit N4 c some few = absurd (some refl)
few_fit N16 c some few = omega (arith, few)
few_fit N48 c some few = omega (arith, few)
few_fit N256 c some few = omega (arith, few)

-- A seat that has nothing to itself, before and after, keeps what it knows.
pub rest_keeps : (v w : Seen) → v.client.own ≡ [] → v.holds ≡ [] → HasRest v w → Keeps v w
rest_keeps v w own holds r = record {
  places = λ p h. subst (λ (ps : List Place). IsIn p ps) (sym r.alike.places) h;
  met = λ a h. subst (λ (l : List Spot). IsIn a l) (sym r.alike.met) h;
  own = r.own ∙ sym own;
  holds = r.holds ∙ sym holds;
  room = r.alike.room;
}

-- A child that is there is taken out.
some_none : {A : Type 0} (w : A) → Some w ≡ None → ⊥
some_none w e = cc

pub loses : (o : Option ℕ) (c c' : Content) → c' ≡ c → (d : Content) (form : NodeType) (p : Spot) → form ≡ p.shape.form → (byte key level : ℕ) → byte ≡ digit level key → p.shape.height ≡ level → (w : ℕ)
    → ((n : TableNode ℕ) → Encodes c n → n.form ≡ p.shape.form → IsBelow (lookup n.children (digit level key)) (Some w)) → (its : TableNode ℕ) → Encodes c its → its.form ≡ p.shape.form
    → ((n : TableNode ℕ) → Encodes c' n → n.form ≡ form → IsBelow (lookup n.children byte) o)
    → IfSome o (λ _. (n : TableNode ℕ) → Encodes c' n → n.form ≡ form → Encodes d (with_child n byte None))
    → Loses p c d key
loses o c c' same d form p form_is byte key level byte_is high w leads its encodes formed was take n encodes_n formed_n =
    let some_child : lookup its.children byte ≢ None = λ none. subst (λ (z : Option (Child ℕ)). IsBelow z (Some w)) (ap (lookup its.children) (sym byte_is) ∙ none) (leads its encodes formed) in
    let done = change_done o c c' same its encodes form (formed ∙ sym form_is) byte some_child was in
    subst (λ (z : ℕ). Encodes d (with_child n z None)) (byte_is ∙ ap (λ (z : ℕ). digit z key) (sym high))
    (at_result o done take n (subst (λ (z : Content). Encodes z n) (sym same) encodes_n) (formed_n ∙ sym form_is))
