-- Two nodes are held: one, and the node above it.
use Rattle.std.proofs.Common.{◌≡◌, ◌≢◌, ℕ, ◌+◌, ◌<◌, ◌≤◌, Bool, true, false, cond, nat_eq, List, [], ◌∷◌, length, Option, Some, None, IfSome, refl, sym, ap, ◌∙◌, subst, arith, eq-eqb, ne_eqb}
use Rattle.node_base.specs.declared.base_node.NodeType.{NodeType}
use Rattle.node_base.specs.declared.base_node.NodeType.TheVariants.{N4, N16, N48, N256}
use Rattle.node_base.specs.Form.{limit, next_form}
use Rattle.spec_node.specs.TableNode.{TableNode, Child, MayHave}
use Rattle.spec_node.specs.declared.child.Child.TheVariants.{Node as Below}
use Rattle.spec_map.specs.Map.{lookup}
use Rattle.live_nodes.proofs.Joins.{Changes}
use Rattle.live_growth.proofs.Values.{none_below}
use Rattle.spec_map.proofs.ByteMapLaws.{length-from_Rises}
use Rattle.live_growth.specs.Holds.{HasLocked, HoldsOne}
use Rattle.live_reads.specs.Paths.{AreNamed}
use Rattle.word_book.specs.Book.{Book, Name, writes, none_joined}
use Rattle.live_nodes.specs.Nodes.{Content}
use Rattle.live_nodes.specs.Seats.{Place, Hold, hold, SeatView, seat_view, IsIn, Each, with_draft, without}
use Rattle.live_nodes.specs.Acts as acts
use Rattle.live_nodes.specs.Plays as plays
use Rattle.live_nodes.specs.Plays.{hold_of}
use Rattle.live_nodes.specs.Calls.{MayFree}
use Rattle.live_nodes.specs.Rows.{AreOf, nth, draft_of, undrafted, MayHold, without_draft}
use Rattle.live_layout.specs.Encodes.{words_of, HasChildren, counted, most, IsCounted, Encodes, IsBelow, IsWord, with_child}
use Rattle.live_nodes.specs.Levels.{digit, Spot, name_of, place_at}
use Rattle.live_nodes.specs.Views.{View, Ask}
use Rattle.live_nodes.specs.Tree.{IsMap, IsApart}
use Rattle.live_growth.proofs.Locks.{hold_head}

abbrev Seen : Type 0
Seen = SeatView View

pub record Pair (v : Seen) (b : Book) (words_x words_p : List Name) (free_x free_p : ℕ) (x : Spot) (p : Place) (dx dp : Content) : Type 0 where
  pub holds : v.holds ≡ hold x.number (free_x + 2) dx ∷ hold p.number (free_p + 2) dp ∷ []
  pub apart : p.number ≢ x.number
  pub placed_x : IsIn (place_at x) v.places
  pub placed_p : IsIn (p) v.places
  pub are_x : AreOf (place_at x) b words_x
  pub are_p : AreOf (p) b words_p

hold_number : List Hold → ℕ
hold_number [] = 0
hold_number (h ∷ hs) = h.number

hold_word : List Hold → ℕ
hold_word [] = 0
hold_word (h ∷ hs) = h.word

rest_holds : List Hold → List Hold
rest_holds [] = []
rest_holds (h ∷ hs) = hs

first_hold : List Hold → Hold
first_hold [] = hold 0 0 []
first_hold (h ∷ hs) = h

no_holds : (h : Hold) (hs : List Hold) → [] ≡ h ∷ hs → ⊥
no_holds h hs e = cc

none_drafted : (k : ℕ) (hs : List Hold) → with_draft k [] hs ≡ [] → hs ≡ []
none_drafted k [] e = refl
none_drafted k (h ∷ hs) e = absurd (no_holds (cond (nat_eq k h.number) (hold k h.word []) h) (with_draft k [] hs) (sym e))

same_number : (t : Bool) (k : ℕ) (x : Hold) → (t ≡ true → k ≡ x.number) → (cond t (hold k x.word []) x).number ≡ x.number
same_number true k x e = e refl
same_number false k x e = refl

two_drafted : (xs : List Hold) (kx mx kp mp : ℕ) (dx : Content) → kp ≢ kx → undrafted (nth 1 xs) xs ≡ hold kx mx dx ∷ hold kp mp [] ∷ [] → xs ≡ hold kx mx dx ∷ hold kp mp (draft_of (nth 1 xs)) ∷ []
unfolding hold_number hold_word rest_holds first_hold
two_drafted [] kx mx kp mp dx ne e = absurd (no_holds (hold kx mx dx) (hold kp mp [] ∷ []) e)
two_drafted (x ∷ []) kx mx kp mp dx ne e = absurd (no_holds (hold kp mp []) [] (ap rest_holds e))
two_drafted (x ∷ y ∷ zs) kx mx kp mp dx ne e =
    let second : hold y.number y.word [] ∷ with_draft y.number [] zs ≡ hold kp mp [] ∷ [] =
    sym (ap (λ (t : Bool). cond t (hold y.number y.word []) y ∷ with_draft y.number [] zs) (eq-eqb y.number y.number refl)) ∙ ap rest_holds e in
    let y_is : y.number ≡ kp = ap hold_number second in
    let first : cond (nat_eq y.number x.number) (hold y.number x.word []) x ≡ hold kx mx dx = ap first_hold e in
    let differ : y.number ≢ x.number = λ s. ne (sym y_is ∙ (sym (ap (λ (t : Bool). (cond t (hold y.number x.word []) x).number) (eq-eqb y.number x.number s)) ∙ ap (λ (h : Hold). h.number) first)) in
    let x_is : x ≡ hold kx mx dx = sym (ap (λ (t : Bool). cond t (hold y.number x.word []) x) (ne_eqb y.number x.number differ)) ∙ first in
    let none : zs ≡ [] = none_drafted y.number zs (ap rest_holds second) in
    (λ i. x_is i ∷ hold (y_is i) (ap hold_word second i) y.draft ∷ none i)

module _ (v : Seen) (b : Book) (words_x words_p : List Name) (free_x free_p : ℕ) (x : Spot) (p : Place) (dx dp : Content) (h : Pair v b words_x words_p free_x free_p x p dx dp) where
  hold_p : hold_of p.number v.holds ≡ Some (hold p.number (free_p + 2) dp)
  hold_p = ap (hold_of p.number) h.holds ∙ (ap (λ (t : Bool). cond t (Some (hold x.number (free_x + 2) dx)) (hold_of p.number (hold p.number (free_p + 2) dp ∷ []))) (ne_eqb p.number x.number h.apart) ∙ hold_head p.number (free_p + 2) dp [])

  pub pair_first : length dx ≡ words_of x.shape.form → MayHold 0 words_x b v
  pair_first long = (place_at x, hold x.number (free_x + 2) dx, h.placed_x, h.are_x, ap (nth 0) h.holds, ap (hold_of x.number) h.holds ∙ hold_head x.number (free_x + 2) dx (hold p.number (free_p + 2) dp ∷ []), long)

  pub pair_second : length dp ≡ p.len → MayHold 1 words_p b v
  pair_second long = (p, hold p.number (free_p + 2) dp, h.placed_p, h.are_p, ap (nth 1) h.holds, hold_p, long)

  pub first_draft : draft_of (nth 0 v.holds) ≡ dx
  first_draft = ap (λ (hs : List Hold). draft_of (nth 0 hs)) h.holds

  pub second_draft : draft_of (nth 1 v.holds) ≡ dp
  second_draft = ap (λ (hs : List Hold). draft_of (nth 1 hs)) h.holds

  pub pair_wrote : (w : Seen) (b' : Book) → b' ≡ b → without_draft 1 w ≡ without_draft 1 v → Pair w b' words_x words_p free_x free_p x p dx (draft_of (nth 1 w.holds))
  pair_wrote w b' same e =
      let before : undrafted (nth 1 v.holds) v.holds ≡ hold x.number (free_x + 2) dx ∷ hold p.number (free_p + 2) [] ∷ [] =
      ap (λ (hs : List Hold). undrafted (nth 1 hs) hs) h.holds
      ∙ (ap (λ (t : Bool). cond t (hold p.number (free_x + 2) []) (hold x.number (free_x + 2) dx) ∷ cond (nat_eq p.number p.number) (hold p.number (free_p + 2) []) (hold p.number (free_p + 2) dp) ∷ []) (ne_eqb p.number x.number h.apart)
      ∙ ap (λ (t : Bool). hold x.number (free_x + 2) dx ∷ cond t (hold p.number (free_p + 2) []) (hold p.number (free_p + 2) dp) ∷ []) (eq-eqb p.number p.number refl)) in
      record {
        holds = two_drafted w.holds x.number (free_x + 2) p.number (free_p + 2) dx h.apart (ap (λ (z : Seen). z.holds) e ∙ before);
        apart = h.apart;
        placed_x = subst (λ (ps : List Place). IsIn (place_at x) ps) (sym (ap (λ (z : Seen). z.places) e)) h.placed_x;
        placed_p = subst (λ (ps : List Place). IsIn p ps) (sym (ap (λ (z : Seen). z.places) e)) h.placed_p;
        are_x = subst (λ (z : Book). AreOf (place_at x) z words_x) (sym same) h.are_x;
        are_p = subst (λ (z : Book). AreOf p z words_p) (sym same) h.are_p;
      }

  module _ (k : ℕ) (at_k : p.key ≡ k) (told : View → ℕ → Content → View → Type 0) where
    pub pair_frees : (id n : ℕ) → acts.Frees IsMap id v.client p.number n dp (told v.client p.number dp) → MayFree v k IsMap id told (free_p + 2) n
    pair_frees id n frees = (p, hold p.number (free_p + 2) dp, (h.placed_p, at_k), hold_p, refl, frees)

    pub pair_freed : (w : Seen) (n : ℕ) → plays.Frees told (writes k n) v n none_joined w → (e : View) × (w ≡ seat_view e v.places v.reads (hold x.number (free_x + 2) dx ∷ []) v.room) × told v.client p.number dp e
    pair_freed w n t =
        let s = t p (hold p.number (free_p + 2) dp) h.placed_p at_k hold_p in
        let left : without p.number v.holds ≡ hold x.number (free_x + 2) dx ∷ [] = ap (without p.number) h.holds
        ∙ (ap (λ (z : Bool). cond z (without p.number (hold p.number (free_p + 2) dp ∷ [])) (hold x.number (free_x + 2) dx ∷ without p.number (hold p.number (free_p + 2) dp ∷ []))) (ne_eqb p.number x.number h.apart)
        ∙ ap (λ (z : Bool). hold x.number (free_x + 2) dx ∷ cond z [] (hold p.number (free_p + 2) dp ∷ [])) (eq-eqb p.number p.number refl)) in
        (s.0, s.1 ∙ ap (λ (hs : List Hold). seat_view s.0 v.places v.reads hs v.room) left, s.2)

-- a node was locked while the one above it was held
pub pair_locked : (v w : Seen) (b b' : Book) (words_x words_p : List Name) (free_x free_p name key height : ℕ) (h : HasLocked v w name key height free_x) (p : Spot) (c : Content) → b' ≡ b → HoldsOne v b words_p free_p p c c → AreNamed b' name words_x → Pair w b' words_x words_p free_x free_p h.names.spot (place_at p) h.content c
pair_locked v w b b' words_x words_p free_x free_p name key height h p c same one are = record {
  holds = h.holds ∙ ap (λ (hs : List Hold). hold h.names.spot.number (free_x + 2) h.content ∷ hs) one.holds;
  apart = (subst (Each (IsApart h.names.spot.number)) one.own h.apart).0;
  placed_x = subst (λ (ps : List Place). IsIn (place_at h.names.spot) ps) (sym h.alike.places) h.names.placed;
  placed_p = subst (λ (ps : List Place). IsIn (place_at p) ps) (sym h.alike.places) one.placed;
  are_x = are h.names.spot h.names.named;
  are_p = subst (λ (z : Book). AreOf (place_at p) z words_p) (sym same) one.are;
}

counted_few : (o : Option ℕ) (c : List ℕ) (es : List (ℕ × ℕ)) → HasChildren o c es → counted o c ≤ most o
counted_few None c es h = let l = length-from_Rises 0 256 es (omega arith) h.ordered in let n = h.counted in omega (arith, l, n)
counted_few (Some room) c es h = h.few

pub few_counted : (form : NodeType) (c : Content) (n : TableNode ℕ) → Encodes c n → n.form ≡ form → IsCounted form c
few_counted form c n e formed = subst (λ (f : NodeType). IsCounted f c) formed (counted_few (limit n.form) c e.words e.children)

pub small_next : (f : NodeType) → words_of (next_form f) ≤ 262
small_next N4 = omega arith
small_next N16 = omega arith
small_next N48 = omega arith
small_next N256 = omega arith

-- a child that is there is changed
none_not : {A : Type 0} {w : A} → Some w ≡ None → ⊥
none_not e = cc

pub change_done : (o : Option ℕ) (c c' : Content) → c' ≡ c → (n : TableNode ℕ) → Encodes c n → (form : NodeType) → n.form ≡ form → (byte : ℕ) → lookup n.children byte ≢ None → ((k : TableNode ℕ) → Encodes c' k → k.form ≡ form → IsBelow (lookup k.children byte) o) → o ≢ None
change_done o c c' same n encodes form formed byte there was none = there (none_below (lookup n.children byte) o (was n (subst (λ (z : Content). Encodes z n) (sym same) encodes) formed) none)

pub at_result : {P : Type 0} (o : Option ℕ) → o ≢ None → IfSome o (λ _. P) → P
at_result None ne h = absurd (ne refl)
at_result (Some w) ne h = h

pub grown_changes : (q : Ask) (c c' : Content) → c' ≡ c → (d : Content) (form : NodeType) (a y : Spot) (byte : ℕ) → byte ≡ digit a.shape.height q.key → form ≡ a.shape.form → (word name : ℕ) → IsWord word (Below name) → name ≡ name_of y.shape → (height : ℕ) → a.shape.height ≡ height → 2 ≤ height
    → ((n : TableNode ℕ) (x : Child ℕ) → Encodes c' n → n.form ≡ form → IsWord word x → MayHave n.prefix x → Encodes d (with_child n byte (Some x)))
    → Changes a c d q.key y
grown_changes q c c' same d form a y byte byte_is form_is word name is_word named height high low put n encodes formed deep =
    let short : length n.prefix < 7 = omega (arith, deep, high, low) in
    subst (λ (z : ℕ × ℕ). Encodes d (with_child n z.0 (Some (Below z.1)))) (λ i. (byte_is i, named i))
    (put n (Below name) (subst (λ (z : Content). Encodes z n) (sym same) encodes) (formed ∙ sym form_is) is_word short)
