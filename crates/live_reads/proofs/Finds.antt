-- What look-ups have found.
use Rattle.std.proofs.Common.{◌≡◌, ℕ, ◌≤◌, zero, suc, Bool, true, false, List, Option, Some, None, ap, ◌∙◌, subst, arith, IfSome, sym}
use Rattle.spec_node.specs.declared.child.Child.TheVariants.{Node as Below}
use Rattle.share_rule.specs.History.{Entry}
use Rattle.live_nodes.specs.Seats.{SeatView}
use Rattle.live_layout.specs.Encodes.{IsWord}
use Rattle.live_nodes.specs.Levels.{place_at}
use Rattle.live_nodes.specs.Views.{View, Ask, ask, got, inserted}
use Rattle.live_nodes.specs.Tree.{Answers}
use Rattle.live_reads.specs.Paths.{Names, Sights, Keeps, Ended, Looked, Found}

abbrev Seen : Type 0
Seen = SeatView View

pub keeps_then : (u v w : Seen) → Keeps u v → Keeps v w → Keeps u w
keeps_then u v w a b = record {
  places = λ p h. b.places p (a.places p h);
  met = λ s h. b.met s (a.met s h);
  own = b.own ∙ a.own;
  holds = b.holds ∙ a.holds;
  room = b.room ∙ a.room;
}

pub seen_more : (q : Ask) (o : Option (Option ℕ)) (u v w : Seen) → v.client.seen ≡ u.client.seen → Found q o v w → Found q o u w
seen_more q None u v w e f = f ∙ e
seen_more q (Some found) u v w e f = subst (λ (z : List (Entry ℕ)). Answers q.caller (got q found) z w.client.seen) e f

pub looked_none : (look : Bool) (q : Ask) (h : ℕ) (o : Option (Option ℕ)) (v w : Seen) → Looked look q h o v w → o ≡ None → w.client ≡ v.client
looked_none look q h None v w l e = l
looked_none look q h (Some x) v w l e = absurd (some_none e)
  where
    some_none : {A : Type 0} {x : A} → Some x ≡ None → ⊥
    some_none e = cc

pub looked_end : (look : Bool) (q : Ask) (h : ℕ) (o : Option (Option ℕ)) (v w : Seen) → look ≡ true → Looked look q h o v w → o ≡ Some None → Found q (Some None) v w
looked_end look q h o v w is l e = subst (λ (t : Bool × Option (Option ℕ)). Looked t.0 q h t.1 v w) (λ i. (is i, e i)) l

pub looked_below : (look : Bool) (q : Ask) (h : ℕ) (o : Option (Option ℕ)) (x : ℕ) (v w : Seen) → 2 ≤ h → Looked look q h o v w → o ≡ Some (Some x) → (w.client.seen ≡ v.client.seen) × ((name : ℕ) × IsWord x (Below name) × Sights w name)
looked_below look q zero o x v w high l e = absurd (omega (arith, high))
looked_below look q (suc zero) o x v w high l e = absurd (omega (arith, high))
looked_below look q (suc (suc h)) o x v w high l e = subst (λ (z : Option (Option ℕ)). Looked look q (suc (suc h)) z v w) e l

pub looked_leaf : (look : Bool) (q : Ask) (o : Option (Option ℕ)) (v w : Seen) → look ≡ true → Looked look q 1 o v w → Found q o v w
looked_leaf look q None v w is l = ap (λ (z : View). z.seen) l
looked_leaf look q (Some None) v w is l = subst (λ (t : Bool). Looked t q 1 (Some None) v w) is l
looked_leaf look q (Some (Some x)) v w is l = subst (λ (t : Bool). Looked t q 1 (Some (Some x)) v w) is l

pub looked_empty : (q : Ask) (h : ℕ) (o : Option (Option ℕ)) (v w : Seen) → Looked false q h o v w → o ≡ Some None → w.client.seen ≡ v.client.seen
looked_empty q h o v w l e = subst (λ (z : Option (Option ℕ)). Looked false q h z v w) e l

pub when_out : {A : Type 0} (P : A → Type 0) (o : Option A) → o ≡ None → IfSome o P
when_out {A} P o e = subst (λ (z : Option A). IfSome z P) (sym e) tt

abbrev pub names_kept : (v w : Seen) (name key height : ℕ) → Keeps v w → Names v name key height → Names w name key height
names_kept v w name key height k n = record {
  spot = n.spot;
  met = k.met n.spot n.met;
  placed = k.places (place_at n.spot) n.placed;
  named = n.named;
  high = n.high;
  covers = n.covers;
}

pub found_none : (q : Ask) (o : Option (Option ℕ)) (v w : Seen) → Found q o v w → o ≡ None → w.client.seen ≡ v.client.seen
found_none q o v w f e = subst (λ (z : Option (Option ℕ)). Found q z v w) e f

-- the same answer, by another name of the caller
pub answers_by : (c d key : ℕ) (found : Option ℕ) (v w : Seen) → c ≡ d → Answers c (got (ask c key 0 0) found) v.client.seen w.client.seen → Answers d (got (ask d key 0 0) found) v.client.seen w.client.seen
answers_by c d key found v w e a = subst (λ (z : ℕ). Answers z (got (ask z key 0 0) found) v.client.seen w.client.seen) e a

pub inserted_by : (c d key value : ℕ) (found : Option ℕ) (v w : Seen) → c ≡ d → Answers c (inserted (ask c key value 1) found) v.client.seen w.client.seen → Answers d (inserted (ask d key value 1) found) v.client.seen w.client.seen
inserted_by c d key value found v w e a = subst (λ (z : ℕ). Answers z (inserted (ask z key value 1) found) v.client.seen w.client.seen) e a

-- a look-up that ends at a node
pub ended_none : (look : Bool) (q : Ask) (v w : Seen) → look ≡ true → Ended look q None v w → Found q (Some None) v w
ended_none look q v w is e = subst (λ (b : Bool). Ended b q None v w) is e

-- the same, from a seat that had seen as much
ended_from : (look : Bool) (q : Ask) (u v w : Seen) → v.client.seen ≡ u.client.seen → Ended look q None v w → Ended look q None u w
ended_from true q u v w e f = subst (λ (z : List (Entry ℕ)). Answers q.caller (got q None) z w.client.seen) e f
ended_from false q u v w e f = f ∙ e
