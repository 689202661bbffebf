-- Nodes are locked, those below before those above.
use Rattle.std.proofs.Common.{◌≡◌, ℕ, zero, suc, ◌+◌, ◌<◌, ◌≤◌, List, [], ◌++◌, length, slice_index, slice_set, sym, ap, ◌∙◌, subst, arith, append_assoc}
use Rattle.node_base.specs.declared.base_node.NodeType.{NodeType}
use Rattle.spec_map.specs.Map.{Pairs}
use Rattle.word_book.specs.Book.{Book, Name}
use Rattle.live_nodes.specs.Nodes.{Content}
use Rattle.live_nodes.specs.Seats.{SeatView, IsIn}
use Rattle.live_layout.specs.Encodes.{Encodes}
use Rattle.live_nodes.specs.Levels.{up, digit, place_at}
use Rattle.live_nodes.specs.Views.{View, Own, locked}
use Rattle.live_reads.specs.Paths.{Names, Keeps}
use Rattle.live_copies.specs.declared.children.Child.{Child}
use Rattle.live_copies.specs.declared.locks.Lock.{Lock}
use Rattle.live_copies.specs.inner.Noted.{HasNoted, HasNamed}
use Rattle.live_copies.specs.inner.Children.{IsChild}
use Rattle.live_copies.specs.inner.Locks.{HasLocks, Grows, HasTaken, place_above, HasTold}
use Rattle.live_copies.proofs.Told.{noted_first, noted_as, noted_on, noted_child, inner_pairs}
use Rattle.live_copies.proofs.Leaves.{taken_own}
use Rattle.live_copies.proofs.Locking.{locks_kept}

abbrev Seen : Type 0
Seen = SeatView View

-- THE NODE that was locked last
module _ (w : Seen) (b : Book) (name key height : ℕ) (words : List Name) (t : HasTaken w b name key height words) where
  -- has the children that were noted.
  pub taken_told : 2 ≤ height → (own : List Own) → ((o : Own) → IsIn o own → IsIn o w.client.own) → (table : List ℕ) (m : Pairs ℕ) (c : Content) (form : NodeType) → c ≡ t.content → form ≡ t.spot.shape.form → ((i : ℕ) → i < 256 → HasNamed c form i (slice_index table i)) → HasNoted own (place_above key height) 256 table m → HasTold w name key height m
  taken_told tall own more table m c form c_is form_is named n =
      let top : up height key ≡ t.spot.shape.top = ap (λ (z : ℕ). up z key) (sym t.high) ∙ t.covers in
      let held : IsIn (locked t.spot t.content) w.client.own = taken_own w b name key height words t in record {
        its = t.spot;
        named = t.named;
        high = t.high;
        covers = t.covers;
        has = inner_pairs own w.client.own more t.spot t.content table m (noted_as own (place_above key height) t.spot 256 table m (sym t.high) top n) held
            (λ x is i l. named i l x (subst (λ (z : Content). Encodes z x) (sym c_is) is.encodes) (is.in_form ∙ sym form_is) (let deep = is.deep in let high = t.high in omega (arith, deep, high, tall)));
      }

-- ONE MORE CHILD was noted
pub noted_start : (own : List Own) (key height : ℕ) (table : List ℕ) → 1 ≤ height → length table ≡ 256 → ((i : ℕ) → i < 256 → slice_index table i ≡ 0) → HasNoted own (place_above key height) 0 table []
noted_start own key height table tall long empty = noted_first own (place_above key height) table tall long empty

pub noted_end : (own : List Own) (key height from : ℕ) (table : List ℕ) (m : Pairs ℕ) → from ≤ 256 → HasNoted own (place_above key height) from table m → HasNoted own (place_above key height) 256 table m
noted_end own key height from table m low n = noted_on own own (λ o i. i) (place_above key height) from low table m n 256 low (omega arith)

pub noted_then : (own : List Own) (v w : Seen) → ((o : Own) → IsIn o own → IsIn o w.client.own) → (key height from : ℕ) (table : List ℕ) (m s : Pairs ℕ) (c : Child) → IsChild v key height c → from ≤ c.byte → c.byte < 256 → HasNoted own (place_above key height) from table m → HasTold w c.name c.key c.height s → HasNoted w.client.own (place_above key height) (c.byte + 1) (slice_set table c.byte c.name) (m ++ s)
noted_then own v w more key height from table m s c child low few n t =
    let a = place_above key height in
    let on : HasNoted own a c.byte table m = noted_on own own (λ o i. i) a from (omega (arith, low, few)) table m n c.byte low (omega (arith, few)) in
    let lower = child.lower in
    let high = t.high in
    subst (λ (z : ℕ). HasNoted w.client.own a (c.byte + 1) (slice_set table c.byte z) (m ++ s)) (sym t.named)
    (noted_child own w.client.own more a c.byte (omega (arith, few)) table m on few t.its s t.has c.key (omega (arith, lower, high)) child.upper child.byte t.covers (subst (λ (z : ℕ). 1 ≤ z) t.named child.named))

-- WHAT WAS COPIED so far
pub copied_then : (old old' new m s : Pairs ℕ) → old' ≡ old ++ m → new ≡ old' ++ s → new ≡ old ++ (m ++ s)
copied_then old old' new m s first then = then ∙ (ap (λ (z : Pairs ℕ). z ++ s) first ∙ append_assoc old m s)

-- THE PATH goes on
pub names_grown : (v w : Seen) (name key height : ℕ) → Grows v w → Names v name key height → Names w name key height
names_grown v w name key height g n = record {
  spot = n.spot;
  met = g.knows.met n.spot n.met;
  placed = g.knows.places (place_at n.spot) n.placed;
  named = n.named;
  high = n.high;
  covers = n.covers;
}

pub locks_keep : (v w : Seen) (b b' : Book) (ls : List Lock) → Keeps v w → b' ≡ b → HasLocks v b ls → HasLocks w b' ls
locks_keep v w b b' ls k same h = locks_kept v w b b' ls k.places k.own k.holds same h

pub digit_low : (h k : ℕ) → digit h k < 256
digit_low zero k = omega arith
digit_low (suc h) k = omega arith
