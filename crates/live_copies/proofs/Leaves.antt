-- The leaf that was locked last, and its pairs.
use Rattle.std.proofs.Common.{◌≡◌, ℕ, ◌+◌, ◌-◌, ◌*◌, ◌/◌, ◌%◌, ◌<◌, ◌^◌, List, ◌++◌, length, take, drop, Some, refl, sym, ap, ◌∙◌, subst, inl, arith}
use Rattle.std.proofs.lemmas.List.{map-id}
use Rattle.spec_node.specs.TableNode.{TableNode}
use Rattle.spec_map.specs.Map.{Pairs, Rises}
use Rattle.word_book.specs.Book.{Book, Name}
use Rattle.live_nodes.specs.Seats.{Hold, hold, SeatView, IsIn}
use Rattle.live_nodes.specs.Plays.{hold_of}
use Rattle.live_nodes.specs.Rows.{nth, draft_of, MayHold}
use Rattle.live_layout.specs.Encodes.{Encodes}
use Rattle.live_layout.specs.Page.{AreListed, pairs_of}
use Rattle.live_nodes.specs.Levels.{up, Shape, place_at}
use Rattle.live_nodes.specs.Views.{View, Own, locked}
use Rattle.live_growth.proofs.Locks.{hold_head}
use Rattle.live_copies.specs.inner.Told.{IsContent, first_of, end_of, HasPairs}
use Rattle.live_copies.specs.inner.Locks.{HasTaken, Takes}
use Rattle.live_copies.proofs.Told.{leaf_pairs}

abbrev Seen : Type 0
Seen = SeatView View

module _ (w : Seen) (b : Book) (name key height : ℕ) (words : List Name) (t : HasTaken w b name key height words) where
  its_hold : hold_of t.spot.number w.holds ≡ Some (hold t.spot.number (t.free + 2) t.content)
  its_hold = ap (hold_of t.spot.number) t.holds ∙ hold_head t.spot.number (t.free + 2) t.content t.holds_before

  pub taken_holds : MayHold 0 words b w
  taken_holds = (place_at t.spot, hold t.spot.number (t.free + 2) t.content, t.placed, t.are, ap (nth 0) t.holds, its_hold, t.long)

  pub taken_draft : draft_of (nth 0 w.holds) ≡ t.content
  taken_draft = ap (λ (hs : List Hold). draft_of (nth 0 hs)) t.holds

  pub taken_own : IsIn (locked t.spot t.content) w.client.own
  taken_own = subst (λ (os : List Own). IsIn (locked t.spot t.content) os) (sym t.own) (inl refl)

pub leaf_base : (key : ℕ) → key < 2 ^ 64 → key - key % 256 + 255 < 2 ^ 64
leaf_base key l = let all : 2 ^ 64 ≡ 256 * 2 ^ 56 = refl in omega (arith, l, all)

module _ (w : Seen) (b : Book) (name key : ℕ) (words : List Name) (t : HasTaken w b name key 1 words) (count : ℕ) (buffer : Pairs ℕ)
    (is : (n : TableNode ℕ) → Encodes t.content n → n.form ≡ t.spot.shape.form → length n.prefix ≡ 7 → AreListed n (key - key % 256) 0 256 (drop 0 (take count (pairs_of (λ p. p) buffer)))) where
  a : Shape
  a = t.spot.shape

  base_is : key - key % 256 ≡ 256 * t.spot.shape.top
  base_is = let top : key / 256 ≡ t.spot.shape.top = ap (λ (z : ℕ). up z key) (sym t.high) ∙ t.covers in omega (arith, top)

  listed : (n : TableNode ℕ) → IsContent t.content t.spot n → AreListed n (256 * t.spot.shape.top) 0 256 (take count buffer)
  listed n c =
      let deep = c.deep in
      let high = t.high in
      subst (λ (z : ℕ × Pairs ℕ). AreListed n z.0 0 256 (drop 0 (take count z.1))) (λ i. (base_is i, map-id buffer i)) (is n c.encodes c.in_form (omega (arith, deep, high)))

  its_pairs : HasPairs w.client.own t.spot (take count buffer)
  its_pairs =
      let one : 256 ^ t.spot.shape.height ≡ 256 = ap (λ (z : ℕ). 256 ^ z) t.high in
      let top : ℕ = t.spot.shape.top in
      let low : 256 * top + 0 ≡ first_of t.spot.shape = (let e : 256 * top + 0 ≡ top * 256 = omega arith in e) ∙ ap (λ (z : ℕ). top * z) (sym one) in
      let high : 256 * top + 256 ≡ end_of t.spot.shape = (let e : 256 * top + 256 ≡ (top + 1) * 256 = omega arith in e) ∙ ap (λ (z : ℕ). (top + 1) * z) (sym one) in
      leaf_pairs w.client.own t.spot t.content (take count buffer) t.high (taken_own w b name key 1 words t) (λ n c x l. sym ((listed n c).value x (omega arith) l))
      (subst (λ (z : ℕ × ℕ). Rises z.0 z.1 (take count buffer)) (λ i. (low i, high i)) (listed t.its t.is).ascend)

  pub leaf_takes : (old new : Pairs ℕ) → new ≡ old ++ take count buffer → Takes w name key 1 old new
  leaf_takes old new more = (take count buffer, more, record { its = t.spot; named = t.named; high = t.high; covers = t.covers; has = its_pairs })
