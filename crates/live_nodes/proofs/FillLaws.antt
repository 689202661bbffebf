-- The room is looked at and written.
use Rattle.std.proofs.Common.{◌≡◌, ℕ, zero, suc, ◌+◌, ◌-◌, ◌<◌, ◌≤◌, List, [], ◌∷◌, ◌++◌, length, get_or, set, take, drop, sym, refl, ap, ◌∙◌, subst, arith, length-set, length-take}
use Rattle.std.proofs.lemmas.List.{get_or-take, get_or-drop}
use mathlib.Core.Option.{some}
use lib.ListN.{get_elem?}
use Rattle.word_book.specs.Book.{Book, Name, reads, writes, none_joined}
use Rattle.live_nodes.specs.Seats.{Room, room_at, SeatView, seat_view}
use Rattle.live_nodes.specs.Plays.{put, Looks, Puts}
use Rattle.live_nodes.specs.Calls.{InRoom}
use Rattle.word_segments.specs.Segments.{AreWords}
use Rattle.live_nodes.specs.Rows.{filled, unfilled, MayFill, without_fill}

-- a number of a list is there
there : (l : List ℕ) (i : ℕ) → i < length l → get_elem? l i ≡ some (get_or l i 0)
there [] i low = absurd (omega arith)
there (x ∷ xs) zero low = refl
there (x ∷ xs) (suc i) low = there xs i (omega arith)

-- what is written among the first ones of a list
take-set : (l : List ℕ) (n i x : ℕ) → i < n → take n (set l i x) ≡ set (take n l) i x
take-set [] zero i x low = absurd (omega arith)
take-set [] (suc n) i x low = refl
take-set (a ∷ l) zero i x low = absurd (omega arith)
take-set (a ∷ l) (suc n) zero x low = refl
take-set (a ∷ l) (suc n) (suc i) x low = ap (λ (t : List ℕ). a ∷ t) (take-set l n i x (omega arith))

drop-set_first : (l : List ℕ) (i x : ℕ) → drop 1 (set l (suc i) x) ≡ set (drop 1 l) i x
drop-set_first [] i x = refl
drop-set_first (a ∷ l) i x = refl

drop-set_before : (l : List ℕ) (n i x : ℕ) → i < n → drop n (set l i x) ≡ drop n l
drop-set_before [] n i x low = refl
drop-set_before (a ∷ l) zero i x low = absurd (omega arith)
drop-set_before (a ∷ l) (suc n) zero x low = refl
drop-set_before (a ∷ l) (suc n) (suc i) x low = drop-set_before l n i x (omega arith)

take-set_behind : (l : List ℕ) (i x : ℕ) → take 1 (set l (suc i) x) ≡ take 1 l
take-set_behind [] i x = refl
take-set_behind (a ∷ l) i x = refl

module _ {V : Type 0} (v : SeatView V) (words : List Name) (b : Book) (may : MayFill words b v) (i : ℕ) (low : i + 1 < length words) (word : Name) (d : Name) (is : get_or words (i + 1) d ≡ word) where
  at_key : v.room.start + (i + 1) ≡ word.key
  at_key = ap (λ (w : Name). w.key) (sym (may.0 (i + 1) d low) ∙ is)

  pub in_room : InRoom v word.key
  in_room = (i + 1, omega (arith, low, may.2), at_key)

  pub found : (w : SeatView V) (m : ℕ) → Looks (reads word.key) v m none_joined w → m ≡ get_or (filled (length words) v.room) i 0
  found w m told =
      let ds : List ℕ = v.room.draft in
      told.roomed (i + 1) (get_or ds (i + 1) 0) at_key (there ds (i + 1) (omega (arith, low, may.2)))
      ∙ sym (get_or-take (length words - 1) (drop 1 ds) i 0 (omega arith) ∙ get_or-drop 1 ds i 0 ∙ ap (λ z. get_or ds z 0) (omega arith))

  module _ (w : SeatView V) (x : ℕ) (told : Puts (writes word.key x) v x none_joined w) where
    now : w ≡ put v (i + 1) x
    now = told (i + 1) at_key

    room_now : w.room ≡ room_at v.room.start (set v.room.draft (i + 1) x)
    room_now = ap (λ (z : SeatView V). z.room) now

    pub still_fills : MayFill words b w
    still_fills = subst (λ (r : Room). AreWords r.start b words × (1 ≤ length words) × (length words ≤ length r.draft)) (sym room_now)
        (may.0, may.1, (let l = length-set v.room.draft (i + 1) x in let m = may.2 in omega (arith, l, m)))

    next : i + 1 ≡ suc i
    next = omega arith

    pub words_now : filled (length words) w.room ≡ set (filled (length words) v.room) i x
    words_now =
        let n = length words - 1 in
        let ds : List ℕ = v.room.draft in
        ap (filled (length words)) room_now ∙ ap (λ z. take n (drop 1 (set ds z x))) next ∙ ap (take n) (drop-set_first ds i x) ∙ take-set (drop 1 ds) n i x (omega arith)

    pub same_unfilled : without_fill (length words) w ≡ without_fill (length words) v
    same_unfilled =
        let n = length words in
        let ds : List ℕ = v.room.draft in
        let room : unfilled n w.room ≡ unfilled n v.room =
        ap (unfilled n) room_now ∙ ap (λ (t : List ℕ × List ℕ). room_at v.room.start (t.0 ++ t.1)) (λ j. ((ap (λ z. take 1 (set ds z x)) next ∙ take-set_behind ds i x) j, drop-set_before ds n (i + 1) x low j)) in
        ap (λ (r : Room). seat_view w.client w.places w.reads w.holds r) room ∙ ap (λ (z : SeatView V). seat_view z.client z.places z.reads z.holds (unfilled n v.room)) now

pub fill_low : (words : List Name) (r : Room) (i : ℕ) → i < length (filled (length words) r) → i + 1 < length words
fill_low words r i low = omega (arith, low, length-take (length words - 1) (drop 1 r.draft))
