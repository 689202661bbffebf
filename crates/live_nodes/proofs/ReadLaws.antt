-- A node is read whose version word was taken last.
use Rattle.std.proofs.Common.{◌≡◌, ℕ, ◌+◌, ◌<◌, Bool, cond, List, ◌∷◌, length, get_or, sym, ap, ◌∙◌, subst, arith, eq-eqb}
use Rattle.word_book.specs.Book.{Book, Name, name, reads, none_joined}
use Rattle.live_nodes.specs.Seats.{Place, Read, read, SeatView, seat_view, IsIn, Agree}
use Rattle.live_nodes.specs.Plays.{saw_in, saw, Sees}
use Rattle.live_nodes.specs.Calls.{KnowsCell}
use Rattle.live_nodes.specs.Rows.{AreOf, last_saw, unread, MayRead, without_reads}

-- the key of the word behind the i-th of a content
pub cell_key : (p : Place) (b : Book) (words : List Name) (d : Name) (i : ℕ) → AreOf p b words → i < p.len → get_or words (i + 1) d ≡ name (p.key + i + 1) b
cell_key p b words d i of low = of.1 (i + 1) d (omega (arith, low, of.0)) ∙ ap (λ z. name z b) (omega arith)

module _ {V : Type 0} (v : SeatView V) (words : List Name) (b : Book) (may : MayRead words b v) (i : ℕ) (low : i + 1 < length words) (word : Name) (d : Name) (is : get_or words (i + 1) d ≡ word) where
  abbrev p : Place
  p = may.0

  within : i < p.len
  within = let l = may.4.0 in omega (arith, low, l)

  at_key : p.key + i + 1 ≡ word.key
  at_key = ap (λ (w : Name). w.key) (sym (cell_key p b words d i may.4 within) ∙ is)

  pub knows_cell : KnowsCell v word.key
  knows_cell = (p, i, (may.3, within, at_key))

  module _ (w : SeatView V) (n : ℕ) (told : Sees (reads word.key) v n none_joined w) where
    abbrev r : Read
    r = may.1

    now : w ≡ saw v p.number (i, n)
    now = told p i may.3 within at_key

    reads_now : w.reads ≡ read r.number r.word ((i, n) ∷ r.saw) ∷ may.2
    reads_now = ap (λ (z : SeatView V). z.reads) now ∙ ap (saw_in p.number (i, n)) may.5
        ∙ ap (λ (t : Bool). cond t (read r.number r.word ((i, n) ∷ r.saw) ∷ may.2) (r ∷ saw_in p.number (i, n) may.2)) (eq-eqb p.number r.number (sym may.6))

    pub still_reads : MayRead words b w
    still_reads = (p, read r.number r.word ((i, n) ∷ r.saw), may.2, subst (λ (z : SeatView V). IsIn p z.places) (sym now) may.3, may.4, reads_now, may.6)

    pub same_unread : without_reads w ≡ without_reads v
    same_unread =
        let reads_as : unread w.reads ≡ unread v.reads = ap unread reads_now ∙ sym (ap unread may.5) in
        ap (λ (rs : List Read). seat_view w.client w.places rs w.holds w.room) reads_as ∙ ap (λ (z : SeatView V). seat_view z.client z.places (unread v.reads) z.holds z.room) now

    pub agree_now : (c : List ℕ) → Agree c (last_saw w.reads) → (get_or c i 0 ≡ n) × Agree c (last_saw v.reads)
    agree_now c a =
        let x = subst (λ (rs : List Read). Agree c (last_saw rs)) reads_now a in
        (x.0, subst (λ (rs : List Read). Agree c (last_saw rs)) (sym may.5) x.1)
