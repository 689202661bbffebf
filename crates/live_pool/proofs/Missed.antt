-- Searches one after the other.
use Rattle.std.proofs.Common.{◌≡◌, ◌⊎◌, ℕ, zero, suc, Bool, true, false, Option, Result, Ok, Err, IsErr, OnErr, refl, sym, ◌∙◌, subst, inl, inr}
use Rattle.live_nodes.specs.Known.{Known}
use Rattle.live_scans.specs.Scans.{GaveUp}
use Rattle.live_scans.proofs.Pages.{begun_book, gave_up_book}
use Rattle.live_pool.specs.Pops.{HasLost, HaveMissed, HasMissed, HasPopped}
use Rattle.live_pool.proofs.Within.{end_begun}

module _ (up : Bool) (low high : ℕ) where
  lost_book : (k n : Known) → HasLost up low high k n → n.book ≡ k.book
  lost_book k n h = h.4.book ∙ begun_book k h.2 (end_begun up low high k h.2 h.0 h.3)

  one_book : (k n : Known) → GaveUp k n ⊎ HasLost up low high k n → n.book ≡ k.book
  one_book k n (inl gave) = gave_up_book k n gave
  one_book k n (inr lost) = lost_book k n lost

  pub missed_none : (k : Known) → HasMissed up low high k k
  missed_none k = record { book = refl; searches = 0; missed = refl }

  more : (k m n : Known) → HasMissed up low high k m → GaveUp m n ⊎ HasLost up low high m n → HasMissed up low high k n
  more k m n h one = record { book = one_book m n one ∙ h.book; searches = suc h.searches; missed = (m, h.missed, one) }

  pub missed_more : (k m n : Known) → HasMissed up low high k m → HasLost up low high m n → HasMissed up low high k n
  missed_more k m n h lost = more k m n h (inr lost)

  pub missed_busy : (k m n : Known) → HasMissed up low high k m → GaveUp m n → HasMissed up low high k n
  missed_busy k m n h gave = more k m n h (inl gave)

  after : (k m n : Known) (count : ℕ) → HasMissed up low high k m → n.book ≡ m.book → HaveMissed up low high count m n → HasMissed up low high k n
  after k m n zero h book same = subst (HasMissed up low high k) (sym same) h
  after k m n (suc count) h book s = more k s.0 n (after k m s.0 count h (sym (one_book s.0 n s.2) ∙ book) s.1) s.2

  -- one pop after another
  pub missed_then : (k m n : Known) → HasMissed up low high k m → HasMissed up low high m n → HasMissed up low high k n
  missed_then k m n h s = after k m n s.searches h s.book s.missed

  pub missed_tried : {A E : Type 0} (k m n : Known) (r : Result A E) → HasMissed up low high k m → IsErr r → OnErr r (HasMissed up low high m n) → HasMissed up low high k n
  missed_tried k m n (Ok a) h fails s = absurd (let e : false ≡ true = fails in cc)
  missed_tried k m n (Err e) h fails s = missed_then k m n h s

  pub popped_then : (k m n : Known) (found : Option (ℕ × ℕ)) → HasMissed up low high k m → HasPopped up low high m found n → HasPopped up low high k found n
  popped_then k m n found h s = (s.0, missed_then k m s.0 h s.1, s.2)
