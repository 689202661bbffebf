-- Pops of a range, one after another.
use Rattle.std.proofs.Common.{◌≡◌, ℕ, suc, ◌+◌, [], ◌∷◌, length, refl, sym, subst, inl, arith}
use Rattle.spec_map.specs.Map.{Pairs}
use Rattle.live_nodes.specs.Known.{Known}
use Rattle.live_pool.specs.Removals.{HaveRemoved, HasEmptied, HaveTaken, HasExtracted}
use Rattle.live_pool.specs.inner.Parts.{HavePopped, behind}

-- whoever gets them
removed_of : {F : Type 0} (step : F → ℕ × ℕ → F → Type 0) (low high : ℕ) (ps : Pairs ℕ) (from : ℕ) (f g : F) (k n : Known) → HaveTaken step low high ps from f k g n → HaveRemoved low high (length ps) from k n
removed_of step low high [] from f g k n h = (h.0, h.2)
removed_of step low high (p ∷ ps) from f g k n h =
    (h.0, p, h.2, h.3, removed_of step low high ps h.0 f h.1 k h.2 h.4, h.5)

pub emptied_of : {F : Type 0} (step : F → ℕ × ℕ → F → Type 0) (low high count : ℕ) (f g : F) (k n : Known) → HasExtracted step low high count f k g n → HasEmptied low high count k n
emptied_of step low high count f g k n e = record {
  from = e.from;
  middle = e.middle;
  removed = subst (λ (z : ℕ). HaveRemoved low high z e.from k e.middle) (sym e.counted) (removed_of step low high e.taken e.from f g k e.middle e.removed);
  rest = e.rest;
}

pub extracted_at_end : {F : Type 0} (step : F → ℕ × ℕ → F → Type 0) (low high count : ℕ) (ps : Pairs ℕ) (from : ℕ) (f g : F) (k n : Known) → count ≡ length ps → from ≡ high → HaveTaken step low high ps from f k g n → HasExtracted step low high count f k g n
extracted_at_end step low high count ps from f g k n counted end h = record { taken = ps; counted = counted; from = from; middle = n; removed = h; rest = inl (end, refl) }

-- a part was popped behind them
pub removed_on : (low high from : ℕ) (ps : Pairs ℕ) (count : ℕ) (k m n : Known) → HaveRemoved low high count from k m → HavePopped from high ps m n → HaveRemoved low high (count + length ps) (behind from ps) k n
removed_on low high from [] count k m n before part =
    subst (λ (z : Known). HaveRemoved low high (count + 0) from k z) (sym part) (subst (λ (z : ℕ). HaveRemoved low high z from k m) (let e : count ≡ count + 0 = omega arith in e) before)
removed_on low high from (p ∷ ps) count k m n before part =
    let one : HaveRemoved low high (suc count) (p.0 + 1) k part.0 = (from, p, m, refl, before, part.1) in
    subst (λ (z : ℕ). HaveRemoved low high z (behind (p.0 + 1) ps) k n) (let e : suc count + length ps ≡ count + suc (length ps) = omega arith in e) (removed_on low high (p.0 + 1) ps (suc count) k part.0 n one part.2)
