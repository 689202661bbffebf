-- What a caller knows of a range that it has listed.
use Rattle.std.proofs.Common.{◌≡◌, ℕ, List, [], ◌∷◌, ◌++◌, length, map, min, take, drop, reverse, refl, sym, ap, subst, ◌∙◌}
use Rattle.std.proofs.lemmas.List.{length-reverse}
use Rattle.share_rule.specs.Known.{Known, MadeCall, MadeCalls}
use Rattle.share_visits.specs.Written.{AreWritten}
use Rattle.share_works.specs.Made.{KnowsBy, listing, returned}
use Rattle.share_works.proofs.Writing.{first_written}
use Rattle.spec_map.specs.Call.{range, ranged}
use Rattle.spec_map.specs.Map.{Pairs}
use Rattle.spec_olc.specs.Runs.{same_number}

module _ {E : Type 0} (entry : ℕ → ℕ → E) (before after : List E) (k k' n : Known ℕ) (is : k' ≡ k) where
  pub first_here : (all : Pairs ℕ) (start end written : ℕ) → KnowsBy (returned (range start end (length before)) (ranged (take (length before) all)) ∷ []) k n → AreWritten entry all before written after
      → (pairs : Pairs ℕ) × MadeCall same_number k' (returned (range start end (length before)) (ranged pairs)) n × (written ≡ length pairs) × (after ≡ map (λ (pair : ℕ × ℕ). entry pair.0 pair.1) pairs ++ drop (length pairs) before)
  first_here all start end written h w =
      first_written entry before after all k' n start start end end (length before) written refl refl refl
      (subst (λ (z : Known ℕ). KnowsBy (returned (range start end (length before)) (ranged (take (length before) all)) ∷ []) z n) (sym is) h) (record { as_many = w.as_many; entries = w.entries })

  pub last_here : (start end total written : ℕ) (pairs : Pairs ℕ) → KnowsBy (listing start end total pairs) k n → AreWritten entry (reverse pairs) before written after
      → (total : ℕ) × (pairs : Pairs ℕ) × MadeCalls same_number k' (listing start end total pairs) n × (written ≡ min (length before) (length pairs))
      × (after ≡ take written (map (λ (pair : ℕ × ℕ). entry pair.0 pair.1) (reverse pairs)) ++ drop written before)
  last_here start end total written pairs h w = (
    total,
    pairs,
    subst (λ (z : Known ℕ). MadeCalls same_number z (listing start end total pairs) n) (sym is) h.0,
    w.as_many ∙ ap (λ (l : ℕ). min (length before) l) (length-reverse pairs),
    w.entries,
  )
