-- What a range lists, and what it writes to a buffer.
use Rattle.std.proofs.Common.{◌≡◌, ℕ, ◌+◌, ◌≤◌, Bool, not, List, [], ◌∷◌, ◌++◌, length, map, take, drop, refl, sym, ap, subst, ◌∙◌, arith}
use Rattle.std.proofs.lemmas.List.{length-take, take_all, take_min, take-map}
use Rattle.std.proofs.lemmas.List.Filters.{length-filter_both}
use Rattle.std.specs.Prelude.{◌&&◌, nat_le, nat_lt, filter}
use Rattle.share_works.proofs.Going.{Goes, goes_by}
use Rattle.share_works.specs.Made.{KnowsBy, returned, listing}
use Rattle.share_works.specs.inner.Written.{AreWritten}
use Rattle.share_rule.specs.Known.{Known, MadeCall}
use Rattle.spec_map.specs.Call.{range, ranged}
use Rattle.spec_map.specs.Map.{Pairs, between}
use Rattle.spec_olc.specs.Runs.{same_number}

pub few_between : (x : Pairs ℕ) (a b : ℕ) → length (between x a b) ≤ length x
few_between x a b =
    let p : ℕ × ℕ → Bool = λ e. nat_le a e.0 && nat_lt e.0 b in
    let both : length (filter p x) + length (filter (λ e. not (p e)) x) ≡ length x = length-filter_both p (λ e. not (p e)) (λ e. refl) x in
    omega (arith, both)

module _ {S : Type 0} (same : ℕ → ℕ → Bool) (content : S → Pairs ℕ → Type 0) (x : S) (p : Pairs ℕ) (only : (m : Pairs ℕ) → content x m → m ≡ p) (has : content x p) where
  -- the first pairs of a range
  pub range_goes : (a b room : ℕ) → Goes same content (returned (range a b room) (ranged (take room (between p a b))) ∷ []) x x
  range_goes a b room = goes_by same content (returned (range a b room) (ranged (take room (between p a b))) ∷ []) x x p p only has ((refl, refl), refl)

  -- all pairs of a range, as many at most as there are
  pub listing_goes : (a b : ℕ) → Goes same content (listing a b (length p) (between p a b)) x x
  listing_goes a b =
      let all = take_all (length p) (between p a b) (few_between p a b) in
      goes_by same content (listing a b (length p) (between p a b)) x x p p only has ((refl, refl), ((refl, ap (λ (l : Pairs ℕ). ranged l) (sym all)), refl))

module _ {E : Type 0} (entry : ℕ → ℕ → E) (before after : List E) where
  -- these pairs are at the start of the buffer, and the rest of it is as it was
  pub record AreAtStart (pairs : Pairs ℕ) (written : ℕ) : Type 0 where
    pub as_many : written ≡ length pairs
    pub entries : after ≡ map (λ (pair : ℕ × ℕ). entry pair.0 pair.1) pairs ++ drop (length pairs) before

  at_start : (all : Pairs ℕ) (written : ℕ) → AreWritten entry all before written after → AreAtStart (take (length before) all) written
  at_start all written h =
      let f : ℕ × ℕ → E = λ pair. entry pair.0 pair.1 in
      let same : take written all ≡ take (length before) all = ap (λ (n : ℕ). take n all) h.as_many ∙ take_min (length before) all in
      let many : written ≡ length (take (length before) all) = h.as_many ∙ sym (length-take (length before) all) in
      record {
        as_many = many;
        entries = h.entries ∙ (λ i. take-map f written all i ++ drop written before) ∙ (λ i. map f (same i) ++ drop (many i) before);
      }

  pub first_written : (all : Pairs ℕ) (k n : Known ℕ) (a a' b b' room written : ℕ) → a' ≡ a → b' ≡ b → room ≡ length before → KnowsBy (returned (range a' b' room) (ranged (take room all)) ∷ []) k n → AreWritten entry all before written after
      → (pairs : Pairs ℕ) × MadeCall same_number k (returned (range a b (length before)) (ranged pairs)) n × (written ≡ length pairs) × (after ≡ map (λ (pair : ℕ × ℕ). entry pair.0 pair.1) pairs ++ drop (length pairs) before)
  first_written all k n a a' b b' room written is_a is_b is_room h w =
      let s = at_start all written w in (
        take (length before) all,
        subst (λ (z : ℕ × ℕ × ℕ). MadeCall same_number k (returned (range z.0 z.1 z.2) (ranged (take z.2 all))) n) (λ i. (is_a i, is_b i, is_room i)) h.1,
        s.as_many,
        s.entries,
      )
