-- What is written to a buffer, a run after another.
use Rattle.std.proofs.Common.{◌≡◌, ◌≢◌, ℕ, suc, ◌+◌, ◌-◌, ◌<◌, ◌≤◌, List, [], ◌∷◌, ◌++◌, length, map, set, take, drop, reverse, append-nil, append_assoc, refl, sym, ap, subst, ◌∙◌, arith}
use Rattle.std.proofs.lemmas.List.{drop-drop, drop_at, length-append, length-drop, length-take, length-map, map-append, reverse-append, set_split, take-append-drop, take-append-le, take-take, take_all, take_at}
use Rattle.std.proofs.lemmas.Slice.{between_is}
use Rattle.share_parts.specs.Parts.{Ascends}
use Rattle.share_visits.specs.Written.{AreWritten}
use Rattle.share_visits.proofs.Splitting.{between-split, between_none}
use Rattle.spec_map.specs.Map.{Pairs, between}

-- two ranges beside one another, descending
pub behind_back : (m : Pairs ℕ) → Ascends m → (a b c : ℕ) → a ≤ b → b ≤ c → reverse (between m b c) ++ reverse (between m a b) ≡ reverse (between m a c)
behind_back m up a b c low high = sym (ap (λ (l : Pairs ℕ). reverse l) (between-split m up a b c low high) ∙ reverse-append (between m a b) (between m b c))

module _ {E : Type 0} (entry : ℕ → ℕ → E) where
  abbrev entries_of : Pairs ℕ → List E
  entries_of l = map (λ (pair : ℕ × ℕ). entry pair.0 pair.1) l

  abbrev W : Pairs ℕ → List E → ℕ → List E → Type 0
  W = AreWritten entry

  pub nothing : (before : List E) → W [] before 0 before
  nothing before = record { as_many = omega arith; entries = refl }

  -- so many pairs, or as many as fit
  pub all_of : (l : Pairs ℕ) (before : List E) (n : ℕ) (after : List E) → W l before n after → n ≢ length before → n ≡ length l
  all_of l before n after h ne = let many = h.as_many in omega (arith, many, ne)

  -- a full buffer has no place for more
  pub full : (l r : Pairs ℕ) (before : List E) (n : ℕ) (after : List E) → W l before n after → n ≡ length before → W (l ++ r) before n after
  full l r before n after h is =
      let many = h.as_many in
      let longer = length-append l r in
      let fits = length-map l (λ (pair : ℕ × ℕ). entry pair.0 pair.1) in
      record {
        as_many = omega (arith, many, longer, is);
        entries = h.entries ∙ ap (λ (t : List E). t ++ drop n before)
            (sym (ap (λ (t : List E). take n t) (map-append (λ (pair : ℕ × ℕ). entry pair.0 pair.1) l r) ∙ take-append-le n (entries_of l) (entries_of r) (omega (arith, many, fits, is))));
      }

  take_over : (p q : List E) (n k : ℕ) → length p ≡ n → take (n + k) (p ++ q) ≡ p ++ take k q
  take_over p q n k is =
      sym (take-append-drop n (take (n + k) (p ++ q)))
      ∙ (λ i. (take-take n (n + k) (p ++ q) (omega arith) ∙ take_at p q n is) i ++ (sym (between_is (p ++ q) n (n + k)) ∙ ((λ j. take (rest j) (drop_at p q n is j)))) i)
    where
      rest : (n + k) - n ≡ k
      rest = omega arith

  -- more is written behind what was
  pub more : (l r : Pairs ℕ) (before mid old tail rest : List E) (n k : ℕ) → W l before n mid → n ≡ length l → old ≡ drop n mid → rest ≡ [] → W r old k tail → W (l ++ r) before (n + k) (take n mid ++ (tail ++ rest))
  more l r before mid old tail rest n k h is old_is none w =
      let f : ℕ × ℕ → E = λ pair. entry pair.0 pair.1 in
      let long : length (entries_of l) ≡ n = length-map l f ∙ sym is in
      let mid_is : mid ≡ entries_of l ++ drop n before = h.entries ∙ ap (λ (t : List E). t ++ drop n before) (take_all n (entries_of l) (omega (arith, long))) in
      let first : take n mid ≡ entries_of l = ap (λ (t : List E). take n t) mid_is ∙ take_at (entries_of l) (drop n before) n long in
      let behind : drop n mid ≡ drop n before = ap (λ (t : List E). drop n t) mid_is ∙ drop_at (entries_of l) (drop n before) n long in
      let left : drop k old ≡ drop (n + k) before = ap (λ (t : List E). drop k t) (old_is ∙ behind) ∙ drop-drop k n before in
      let tail_is : tail ++ rest ≡ take k (entries_of r) ++ drop (n + k) before =
      ap (λ (t : List E). tail ++ t) none ∙ (append-nil tail ∙ (w.entries ∙ ap (λ (t : List E). take k (entries_of r) ++ t) left))
      in
      let taken : take (n + k) (entries_of (l ++ r)) ≡ entries_of l ++ take k (entries_of r) = ap (λ (t : List E). take (n + k) t) (map-append f l r) ∙ take_over (entries_of l) (entries_of r) n k long in
      let many = h.as_many in
      let many_more = w.as_many in
      let longer = length-append l r in
      let room : length old ≡ length before - n = ap (λ (t : List E). length t) (old_is ∙ behind) ∙ length-drop n before in
      record {
        as_many = omega (arith, many, many_more, longer, room, is);
        entries = (λ i. first i ++ tail_is i) ∙ (sym (append_assoc (entries_of l) (take k (entries_of r)) (drop (n + k) before)) ∙ ap (λ (t : List E). t ++ drop (n + k) before) (sym taken));
      }

  -- one pair more is written behind what was
  pub one_more : (l : Pairs ℕ) (before : List E) (n : ℕ) (mid : List E) (key value : ℕ) → W l before n mid → n ≡ length l → n < length mid → W (l ++ (key, value) ∷ []) before (n + 1) (set mid n (entry key value))
  one_more l before n mid key value h is room =
      let e : E = entry key value in
      let left = length-drop n mid in
      let one : W ((key, value) ∷ []) (drop n mid) 1 (e ∷ drop 1 (drop n mid)) = record { as_many = omega (arith, left, room); entries = refl } in
      let later : suc n ≡ n + 1 = omega arith in
      subst (λ (t : List E). W (l ++ (key, value) ∷ []) before (n + 1) t)
      (ap (λ (t : List E). take n mid ++ t) (append-nil (e ∷ drop 1 (drop n mid)))
      ∙ ((λ i. take n mid ++ e ∷ (drop-drop 1 n mid ∙ ap (λ (k : ℕ). drop k mid) (sym later)) i) ∙ sym (set_split mid n e room)))
      (more l ((key, value) ∷ []) before mid (drop n mid) (e ∷ drop 1 (drop n mid)) [] n 1 h is refl refl one)

  pub as_long : (l : Pairs ℕ) (before : List E) (n : ℕ) (after : List E) → W l before n after → length after ≡ length before
  as_long l before n after h =
      let many = h.as_many in
      let all = ap (λ (t : List E). length t) h.entries in
      let parts = length-append (take n (entries_of l)) (drop n before) in
      let first = length-take n (entries_of l) in
      let rest = length-drop n before in
      let fits = length-map l (λ (pair : ℕ × ℕ). entry pair.0 pair.1) in
      omega (arith, many, all, parts, first, rest, fits)

  -- no more pairs
  pub no_more : (done l : Pairs ℕ) (before : List E) (n : ℕ) (after : List E) → l ≡ [] → W done before n after → n ≡ length done → W (done ++ l) before n after × (n ≡ length (done ++ l))
  no_more done l before n after none w is =
      let same : done ≡ done ++ l = sym (append-nil done) ∙ ap (λ (t : Pairs ℕ). done ++ t) (sym none) in
      (subst (λ (t : Pairs ℕ). W t before n after) same w, is ∙ ap (λ (t : Pairs ℕ). length t) same)

  pub no_more_back : (done l : Pairs ℕ) (before : List E) (n : ℕ) (after : List E) → l ≡ [] → W done before n after → n ≡ length done → W (done ++ reverse l) before n after × (n ≡ length (done ++ reverse l))
  no_more_back done l before n after none w is = no_more done (reverse l) before n after (ap (λ (t : Pairs ℕ). reverse t) none) w is

  -- behind what was written before
  module _ (m : Pairs ℕ) (up : Ascends m) (done : Pairs ℕ) (start last : ℕ) (before : List E) where
    -- ascending: the pairs from the start on, up to here
    abbrev pub Up : ℕ → ℕ → List E → Type 0
    Up to n after = W (done ++ between m start to) before n after

    beside : (a b : ℕ) → start ≤ a → a ≤ b → (done ++ between m start a) ++ between m a b ≡ done ++ between m start b
    beside a b low high = append_assoc done (between m start a) (between m a b) ∙ ap (λ (l : Pairs ℕ). done ++ l) (sym (between-split m up start a b low high))

    pub run_up : (from end n : ℕ) (after : List E) → start ≤ from → from ≤ end → W ((done ++ between m start from) ++ between m from (end + 1)) before n after → Up (end + 1) n after
    run_up from end n after low high w = subst (λ (l : Pairs ℕ). W l before n after) (beside from (end + 1) low (omega (arith, high))) w

    pub up_full : (to n : ℕ) (after : List E) → start ≤ to → to ≤ last → Up to n after → n ≡ length before → Up last n after
    up_full to n after low high w is = subst (λ (l : Pairs ℕ). W l before n after) (beside to last low high) (full (done ++ between m start to) (between m to last) before n after w is)

    past : (to next : ℕ) → start ≤ to → to ≤ next → between m to next ≡ [] → done ++ between m start to ≡ done ++ between m start next
    past to next low high none = sym (append-nil (done ++ between m start to)) ∙ (ap (λ (l : Pairs ℕ). (done ++ between m start to) ++ l) (sym none) ∙ beside to next low high)

    -- no key was passed over
    pub up_to : (to next n : ℕ) (after : List E) → start ≤ to → to ≤ next → between m to next ≡ [] → Up to n after → n ≡ length (done ++ between m start to) → Up next n after × (n ≡ length (done ++ between m start next))
    up_to to next n after low high none w is =
        let same = past to next low high none in
        (subst (λ (l : Pairs ℕ). W l before n after) same w, is ∙ ap (λ (l : Pairs ℕ). length l) same)

    -- descending: the pairs below the last, from here on
    abbrev pub Down : ℕ → ℕ → List E → Type 0
    Down from n after = W (done ++ reverse (between m from last)) before n after

    under : (a b : ℕ) → a ≤ b → b ≤ last → (done ++ reverse (between m b last)) ++ reverse (between m a b) ≡ done ++ reverse (between m a last)
    under a b low high =
        append_assoc done (reverse (between m b last)) (reverse (between m a b))
        ∙ ap (λ (l : Pairs ℕ). done ++ l) (behind_back m up a b last low high)

    pub run_down : (first to n : ℕ) (after : List E) → first ≤ to → to ≤ last → W ((done ++ reverse (between m to last)) ++ reverse (between m first to)) before n after → Down first n after
    run_down first to n after low high w = subst (λ (l : Pairs ℕ). W l before n after) (under first to low high) w

    pub down_full : (from n : ℕ) (after : List E) → start ≤ from → from ≤ last → Down from n after → n ≡ length before → Down start n after
    down_full from n after low high w is =
        subst (λ (l : Pairs ℕ). W l before n after) (under start from low high) (full (done ++ reverse (between m from last)) (reverse (between m start from)) before n after w is)

    below : (next from : ℕ) → next ≤ from → from ≤ last → between m next from ≡ [] → done ++ reverse (between m from last) ≡ done ++ reverse (between m next last)
    below next from low high none =
        sym (append-nil (done ++ reverse (between m from last))) ∙ (ap (λ (l : Pairs ℕ). (done ++ reverse (between m from last)) ++ reverse l) (sym none) ∙ under next from low high)

    pub down_to : (next from n : ℕ) (after : List E) → next ≤ from → from ≤ last → between m next from ≡ [] → Down from n after → n ≡ length (done ++ reverse (between m from last))
        → Down next n after × (n ≡ length (done ++ reverse (between m next last)))
    down_to next from n after low high none w is =
        let same = below next from low high none in
        (subst (λ (l : Pairs ℕ). W l before n after) same w, is ∙ ap (λ (l : Pairs ℕ). length l) same)

  -- where a range has no keys
  pub none_up : (m : Pairs ℕ) (start last : ℕ) (before : List E) → last < start → W (between m start (last + 1)) before 0 before
  none_up m start last before less = subst (λ (l : Pairs ℕ). W l before 0 before) (sym (between_none m start (last + 1) (omega (arith, less)))) (nothing before)

  pub none_down : (m : Pairs ℕ) (start last : ℕ) (before : List E) → last < start → W (reverse (between m start (last + 1))) before 0 before
  none_down m start last before less = subst (λ (l : Pairs ℕ). W (reverse l) before 0 before) (sym (between_none m start (last + 1) (omega (arith, less)))) (nothing before)

  pub below_zero : (m : Pairs ℕ) (start end : ℕ) (before : List E) → end ≡ 0 → W (between m start end) before 0 before
  below_zero m start end before is = subst (λ (l : Pairs ℕ). W l before 0 before) (sym (between_none m start end (omega (arith, is)))) (nothing before)
