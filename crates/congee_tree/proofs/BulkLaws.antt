-- Removing a range of pairs, and the pairs that a closure keeps.
use Rattle.std.proofs.Common.{◌≡◌, ℕ, ◌+◌, ◌-◌, ◌<◌, ◌≤◌, ◌^◌, ◌&&◌, ◌≢◌, cond, leb, ltb, not, Bool, true, false, [], ◌∷◌, length, Bor, Option, Some, None, IsSome, IfSome, IfNone, option_map, refl, ap, sym, subst, ◌∙◌, arith, inl, inr}
use Rattle.std.proofs.lemmas.Bool.{lt-ltb, le-ltb, le-leb, lt-leb, eq-eqb, ne_eqb, cases_lt, cases_eq, cases_order}
use Rattle.spec_map.specs.Map.{Pairs, lookup, without, between, Rises, IsMap}
use Rattle.spec_map.specs.Near.{first_of}
use Rattle.spec_map.proofs.NearLaws.{absent_between, least_between, stored_between, no_first, first_rest}
use Rattle.tree_edit.specs.Calls.{HasNoneAfter}
use Rattle.spec_map.proofs.MapLaws.{Rises-without}
use Rattle.spec_map.proofs.RangeLaws.{between-above}
use Rattle.tree_edit.proofs.RunLaws.{outside-without}
pub use Rattle.tree_edit.proofs.AskingLaws.{between-below, asking_begins}
use Rattle.tree_edit.proofs.AskingLaws.{asking_ends, asking_keeps, asking_removes, asking_goes_on}
pub use Rattle.tree_edit.specs.Calls.{Asking}
use Rattle.tree_walk.specs.Scan.{from_key, first_number, first_pair}
use Rattle.congee_tree.specs.Bulk.{outside, Retains}
use Rattle.congee_tree.specs.inner.Step.{Asks, Extracts}
use Rattle.std.specs.List.{FoldsTo}

module _ {P : Type 0} where
  -- the first key between two is between them
  pub first_inside : (m : Pairs P) (s e k : ℕ) → Some k ≡ first_number (between m s e) → (s ≤ k) × (k < e)
  first_inside [] s e k is = absurd (cc)
  first_inside (x ∷ xs) s e k is =
      elim (cases_lt x.0 s) [
        | inl less ↦ first_inside xs s e k (rw (lt-leb s x.0 less) at is)
        | inr from ↦ elim (cases_lt x.0 e) [
          | inl below ↦
              let here : Some k ≡ Some x.0 = rw (le-leb s x.0 from, lt-ltb x.0 e below) at is in
              let same : k ≡ x.0 = cc in
              (omega (arith, same), omega (arith, same))
          | inr past ↦ first_inside xs s e k (rw (le-leb s x.0 from, le-ltb x.0 e past) at is)
        ]
      ]

  -- and none comes before it
  pub none_comes_before : (m : Pairs P) (s e k : ℕ) → IsMap m → Some k ≡ first_number (between m s e) → HasNoneAfter m s k
  none_comes_before m s e k h is = go (between m s e) refl
    where
      go : (es : Pairs P) → between m s e ≡ es → HasNoneAfter m s k
      go [] all = absurd (let clash : Some k ≡ None = is ∙ ap first_number all in cc)
      go (x ∷ xs) all =
          let same : Some k ≡ Some x.0 = is ∙ ap first_number all in
          let key : k ≡ x.0 = cc in
          let inside = first_inside m s e k is in
          let least = least_between s e m x h (ap first_of all) in
          λ j from below. absent_between s e m j from (omega (arith, below, inside.1)) (least.nothing j (omega (arith, below, key)))

  -- the first pair from a key on
  pub record FirstFrom (m : Pairs P) (from k : ℕ) : Type 0 where
    pub order : from ≤ k
    pub fits : k < 2 ^ 64
    pub there : IsSome (lookup m k)
    pub none : HasNoneAfter m from k

  pub first_from_is : (m : Pairs P) (from k : ℕ) (v : P) → IsMap m → first_pair (from_key from m) ≡ Some (k, v) → FirstFrom m from k
  first_from_is m from k v h is =
      let least = least_between from (2 ^ 64) m (k, v) h is in
      let stored : lookup m k ≡ Some v = stored_between from (2 ^ 64) m (k, v) least.from least.to least.stored in
      record {
        order = least.from;
        fits = least.to;
        there = rw stored refl;
        none = λ j past less. absent_between from (2 ^ 64) m j past (omega (arith, less, least.to)) (least.nothing j less);
      }

  -- it is a key of the map
  pub fewer : (m : Pairs P) (s e k : ℕ) → Some k ≡ first_number (between m s e) → length (without m k) < length m
  fewer [] s e k is = absurd (cc)
  fewer (x ∷ xs) s e k is =
      elim (cases_eq x.0 k) [
        | inl same ↦ rw (eq-eqb x.0 k same) (omega arith)
        | inr other ↦ rw (ne_eqb x.0 k other) (let less : length (without xs k) < length xs = fewer xs s e k (later other) in omega (arith, less))
      ]
    where
      later : x.0 ≢ k → Some k ≡ first_number (between xs s e)
      later other = elim (cases_lt x.0 s) [
        | inl less ↦ rw (lt-leb s x.0 less) at is
        | inr from ↦ elim (cases_lt x.0 e) [
          | inl below ↦
              absurd (let here : Some k ≡ Some x.0 = rw (le-leb s x.0 from, lt-ltb x.0 e below) at is in
              let same : k ≡ x.0 = cc in other (sym same))
          | inr past ↦ rw (le-leb s x.0 from, le-ltb x.0 e past) at is
        ]
      ]

  -- the first key from one on, as the first between two
  pub first_before : (m : Pairs P) (s e k : ℕ) → e ≤ 2 ^ 64 → Some k ≡ first_number (from_key s m) → k < e → Some k ≡ first_number (between m s e)
  first_before [] s e k top is l = is
  first_before (x ∷ xs) s e k top is l =
      elim (cases_lt x.0 s) [
        | inl less ↦ rw (lt-leb s x.0 less) (first_before xs s e k top (rw (lt-leb s x.0 less) at is) l)
        | inr from ↦ elim (cases_lt x.0 (2 ^ 64)) [
          | inl below ↦
              let here : Some k ≡ Some x.0 = rw (le-leb s x.0 from, lt-ltb x.0 (2 ^ 64) below) at is in
              let same : k ≡ x.0 = cc in
              rw (le-leb s x.0 from, lt-ltb x.0 e (omega (arith, same))) here
          | inr past ↦ rw (le-leb s x.0 from, le-ltb x.0 e (omega (arith, past))) (first_before xs s e k top (rw (le-leb s x.0 from, le-ltb x.0 (2 ^ 64) past) at is) l)
        ]
      ]

  pub none_before : (a : ℕ) (m : Pairs P) (s e k : ℕ) → Rises a (2 ^ 64) m → Some k ≡ first_number (from_key s m) → e ≤ k → between m s e ≡ []
  none_before a [] s e k h is l = refl
  none_before a (x ∷ xs) s e k h is l =
      elim (cases_lt x.0 s) [
        | inl less ↦ rw (lt-leb s x.0 less) (none_before (x.0 + 1) xs s e k h.2 (rw (lt-leb s x.0 less) at is) l)
        | inr from ↦
            let here : Some k ≡ Some x.0 = rw (le-leb s x.0 from, lt-ltb x.0 (2 ^ 64) h.1) at is in
            let same : k ≡ x.0 = cc in
            rw (le-leb s x.0 from, le-ltb x.0 e (omega (arith, same, l))) (between-above (x.0 + 1) (2 ^ 64) s e xs h.2 (omega (arith, same, l)))
      ]

  pub nothing_from : (a : ℕ) (m : Pairs P) (s e : ℕ) → Rises a (2 ^ 64) m → None ≡ first_number (from_key s m) → between m s e ≡ []
  nothing_from a [] s e h is = refl
  nothing_from a (x ∷ xs) s e h is =
      elim (cases_lt x.0 s) [
        | inl less ↦ rw (lt-leb s x.0 less) (nothing_from (x.0 + 1) xs s e h.2 (rw (lt-leb s x.0 less) at is))
        | inr from ↦ absurd (let here : None ≡ Some x.0 = rw (le-leb s x.0 from, lt-ltb x.0 (2 ^ 64) h.1) at is in cc)
      ]

  -- those outside a part of what lies between two keys are outside that, too
  outside-wider : (m : Pairs P) (s k e : ℕ) → s ≤ k → outside (outside m k e) s e ≡ outside m s e
  outside-wider [] s k e p = refl
  outside-wider (x ∷ xs) s k e p =
      elim (cases_lt x.0 k) [
        | inl less ↦ rw (lt-leb k x.0 less) (ap (λ (t : Pairs P). cond (not (leb s x.0 && ltb x.0 e)) (x ∷ t) t) (outside-wider xs s k e p))
        | inr from ↦ elim (cases_lt x.0 e) [
          | inl below ↦ rw (le-leb k x.0 from, lt-ltb x.0 e below, le-leb s x.0 (omega (arith, p, from))) (outside-wider xs s k e p)
          | inr past ↦ rw (le-leb k x.0 from, le-ltb x.0 e past, le-leb s x.0 (omega (arith, p, from)), le-ltb x.0 e past) (ap (λ t. x ∷ t) (outside-wider xs s k e p))
        ]
      ]

  pub same_outside : (m n : Pairs P) (s k e : ℕ) → s ≤ k → outside n k e ≡ outside m k e → outside n s e ≡ outside m s e
  same_outside m n s k e p h = sym (outside-wider n s k e p) ∙ ap (λ l. outside l s e) h ∙ outside-wider m s k e p

  -- where none is between them, all are outside
  pub all_outside : (m : Pairs P) (s e : ℕ) → between m s e ≡ [] → outside m s e ≡ m
  all_outside [] s e is = refl
  all_outside (x ∷ xs) s e is =
      elim (cases_lt x.0 s) [
        | inl less ↦ rw (lt-leb s x.0 less) (ap (λ t. x ∷ t) (all_outside xs s e (rw (lt-leb s x.0 less) at is)))
        | inr from ↦ elim (cases_lt x.0 e) [
          | inl below ↦ absurd (let here : x ∷ between xs s e ≡ [] = rw (le-leb s x.0 from, lt-ltb x.0 e below) at is in cc)
          | inr past ↦ rw (le-leb s x.0 from, le-ltb x.0 e past) (ap (λ t. x ∷ t) (all_outside xs s e (rw (le-leb s x.0 from, le-ltb x.0 e past) at is)))
        ]
      ]

  -- those outside a part that ends before a key, without the key, are those outside the part with it
  pub outside-last : (a b : ℕ) (m : Pairs P) (s k : ℕ) → Rises a b m → s ≤ k → without (outside m s k) k ≡ outside m s (k + 1)
  outside-last a b [] s k h p = refl
  outside-last a b (x ∷ xs) s k h p =
      elim (cases_order x.0 k) [
        | inl same ↦
            let before = all_outside xs s k (between-above (x.0 + 1) b s k xs h.2 (omega arith)) in
            let after = all_outside xs s (k + 1) (between-above (x.0 + 1) b s (k + 1) xs h.2 (omega arith)) in
            rw (le-leb s x.0 (omega arith), le-ltb x.0 k (omega arith), lt-ltb x.0 (k + 1) (omega arith), eq-eqb x.0 k same) (before ∙ sym after)
        | inr (inl less) ↦
            let rest = outside-last (x.0 + 1) b xs s k h.2 p in
            elim (cases_lt x.0 s) [
              | inl below ↦ rw (lt-leb s x.0 below, ne_eqb x.0 k (omega arith)) (ap (λ (t : Pairs P). x ∷ t) rest)
              | inr from ↦ rw (le-leb s x.0 from, lt-ltb x.0 k less, lt-ltb x.0 (k + 1) (omega arith)) rest
            ]
        | inr (inr more) ↦
            rw (le-leb s x.0 (omega arith), le-ltb x.0 k (omega arith), le-ltb x.0 (k + 1) (omega arith), ne_eqb x.0 k (omega arith))
            (ap (λ (t : Pairs P). x ∷ t) (outside-last (x.0 + 1) b xs s k h.2 p))
      ]

  -- each pair is between the two or outside
  pub parts_length : (m : Pairs P) (s e : ℕ) → length (between m s e) + length (outside m s e) ≡ length m
  parts_length [] s e = refl
  parts_length (x ∷ xs) s e =
      elim (cases_lt x.0 s) [
        | inl less ↦ rw (lt-leb s x.0 less) (omega (arith, parts_length xs s e))
        | inr from ↦ elim (cases_lt x.0 e) [
          | inl below ↦ rw (le-leb s x.0 from, lt-ltb x.0 e below) (omega (arith, parts_length xs s e))
          | inr past ↦ rw (le-leb s x.0 from, le-ltb x.0 e past) (omega (arith, parts_length xs s e))
        ]
      ]

  -- a key of the map has a value
  pub present : (m : Pairs P) (s e k : ℕ) → Some k ≡ first_number (between m s e) → None ≡ lookup m k → ⊥
  present [] s e k is none = cc
  present (x ∷ xs) s e k is none =
      elim (cases_eq x.0 k) [
        | inl same ↦ let here : None ≡ Some x.1 = rw (eq-eqb x.0 k same) at none in cc
        | inr other ↦ elim (cases_lt x.0 s) [
          | inl less ↦ present xs s e k (rw (lt-leb s x.0 less) at is) (rw (ne_eqb x.0 k other) at none)
          | inr from ↦ elim (cases_lt x.0 e) [
            | inl below ↦
                let here : Some k ≡ Some x.0 = rw (le-leb s x.0 from, lt-ltb x.0 e below) at is in
                let same : k ≡ x.0 = cc in other (sym same)
            | inr past ↦ present xs s e k (rw (le-leb s x.0 from, le-ltb x.0 e past) at is) (rw (ne_eqb x.0 k other) at none)
          ]
        ]
      ]

  pub is_present : (m : Pairs P) (s e k : ℕ) → Some k ≡ first_number (between m s e) → IsSome (lookup m k)
  is_present m s e k is = at (lookup m k) refl
    where
      at : (o : Option P) → lookup m k ≡ o → IsSome (lookup m k)
      at None none = absurd (present m s e k is (sym none))
      at (Some v) some = rw some refl

  -- the first pair between two keys, and those that its removal leaves there
  pub between_taken : (a : ℕ) (m : Pairs P) (s e k : ℕ) (v : P) → Rises a (2 ^ 64) m → Some k ≡ first_number (between m s e) → Some v ≡ lookup m k → between m s e ≡ (k, v) ∷ between (without m k) s e
  between_taken a [] s e k v h is found = absurd (cc)
  between_taken a (x ∷ xs) s e k v h is found =
      elim (cases_lt x.0 s) [
        | inl less ↦
            let other : x.0 ≢ k = let inside = first_inside (x ∷ xs) s e k is in omega (arith, less, inside.0) in
            rw (ne_eqb x.0 k other, lt-leb s x.0 less) (between_taken (x.0 + 1) xs s e k v h.2 (rw (lt-leb s x.0 less) at is) (rw (ne_eqb x.0 k other) at found))
        | inr from ↦ elim (cases_lt x.0 e) [
          | inl below ↦
              let here : Some k ≡ Some x.0 = rw (le-leb s x.0 from, lt-ltb x.0 e below) at is in
              let same : x.0 ≡ k = cc in
              let value : Some v ≡ Some x.1 = rw (eq-eqb x.0 k same) at found in
              let equal : x.1 ≡ v = cc in
              rw (eq-eqb x.0 k same, le-leb s x.0 from, lt-ltb x.0 e below) (ap (λ (y : ℕ × P). y ∷ between xs s e) (λ i. (same i, equal i)))
          | inr past ↦ absurd (
              let rest : Some k ≡ first_number (between xs s e) = rw (le-leb s x.0 from, le-ltb x.0 e past) at is in
              let none : between xs s e ≡ [] = between-above (x.0 + 1) (2 ^ 64) s e xs h.2 (omega (arith, past)) in
              let clash : Some k ≡ None = rest ∙ ap first_number none in cc)
        ]
      ]

  pub none_of_first : (m : Pairs P) → None ≡ first_number m → m ≡ []
  none_of_first [] is = refl
  none_of_first (x ∷ xs) is = absurd (cc)

  -- what a look for a pair returns
  pub seen_none : (o : Option (ℕ × Bor P)) (m : Pairs P) → option_map (λ found. (found.0, found.1.now)) o ≡ first_of m → IfNone o (first_pair m ≡ None)
  seen_none None m is = sym is
  seen_none (Some found) m is = tt

  pub seen_some : (o : Option (ℕ × Bor P)) (m : Pairs P) → option_map (λ found. (found.0, found.1.now)) o ≡ first_of m → IfSome o (λ found. first_pair m ≡ Some (found.0, found.1.now))
  seen_some None m is = tt
  seen_some (Some found) m is = sym is

  -- the first pair is taken off
  pub popped_none : (m : Pairs P) → None ≡ first_of m → m ≡ []
  popped_none m is = no_first m (sym is)

  pub popped_first : (m n : Pairs P) (k : ℕ) (v : P) → Some (k, v) ≡ first_of m → n ≡ without m k → m ≡ (k, v) ∷ n
  popped_first m n k v is others = first_rest m (k, v) (sym is) ∙ ap (λ t. (k, v) ∷ t) (sym others)

  pub fewer_popped : (m n : Pairs P) (k : ℕ) (v : P) → Some (k, v) ≡ first_of m → n ≡ without m k → length n < length m
  fewer_popped m n k v is others = let one = ap length (popped_first m n k v is others) in omega arith

-- all questions were asked
pub asking_done : {F P : Type 0} (step : F → ℕ × P → Bool → F → Type 0) (f : F) (first : Pairs P) (g : F) (m : Pairs P) (from : ℕ) → Asking step f first g m from → first_pair (from_key from m) ≡ None → (next : F) → next ≡ g → (n : Pairs P) → n ≡ m → Retains step f first n next
asking_done {P = P} step f first g m from a none next same n is =
    subst (λ (t : Pairs P). Retains step f first t next) (sym is)
    (subst (λ h. Retains step f first m h) (sym same) (asking_ends step f first g m from a none))

-- one question
module _ {F P : Type 0} (step : F → ℕ × P → Bool → F → Type 0) where
  module _ (f : F) (first : Pairs P) (g : F) (m : Pairs P) (from : ℕ) (a : Asking step f first g m from) (next : F) (n : Pairs P) where
    pub asked : (k : ℕ) → Asks step g m from (Some k) next n → Asking step f first next n (k + 1)
    asked k (v, true, here, called, is) =
        subst (λ (t : Pairs P). Asking step f first next t (k + 1)) (sym is) (asking_keeps step f first g m from a k v here next called)
    asked k (v, false, here, called, is) = asking_removes step f first g m from a k v here next n is called

    pub asked_all : Asks step g m from None next n → Retains step f first n next
    asked_all (none, same, is) =
        subst (λ (t : Pairs P). Retains step f first t next) (sym is)
        (subst (λ (h : F). Retains step f first m h) (sym same) (asking_ends step f first g m from a none))

    pub asked_forward : (k : ℕ) → Asks step g m from (Some k) next n → 2 ^ 64 - (k + 1) < 2 ^ 64 - from
    asked_forward k (v, stays, here, called, is) = let o = asking_goes_on step f first g m from a k v here next in omega (arith, o.0, o.1)

-- WHILE PAIRS OF A RANGE GO: those outside of it stay, and the calls with those that are left are the last of all.
module _ {F P : Type 0} (step : F → ℕ × P → F → Type 0) (low high : ℕ) where
  pub record Extracting (f : F) (first : Pairs P) (g : F) (m : Pairs P) : Type 0 where
    pub ordered : IsMap m
    pub stays : outside m low high ≡ outside first low high
    pub then : (last : F) → FoldsTo step g (between m low high) last → FoldsTo step f (between first low high) last

  pub extracting_begins : (f : F) (m : Pairs P) → IsMap m → Extracting f m f m
  extracting_begins f m h = record { ordered = h; stays = refl; then = λ last calls. calls }

  module _ (f : F) (first : Pairs P) (g : F) (m : Pairs P) (a : Extracting f first g m) (next : F) (n : Pairs P) where
    pub extracted : Extracts step g m low high true next n → Extracting f first next n
    extracted (k, v, here, found, called, is) =
        let inside = first_inside m low high k here in
        subst (λ (t : Pairs P). Extracting f first next t) (sym is) (record {
          ordered = Rises-without 0 (2 ^ 64) m k a.ordered;
          stays = outside-without m low high k inside.0 inside.1 ∙ a.stays;
          then = λ last calls.
              a.then last (subst (λ (t : Pairs P). FoldsTo step g t last) (sym (between_taken 0 m low high k v a.ordered here found))
              (next, called, calls));
        })

    pub extracted_less : Extracts step g m low high true next n → length n < length m
    extracted_less (k, v, here, found, called, is) = subst (λ (t : Pairs P). length t < length m) (sym is) (fewer m low high k here)

    -- where the bounds are these
    module _ (start end : ℕ) (starts : low ≡ start) (ends : high ≡ end) where
      pub extracted_calls : Extracts step g m low high false next n → FoldsTo step f (between first start end) next
      extracted_calls (none, same, is) =
          subst (λ (t : Pairs P). FoldsTo step f t next) (λ i. between first (starts i) (ends i))
          (a.then next (subst (λ (t : Pairs P). FoldsTo step g t next) (sym (none_of_first _ none)) (sym same)))

      pub extracted_all : Extracts step g m low high false next n → n ≡ outside first start end
      extracted_all (none, same, is) =
          is ∙ sym (all_outside m low high (none_of_first _ none)) ∙ a.stays ∙ (λ i. outside first (starts i) (ends i))
