-- The list of the seated numbers follows from which numbers are seated.
use Rattle.std.proofs.Common.{◌≡◌, ◌≢◌, ℕ, ◌+◌, ◌<◌, ◌≤◌, Bool, true, false, List, [], ◌∷◌, if◌then◌else◌, None, inl, inr, refl, sym, ◌∙◌, arith}
use Rattle.std.proofs.lemmas.Bool.{lt-ltb, le-ltb, eq-eqb, ne_eqb, cases_order, cases_eq, false≢true}
use Rattle.std.proofs.lemmas.Bool.Decides.{eqb_tells}
use Rattle.spec_olc.specs.Lists.{is_in, off}
use Rattle.olc_words.specs.Epoch.{PinsView, is_seated}
use Rattle.olc_words.specs.declared.epoch.Seat.{Seat}
use Rattle.olc_state.specs.inner.Shown.{with_seat, seats_on}
use Rattle.olc_state.specs.inner.World.{World}
use Rattle.olc_state.proofs.States.{shown_seat}

-- the numbers ascend, from this one on
abbrev Ascends : ℕ → List ℕ → Type 0
Ascends low [] = Unit {0}
Ascends low (x ∷ xs) = (low ≤ x) × Ascends (x + 1) xs

ascends-wider : (a c : ℕ) (xs : List ℕ) → c ≤ a → Ascends a xs → Ascends c xs
ascends-wider a c [] p h = tt
ascends-wider a c (x ∷ xs) p h = (omega (arith, h.0), h.1)

ascends-with : (a id : ℕ) (xs : List ℕ) → Ascends a xs → a ≤ id → Ascends a (with_seat id xs)
ascends-with a id [] h p = (p, tt)
ascends-with a id (x ∷ xs) h p =
    elim (cases_order x id) [
      | inl same ↦ rw (le-ltb x id (omega arith), eq-eqb x id same) h
      | inr (inl less) ↦ rw (lt-ltb x id less) (h.0, ascends-with (x + 1) id xs h.1 (omega arith))
      | inr (inr more) ↦ rw (le-ltb x id (omega arith), ne_eqb x id (omega arith)) (p, (omega arith, h.1))
    ]

ascends-off : (a id : ℕ) (xs : List ℕ) → Ascends a xs → Ascends a (off id xs)
ascends-off a id [] h = tt
ascends-off a id (x ∷ xs) h =
    elim (eqb_tells x id) [
      | inl at ↦ rw at.0 (ascends-wider (x + 1) a (off id xs) (omega (arith, h.0)) (ascends-off (x + 1) id xs h.1))
      | inr far ↦ rw far.0 (h.0, ascends-off (x + 1) id xs h.1)
    ]

in-below : (a k : ℕ) (xs : List ℕ) → Ascends a xs → k < a → is_in k xs ≡ false
in-below a k [] h p = refl
in-below a k (x ∷ xs) h p = rw (ne_eqb x k (omega (arith, h.0))) (in-below (x + 1) k xs h.1 (omega (arith, h.0)))

in-first : (x : ℕ) (xs : List ℕ) → is_in x (x ∷ xs) ≡ true
in-first x xs = rw (eq-eqb x x refl)

in-next : (x k : ℕ) (xs : List ℕ) → x ≢ k → is_in k (x ∷ xs) ≡ is_in k xs
in-next x k xs d = rw (ne_eqb x k d)

same-lists : (a b : ℕ) (xs ys : List ℕ) → Ascends a xs → Ascends b ys → ((k : ℕ) → is_in k xs ≡ is_in k ys) → xs ≡ ys
same-lists a b [] [] h g same = refl
same-lists a b [] (y ∷ ys) h g same = absurd (false≢true (same y ∙ in-first y ys))
same-lists a b (x ∷ xs) [] h g same = absurd (false≢true (sym (same x) ∙ in-first x xs))
same-lists a b (x ∷ xs) (y ∷ ys) h g same =
    elim (cases_order x y) [
      | inl at ↦
          let rest : (k : ℕ) → is_in k xs ≡ is_in k ys = λ k.
          elim (cases_eq x k) [
            | inl here ↦ in-below (x + 1) k xs h.1 (omega arith) ∙ sym (in-below (y + 1) k ys g.1 (omega arith))
            | inr other ↦ sym (in-next x k xs other) ∙ same k ∙ in-next y k ys (λ e. other (at ∙ e))
          ]
          in
          let tail : xs ≡ ys = same-lists (x + 1) (y + 1) xs ys h.1 g.1 rest in
          cc
      | inr (inl less) ↦ absurd (false≢true (sym (in-below y x (y ∷ ys) (omega arith, g.1) less) ∙ (sym (same x) ∙ in-first x xs)))
      | inr (inr more) ↦ absurd (false≢true (sym (in-below x y (x ∷ xs) (omega arith, h.1) more) ∙ (same y ∙ in-first y ys)))
    ]

seat-ascends : (b : Bool) (id : ℕ) (xs : List ℕ) → Ascends 0 xs → Ascends 0 (if b then with_seat id xs else off id xs)
seat-ascends true id xs h = ascends-with 0 id xs h (omega arith)
seat-ascends false id xs h = ascends-off 0 id xs h

seats-ascend : (seats : List (ℕ × Seat)) → Ascends 0 (seats_on seats)
seats-ascend [] = tt
seats-ascend (e ∷ seats) = seat-ascends e.1.seated e.0 (seats_on seats) (seats-ascend seats)

-- a world with these pins
abbrev pinned_so : PinsView → World ℕ
pinned_so pins = record { slots = []; root = 0; pins = pins; calls = []; entries = 0; charge = None }

pub seats_same : (p q : PinsView) → ((k : ℕ) → is_seated p k ≡ is_seated q k) → seats_on p.seats ≡ seats_on q.seats
seats_same p q same =
    same-lists 0 0 (seats_on p.seats) (seats_on q.seats) (seats-ascend p.seats) (seats-ascend q.seats)
    (λ k. shown_seat (pinned_so p) k ∙ (same k ∙ sym (shown_seat (pinned_so q) k)))
