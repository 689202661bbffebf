-- Children that move from a row to the cells of their bytes, and cells that are all empty.
use Rattle.std.proofs.Common.{◌≡◌, ◌≢◌, ℕ, zero, suc, ◌+◌, ◌<◌, ◌≤◌, List, [], ◌∷◌, length, take, get_or, slice_get, replicate, Option, Some, None, refl, ap, sym, ◌∙◌, arith, inl, inr}
use Rattle.std.proofs.lemmas.Bool.{cases_eq}
use Rattle.std.proofs.lemmas.List.{get_or-take}
use Rattle.std.proofs.lemmas.Option.{slice_get-get_or}
use Rattle.node_base.specs.inner.Places.{in_cell}

-- no two bytes of so many are the same
abbrev pub Distinct : List ℕ → ℕ → Type 0
Distinct bytes n = (i j : ℕ) → i < j → j < n → get_or bytes i 0 ≢ get_or bytes j 0

module _ {C : Type 0} where
  -- the children of a row from a place on are in the cells of their bytes, and the other cells are as they were
  pub record IsMoved (bytes : List ℕ) (row : List C) (before now : List (Option C)) (n : ℕ) : Type 0 where
    pub moved : (i : ℕ) → n ≤ i → i < length row → in_cell now (get_or bytes i 0) ≡ slice_get row i
    pub others : (b : ℕ) → ((i : ℕ) → n ≤ i → i < length row → get_or bytes i 0 ≢ b) → in_cell now b ≡ in_cell before b

  module _ (bytes : List ℕ) (row : List C) (before now : List (Option C)) (apart : Distinct bytes (length row)) where
    pub moved-none : now ≡ before → IsMoved bytes row before now (length row)
    moved-none same =
        record {
          moved = λ i l m. absurd (omega (arith, l, m));
          others = λ b _. ap (λ x. in_cell x b) same;
        }

    -- the cell of the next byte is as it was
    pub next-as_before : (m n : ℕ) → n ≡ m + 1 → n ≤ length row → IsMoved bytes row before now n → in_cell now (get_or bytes m 0) ≡ in_cell before (get_or bytes m 0)
    next-as_before m n is inside h = h.others (get_or bytes m 0) (λ i l k e. apart m i (omega arith) k (sym e))

    pub moved-next : (new : List (Option C)) (m n : ℕ) → n ≡ m + 1 → n ≤ length row → IsMoved bytes row before now n → in_cell new (get_or bytes m 0) ≡ slice_get row m
        → ((b : ℕ) → b ≢ get_or bytes m 0 → in_cell new b ≡ in_cell now b) → IsMoved bytes row before new m
    moved-next new m n is inside h here kept =
        record {
          moved = λ i l k. elim (cases_eq i m) [
            | inl same ↦ rw same here
            | inr other ↦ kept (get_or bytes i 0) (λ e. apart m i (omega arith) k (sym e)) ∙ h.moved i (omega arith) k
          ];
          others = λ b away. kept b (λ e. away m (omega arith) (omega arith) (sym e)) ∙ h.others b (λ i l k. away i (omega arith) k);
        }

  -- what was popped from a row of which so many are left
  pub popped : (row left : List C) (m n : ℕ) (c : C) → left ≡ take n row → n ≡ m + 1 → n ≤ length row → c ≡ get_or left m c → slice_get row m ≡ Some c
  popped row left m n c is one inside last =
      slice_get-get_or row m c (omega arith) ∙ ap Some (sym (last ∙ ap (λ x. get_or x m c) is ∙ get_or-take n row m c (omega arith)))

  -- cells without a child are as new
  pub all-empty : (n : ℕ) (slots : List (Option C)) → length slots ≡ n → ((b : ℕ) → in_cell slots b ≡ None) → slots ≡ replicate n None
  all-empty zero [] l h = refl
  all-empty zero (o ∷ slots) l h = absurd (omega arith)
  all-empty (suc n) [] l h = absurd (omega arith)
  all-empty (suc n) (o ∷ slots) l h = ap (λ x. x ∷ slots) (h 0) ∙ ap (λ x. None ∷ x) (all-empty n slots (omega arith) (λ b. h (suc b)))
