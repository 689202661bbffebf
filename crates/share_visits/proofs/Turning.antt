-- The slots that a seat has, once some of them were turned: the first are last then.
use Rattle.std.proofs.Common.{◌≡◌, ℕ, ◌+◌, ◌≤◌, List, [], ◌∷◌, ◌++◌, length, append-nil, append_assoc, refl, sym, ap, ◌∙◌, arith}
use Rattle.std.proofs.lemmas.List.{length-append}
use Rattle.atomic_table.specs.Table.{turned}

abbrev Slots : Type 0 → Type 0
Slots S = List (ℕ × S)

module _ {S : Type 0} where
  -- so many of these are behind the others
  pub record Behind (n : ℕ) (first others now : Slots S) : Type 0 where
    pub done : Slots S
    pub left : Slots S
    pub both : first ≡ done ++ left
    pub many : length done ≡ n
    pub is : now ≡ left ++ (others ++ done)

  -- so many were turned, however the slots are parted
  abbrev pub Turned : ℕ → Slots S → Slots S → Type 0
  Turned n start now = (first others : Slots S) → start ≡ first ++ others → n ≤ length first → Behind n first others now

  pub turned_none : (start : Slots S) → Turned 0 start start
  turned_none start first others is few =
      record { done = []; left = first; both = refl; many = refl; is = is ∙ ap (λ (l : Slots S). first ++ l) (sym (append-nil others)) }

  one_more : (n : ℕ) (first others now done left : Slots S) → n + 1 ≤ length first → first ≡ done ++ left → length done ≡ n → now ≡ left ++ (others ++ done) → Behind (n + 1) first others (turned now)
  one_more n first others now done [] few both many is =
      let long = length-append done [] in let same = ap (λ (l : Slots S). length l) both in absurd (omega (arith, few, long, same, many))
  one_more n first others now done (x ∷ left) few both many is =
      let long = length-append done (x ∷ []) in
      record {
        done = done ++ x ∷ [];
        left = left;
        both = both ∙ sym (append_assoc done (x ∷ []) left);
        many = omega (arith, long, many);
        is = ap (λ (l : Slots S). turned l) is ∙ (append_assoc left (others ++ done) (x ∷ []) ∙ ap (λ (l : Slots S). left ++ l) (append_assoc others done (x ∷ [])));
      }

  pub turned_more : (n : ℕ) (start now next : Slots S) → Turned n start now → next ≡ turned now → Turned (n + 1) start next
  turned_more n start now next h turns first others is few =
      let b = h first others is (omega (arith, few)) in
      let more = one_more n first others now b.done b.left few b.both b.many b.is in
      record { done = more.done; left = more.left; both = more.both; many = more.many; is = turns ∙ more.is }

  all_done : (n : ℕ) (first others now done left : Slots S) → length first ≡ n → first ≡ done ++ left → length done ≡ n → now ≡ left ++ (others ++ done) → now ≡ others ++ first
  all_done n first others now done [] long both many is = is ∙ ap (λ (l : Slots S). others ++ l) (sym (both ∙ append-nil done))
  all_done n first others now done (x ∷ left) long both many is =
      let sum = length-append done (x ∷ left) in let same = ap (λ (l : Slots S). length l) both in absurd (omega (arith, long, sum, same, many))

  pub turned_all : (n : ℕ) (start now : Slots S) → Turned n start now → (first others : Slots S) → start ≡ first ++ others → length first ≡ n → now ≡ others ++ first
  turned_all n start now h first others is long =
      let b = h first others is (omega (arith, long)) in
      all_done n first others now b.done b.left long b.both b.many b.is
