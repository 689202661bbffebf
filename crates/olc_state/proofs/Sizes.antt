-- The sizes of all nodes, by the content of each slot.
use Rattle.std.proofs.Common.{◌≡◌, ◌≢◌, ℕ, zero, suc, ◌+◌, List, [], ◌∷◌, Option, Some, None, refl, sym, ap, ◌∙◌, arith, slice_index_or}
use Rattle.node_base.specs.Form.{stated_size}
use Rattle.olc_state.specs.inner.Facts.{stored_sizes}
use Rattle.olc_state.specs.declared.stage.Stored.{Stored}

not_same : (n m : ℕ) → n ≢ m → suc n ≢ suc m
not_same n m ne e = ne (omega (arith, e))

module _ {P : Type 0} where
  -- the stated size of a slot's node
  abbrev pub size_in : Option (Stored P) → ℕ
  size_in None = 0
  size_in (Some n) = stated_size n.node.form

  abbrev pub size_at : List (Option (Stored P)) → ℕ → ℕ
  size_at slots slot = size_in (slice_index_or slots slot None)

nothing-at : (P : Type 0) (slot : ℕ) → size_at {P = P} [] slot ≡ 0
nothing-at P zero = refl
nothing-at P (suc slot) = refl

module _ {P : Type 0} where
  sizes-first : (x : Option (Stored P)) (slots : List (Option (Stored P))) → stored_sizes (x ∷ slots) ≡ size_in x + stored_sizes slots
  sizes-first None slots = omega arith
  sizes-first (Some n) slots = refl

  pub sizes_same : (before after : List (Option (Stored P))) → ((o : ℕ) → size_at after o ≡ size_at before o) → stored_sizes after ≡ stored_sizes before
  sizes_same [] [] same = refl
  sizes_same [] (y ∷ after) same =
      let rest : stored_sizes after ≡ 0 = sizes_same [] after (λ o. same (suc o) ∙ sym (nothing-at P o)) in
      let first : size_in y ≡ 0 = same 0 in
      let is = sizes-first y after in omega arith
  sizes_same (x ∷ before) [] same =
      let rest : 0 ≡ stored_sizes before = sizes_same before [] (λ o. nothing-at P o ∙ same (suc o)) in
      let first : 0 ≡ size_in x = same 0 in
      let is = sizes-first x before in omega arith
  sizes_same (x ∷ before) (y ∷ after) same =
      let rest : stored_sizes after ≡ stored_sizes before = sizes_same before after (λ o. same (suc o)) in
      let first : size_in y ≡ size_in x = same 0 in
      let is = sizes-first x before in
      let was = sizes-first y after in omega arith

  -- in one slot there is so much more
  pub sizes_more : (before after : List (Option (Stored P))) (slot more : ℕ) → size_at after slot ≡ size_at before slot + more
      → ((o : ℕ) → o ≢ slot → size_at after o ≡ size_at before o) → stored_sizes after ≡ stored_sizes before + more
  sizes_more [] [] zero more here others = here
  sizes_more [] [] (suc slot) more here others = here
  sizes_more [] (y ∷ after) zero more here others =
      let rest : stored_sizes after ≡ 0 = sizes_same [] after (λ o. others (suc o) (λ e. absurd (omega (arith, e))) ∙ sym (nothing-at P o)) in
      let first : size_in y ≡ 0 + more = here in
      let is = sizes-first y after in omega arith
  sizes_more [] (y ∷ after) (suc slot) more here others =
      let rest : stored_sizes after ≡ 0 + more = sizes_more [] after slot more (here ∙ ap (λ n. n + more) (sym (nothing-at P slot))) (λ o ne. others (suc o) (not_same o slot ne) ∙ sym (nothing-at P o)) in
      let first : size_in y ≡ 0 = others 0 (λ e. absurd (omega (arith, e))) in
      let is = sizes-first y after in omega arith
  sizes_more (x ∷ before) [] zero more here others =
      let rest : 0 ≡ stored_sizes before = sizes_same before [] (λ o. nothing-at P o ∙ others (suc o) (λ e. absurd (omega (arith, e)))) in
      let first : 0 ≡ size_in x + more = here in
      let is = sizes-first x before in omega arith
  sizes_more (x ∷ before) [] (suc slot) more here others =
      let rest : 0 ≡ stored_sizes before + more = sizes_more before [] slot more (nothing-at P slot ∙ here) (λ o ne. nothing-at P o ∙ others (suc o) (not_same o slot ne)) in
      let first : 0 ≡ size_in x = others 0 (λ e. absurd (omega (arith, e))) in
      let is = sizes-first x before in omega arith
  sizes_more (x ∷ before) (y ∷ after) zero more here others =
      let rest : stored_sizes after ≡ stored_sizes before = sizes_same before after (λ o. others (suc o) (λ e. absurd (omega (arith, e)))) in
      let first : size_in y ≡ size_in x + more = here in
      let is = sizes-first x before in
      let was = sizes-first y after in omega arith
  sizes_more (x ∷ before) (y ∷ after) (suc slot) more here others =
      let rest : stored_sizes after ≡ stored_sizes before + more = sizes_more before after slot more here (λ o ne. others (suc o) (not_same o slot ne)) in
      let first : size_in y ≡ size_in x = others 0 (λ e. absurd (omega (arith, e))) in
      let is = sizes-first x before in
      let was = sizes-first y after in omega arith
