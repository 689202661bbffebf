-- What a scan writes to a buffer.
use Rattle.std.proofs.Common.{◌≡◌, ℕ, ◌%◌, ◌^◌, ◌<◌, ◌≤◌, min, zero, suc, [], ◌∷◌, ◌++◌, length, get_or, set, take, drop, refl, ap, sym, ◌∙◌, arith}
use Rattle.std.proofs.lemmas.List.{take-map, take_at, drop_at, take-append-le, take-take, take_min, length-take-le, length-map, length-append}
use Rattle.spec_map.specs.Map.{Pairs}
use Rattle.congee_table.proofs.GroupLaws.{ids}

-- one pair more that is left its lower half
pub ids_more : (i : ℕ) (es : Pairs ℕ) (d : ℕ × ℕ) → i < length es
    → set (ids (take i es) ++ drop i es) i ((get_or (ids (take i es) ++ drop i es) i d).0 % 2 ^ 32, (get_or (ids (take i es) ++ drop i es) i d).1)
    ≡ ids (take (suc i) es) ++ drop (suc i) es
ids_more i [] d l = absurd (omega arith)
ids_more zero (e ∷ es) d l = refl
ids_more (suc i) (e ∷ es) d l = ap (λ (xs : Pairs ℕ). (e.0 % 2 ^ 32, e.1) ∷ xs) (ids_more i es d (omega arith))

-- The first n pairs of a part were written, and left their lower halves.
module _ (buffer written kept part rows : Pairs ℕ) (n : ℕ) (is : ids part ≡ rows)
    (count : n ≡ min (length buffer) (length part)) (is_written : written ≡ take n part ++ drop n buffer) (is_kept : kept ≡ ids (take n written)) where
  pub kept_range : (n ≡ min (length buffer) (length rows)) × (kept ++ drop n written ≡ take n rows ++ drop n buffer)
  kept_range =
      let long = length-take-le n part (omega arith) in
      let front = ap (take n) is_written ∙ take_at (take n part) (drop n buffer) n long in
      let back = ap (drop n) is_written ∙ drop_at (take n part) (drop n buffer) n long in
      let front' = is_kept ∙ ap ids front ∙ sym (take-map (λ (e : ℕ × ℕ). (e.0 % 2 ^ 32, e.1)) n part) ∙ ap (take n) is in
      (omega (arith, ap length (sym is) ∙ length-map part (λ (e : ℕ × ℕ). (e.0 % 2 ^ 32, e.1))), λ i. front' i ++ back i)

-- A list of its own is cut to the rows that were written to it.
pub cut_to_rows : (limit len n : ℕ) (before written rest rows items : Pairs ℕ) → len ≡ limit → length before ≡ len → n ≡ min (length before) (length rows)
    → written ≡ take n rows ++ drop n before → items ≡ take n (take len (written ++ rest)) → items ≡ take limit rows
cut_to_rows limit len n before written rest rows items room long count is_written is_cut =
    let front = length-take-le n rows (omega arith) in
    let within : n ≤ length written = omega (arith, front, ap length is_written ∙ length-append (take n rows) (drop n before)) in
    let cut : n ≡ min limit (length rows) = omega arith in
    is_cut ∙ take-take n len (written ++ rest) (omega arith) ∙ take-append-le n written rest within ∙ ap (take n) is_written ∙ take_at (take n rows) (drop n before) n front
    ∙ ap (λ (k : ℕ). take k rows) cut ∙ take_min limit rows
