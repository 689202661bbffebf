-- The rows of a group, as a part of the second index.
use Rattle.std.proofs.Common.{◌≡◌, ◌≢◌, ℕ, ◌+◌, ◌%◌, ◌^◌, ◌<◌, ◌≤◌, Bool, true, false, if◌then◌else◌, ◌==◌, ◌&&◌, nat_le, [], ◌∷◌, Option, Some, None, map, refl, ap, sym, subst, ◌∙◌, arith, inl, inr}
use Rattle.std.proofs.lemmas.Option.{some_pair_parts, none-some}
use Rattle.std.proofs.lemmas.Bool.{lt-ltb, le-ltb, lt-leb, le-leb, eq-eqb, ne_eqb, cases_eq, cases_lt}
use Rattle.spec_map.specs.Map.{Pairs, lookup, between, Rises}
use Rattle.spec_map.proofs.MapLaws.{Rises-wider, lookup-below, lookup-between_inside, lookup-between_outside, same_from_lookups}
use Rattle.spec_map.proofs.JoinLaws.{lookup-above}
use Rattle.congee_table.specs.Rows.{Rows, group_rows}
use Rattle.congee_table.specs.Index.{joined_halves, rows_of, AreIndexes}
use Rattle.congee_table.proofs.IndexLaws.{Serves, serves, unserved}

-- the pairs of a range ascend within it
Rises-to : (low high s e : ℕ) (es : Pairs ℕ) → Rises low high es → Rises low e (between es s e)
Rises-to low high s e [] h = tt
Rises-to low high s e (x ∷ xs) h =
    let rest = Rises-to (x.0 + 1) high s e xs h.2 in
    let wider = Rises-wider (x.0 + 1) e low e (between xs s e) (omega (arith, h.0)) (omega arith) rest in
    elim (cases_lt x.0 s) [
      | inl less ↦ rw (lt-leb s x.0 less) wider
      | inr from ↦ elim (cases_lt x.0 e) [
        | inl below ↦ rw (le-leb s x.0 from, lt-ltb x.0 e below) (h.0, below, rest)
        | inr past ↦ rw (le-leb s x.0 from, le-ltb x.0 e past) wider
      ]
    ]

Rises-inside : (low high s e : ℕ) (es : Pairs ℕ) → Rises low high es → Rises s e (between es s e)
Rises-inside low high s e [] h = tt
Rises-inside low high s e (x ∷ xs) h =
    elim (cases_lt x.0 s) [
      | inl less ↦ rw (lt-leb s x.0 less) (Rises-inside (x.0 + 1) high s e xs h.2)
      | inr from ↦ elim (cases_lt x.0 e) [
        | inl below ↦ rw (le-leb s x.0 from, lt-ltb x.0 e below) (from, below, Rises-to (x.0 + 1) high s e xs h.2)
        | inr past ↦ rw (le-leb s x.0 from, le-ltb x.0 e past) (Rises-inside (x.0 + 1) high s e xs h.2)
      ]
    ]

-- the ids and values of numbers of one group
abbrev pub ids : Pairs ℕ → Pairs ℕ
ids es = map (λ e. (e.0 % 2 ^ 32, e.1)) es

Rises-ids : (g a : ℕ) (es : Pairs ℕ) → Rises (joined_halves g a) (joined_halves g (2 ^ 32)) es → Rises a (2 ^ 32) (ids es)
Rises-ids g a [] h = tt
Rises-ids g a (x ∷ xs) h =
    let next : x.0 + 1 ≡ joined_halves g (x.0 % 2 ^ 32 + 1) = omega (arith, h.0, h.1) in
    (omega (arith, h.0, h.1), omega arith, Rises-ids g (x.0 % 2 ^ 32 + 1) xs (subst (λ n. Rises n (joined_halves g (2 ^ 32)) xs) next h.2))

lookup-ids : (g a k : ℕ) (es : Pairs ℕ) → Rises (joined_halves g a) (joined_halves g (2 ^ 32)) es → k < 2 ^ 32 → lookup (ids es) k ≡ lookup es (joined_halves g k)
lookup-ids g a k [] h small = refl
lookup-ids g a k (x ∷ xs) h small =
    let next : x.0 + 1 ≡ joined_halves g (x.0 % 2 ^ 32 + 1) = omega (arith, h.0, h.1) in
    elim (cases_eq x.0 (joined_halves g k)) [
      | inl same ↦ rw (eq-eqb x.0 (joined_halves g k) same, eq-eqb (x.0 % 2 ^ 32) k (omega arith)) refl
      | inr other ↦
          let apart : x.0 % 2 ^ 32 ≢ k = λ e. other (omega (arith, h.0, h.1)) in
          rw (ne_eqb x.0 (joined_halves g k) other, ne_eqb (x.0 % 2 ^ 32) k apart)
          (lookup-ids g (x.0 % 2 ^ 32 + 1) k xs (subst (λ n. Rises n (joined_halves g (2 ^ 32)) xs) next h.2) small)
    ]

-- a row or none, by a test
kept : (b : Bool) (x : ℕ × (ℕ × ℕ)) (rest : Rows) (k : ℕ) → x.0 ≡ k → lookup (map (λ e. (e.0, e.1.1)) rest) k ≡ None
    → lookup (map (λ e. (e.0, e.1.1)) (if b then x ∷ rest else rest)) k ≡ (if b then Some x.1.1 else None)
kept true x rest k same none = rw (eq-eqb x.0 k same) refl
kept false x rest k same none = none

passed : (b : Bool) (x : ℕ × (ℕ × ℕ)) (rest : Rows) (k : ℕ) → x.0 ≢ k
    → lookup (map (λ e. (e.0, e.1.1)) (if b then x ∷ rest else rest)) k ≡ lookup (map (λ e. (e.0, e.1.1)) rest) k
passed true x rest k other = rw (ne_eqb x.0 k other) refl
passed false x rest k other = refl

Rises-kept : (b : Bool) (low high : ℕ) (x : ℕ × (ℕ × ℕ)) (rest : Rows) → low ≤ x.0 → x.0 < high → Rises (x.0 + 1) high (map (λ e. (e.0, e.1.1)) rest)
    → Rises low high (map (λ e. (e.0, e.1.1)) (if b then x ∷ rest else rest))
Rises-kept true low high x rest l m h = (l, m, h)
Rises-kept false low high x rest l m h = Rises-wider (x.0 + 1) high low high (map (λ e. (e.0, e.1.1)) rest) (omega arith) (omega arith) h

module _ (g from : ℕ) where
  -- the value of a row of the group from this id on
  abbrev of_group : ℕ → Option (ℕ × ℕ) → Option ℕ
  of_group k None = None
  of_group k (Some e) = if (e.0 == g && nat_le from k) then Some e.1 else None

  Rises-group_rows : (low high : ℕ) (t : Rows) → Rises low high t → Rises low high (group_rows t g from)
  Rises-group_rows low high [] h = tt
  Rises-group_rows low high (x ∷ xs) h = Rises-kept (x.1.0 == g && nat_le from x.0) low high x _ h.0 h.1 (Rises-group_rows (x.0 + 1) high xs h.2)

  lookup-group_rows : (low high : ℕ) (t : Rows) (k : ℕ) → Rises low high t → lookup (group_rows t g from) k ≡ of_group k (lookup t k)
  lookup-group_rows low high [] k h = refl
  lookup-group_rows low high (x ∷ xs) k h =
      let rest = lookup-group_rows (x.0 + 1) high xs k h.2 in
      elim (cases_eq x.0 k) [
        | inl same ↦
            let none = rest ∙ ap (of_group k) (lookup-below (x.0 + 1) high xs k h.2 (omega arith)) in
            rw (eq-eqb x.0 k same) (rw (← same) (kept (x.1.0 == g && nat_le from x.0) x _ x.0 refl (ap (lookup (group_rows xs g from)) same ∙ none)))
        | inr other ↦ rw (ne_eqb x.0 k other) (passed (x.1.0 == g && nat_le from x.0) x _ k other ∙ rest)
      ]

  -- a row before this id doesn't count
  before_from : (k : ℕ) (found : Option (ℕ × ℕ)) → k < from → of_group k found ≡ None
  before_from k None less = refl
  before_from k (Some e) less =
      elim (cases_eq e.0 g) [
        | inl same ↦ rw (eq-eqb e.0 g same, lt-leb from k less) refl
        | inr other ↦ rw (ne_eqb e.0 g other) refl
      ]

  -- from there on the second index has the values of the group's rows
  served : (t : Rows) (second : Pairs ℕ) (k : ℕ) → Serves t second → k < 2 ^ 32 → from ≤ k → lookup second (joined_halves g k) ≡ of_group k (lookup t k)
  served t second k h small l = by_row (lookup t k) refl where
    by_row : (found : Option (ℕ × ℕ)) → lookup t k ≡ found → lookup second (joined_halves g k) ≡ of_group k found
    by_row None none = unserved t second g k h small (λ w is. none-some (g, w) (sym none ∙ is))
    by_row (Some (group, value)) is =
        elim (cases_eq group g) [
          | inl same ↦ rw (eq-eqb group g same, le-leb from k l) (ap (λ n. lookup second (joined_halves n k)) (sym same) ∙ h.has k group value is)
          | inr other ↦
              rw (ne_eqb group g other)
              (unserved t second g k h small (λ w is'. other (some_pair_parts group g value w (sym is ∙ is')).0))
        ]

  module _ (first second : Pairs ℕ) (h : AreIndexes first second) (small_from : from < 2 ^ 32) where
    scanned : (k : ℕ) → lookup (ids (between second (joined_halves g from) (joined_halves g (2 ^ 32)))) k ≡ lookup (group_rows (rows_of first) g from) k
    scanned k =
        let part = between second (joined_halves g from) (joined_halves g (2 ^ 32)) in
        let inside = Rises-inside 0 (2 ^ 64) (joined_halves g from) (joined_halves g (2 ^ 32)) second h.numbers in
        let rows = lookup-group_rows 0 (2 ^ 32) (rows_of first) k h.ids in
        elim (cases_lt k (2 ^ 32)) [
          | inl small ↦
              lookup-ids g from k part inside small ∙
              elim (cases_lt k from) [
                | inl less ↦
                    lookup-between_outside second (joined_halves g from) (joined_halves g (2 ^ 32)) (joined_halves g k) (inl (omega arith))
                    ∙ sym (rows ∙ before_from k (lookup (rows_of first) k) less)
                | inr on ↦
                    lookup-between_inside second (joined_halves g from) (joined_halves g (2 ^ 32)) (joined_halves g k) (omega arith) (omega arith)
                    ∙ served (rows_of first) second k (serves first second h) small on ∙ sym rows
              ]
          | inr more ↦
              lookup-above from (2 ^ 32) (ids part) k (Rises-ids g from part inside) more
              ∙ sym (lookup-above 0 (2 ^ 32) (group_rows (rows_of first) g from) k (Rises-group_rows 0 (2 ^ 32) (rows_of first) h.ids) more)
        ]

    scan_whole : ids (between second (joined_halves g from) (joined_halves g (2 ^ 32))) ≡ group_rows (rows_of first) g from
    scan_whole =
        let part = between second (joined_halves g from) (joined_halves g (2 ^ 32)) in
        let inside = Rises-inside 0 (2 ^ 64) (joined_halves g from) (joined_halves g (2 ^ 32)) second h.numbers in
        same_from_lookups from (2 ^ 32) 0 (2 ^ 32) (ids part) (group_rows (rows_of first) g from)
        (Rises-ids g from part inside) (Rises-group_rows 0 (2 ^ 32) (rows_of first) h.ids) scanned

    pub scan_is : (start last : ℕ) → start ≡ joined_halves g from → last ≡ joined_halves g 4294967295 → ids (between second start (last + 1)) ≡ group_rows (rows_of first) g from
    scan_is start last start_is last_is =
        let after : last + 1 ≡ joined_halves g (2 ^ 32) = omega arith in
        (λ i. ids (between second (start_is i) (after i))) ∙ scan_whole
