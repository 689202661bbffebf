-- How each call keeps the indexes of a table in agreement with its rows.
use Rattle.std.proofs.Common.{◌≡◌, ◌≢◌, ℕ, ◌/◌, ◌%◌, ◌^◌, ◌<◌, Option, Some, None, Result, Ok, Err, OnErr, refl, ap, sym, subst, ◌∙◌, arith, inl, inr}
use Rattle.std.proofs.lemmas.Option.{same_Some, some_pair_parts, none-some}
use Rattle.std.proofs.lemmas.Bool.{cases_eq, cases_lt}
use Rattle.spec_map.specs.Map.{Pairs, lookup, put, without, Rises}
use Rattle.spec_map.proofs.MapLaws.{Rises-put, Rises-without, lookup-put_same, lookup-put_other, lookup-without_same, lookup-without_other, same_from_lookups}
use Rattle.spec_map.proofs.JoinLaws.{lookup-above}
use Rattle.congee_table.specs.Rows.{Rows, IsInGroup}
use Rattle.congee_table.specs.Index.{joined_halves, rows_of, AreIndexes}
use Rattle.congee_table.proofs.RowsLaws.{no_row, row_of_number, number_of_row, rows_of-put_joined, rows_of-without}

-- the second index agrees with the rows
pub record Serves (t : Rows) (second : Pairs ℕ) : Type 0 where
  pub has : (id group value : ℕ) → lookup t id ≡ Some (group, value) → lookup second (joined_halves group id) ≡ Some value
  pub only : (number value : ℕ) → lookup second number ≡ Some value → lookup t (number % 2 ^ 32) ≡ Some (number / 2 ^ 32, value)

pub serves : (first second : Pairs ℕ) → AreIndexes first second → Serves (rows_of first) second
serves first second h = record { has = h.agree.in_second; only = h.agree.only_second }

indexes_of : (first second : Pairs ℕ) → Rises 0 (2 ^ 32) (rows_of first) → Rises 0 (2 ^ 64) second → Serves (rows_of first) second → AreIndexes first second
indexes_of first second ids numbers h = record {
  ids = ids;
  numbers = numbers;
  agree = record {
    in_first = λ id g v is. number_of_row first id g v is;
    in_second = h.has;
    only_first = λ id n is. row_of_number first id n is;
    only_second = h.only;
  };
}

-- an id that is present has 32 bits
small_id : (t : Rows) (id : ℕ) (e : ℕ × ℕ) → Rises 0 (2 ^ 32) t → lookup t id ≡ Some e → id < 2 ^ 32
small_id t id e h is =
    elim (cases_lt id (2 ^ 32)) [
      | inl less ↦ less
      | inr more ↦ absurd (let none = lookup-above 0 (2 ^ 32) t id h more in cc)
    ]

none_at : (found : Option ℕ) → ((w : ℕ) → found ≢ Some w) → found ≡ None
none_at None never = refl
none_at (Some w) never = absurd (never w refl)

-- where no row is in a group, its number isn't in the second index
pub unserved : (t : Rows) (second : Pairs ℕ) (g id : ℕ) → Serves t second → id < 2 ^ 32 → ((w : ℕ) → lookup t id ≢ Some (g, w)) → lookup second (joined_halves g id) ≡ None
unserved t second g id h small never =
    none_at (lookup second (joined_halves g id)) (λ w is.
    let high : joined_halves g id / 2 ^ 32 ≡ g = omega arith in
    let low : joined_halves g id % 2 ^ 32 ≡ id = omega arith in
    never w (rw (high, low) at (h.only (joined_halves g id) w is)))

module _ (t : Rows) (second second' : Pairs ℕ) (id : ℕ) (ids : Rises 0 (2 ^ 32) t) (small : id < 2 ^ 32) (h : Serves t second)
    (others : (k : ℕ) → k % 2 ^ 32 ≢ id → lookup second' k ≡ lookup second k) where
  -- the second index after a row was put
  serves_put : (g v : ℕ) → lookup second' (joined_halves g id) ≡ Some v → ((h : ℕ) → h ≢ g → lookup second' (joined_halves h id) ≡ None) → Serves (put t id (g, v)) second'
  serves_put g v here gone = record {
    has = λ k group value is.
        elim (cases_eq k id) [
          | inl same ↦
              let is' = ap (lookup (put t id (g, v))) (sym same) ∙ is in
              let both = some_pair_parts g group v value (sym (lookup-put_same t id (g, v)) ∙ is') in
              rw (same, ← both.0, ← both.1) here
          | inr other ↦
              let is' = sym (lookup-put_other t id (g, v) k other) ∙ is in
              let k_small = small_id t k (group, value) ids is' in
              others (joined_halves group k) (omega arith) ∙ h.has k group value is'
        ];
    only = λ number value is.
        elim (cases_eq (number % 2 ^ 32) id) [
          | inl same ↦
              elim (cases_eq (number / 2 ^ 32) g) [
                | inl here' ↦
                    let number_is : number ≡ joined_halves g id = omega arith in
                    let found : Some v ≡ Some value = sym here ∙ rw number_is at is in
                    let value_is : v ≡ value = cc in
                    rw (same, here', ← value_is) (lookup-put_same t id (g, v))
                | inr elsewhere ↦
                    let number_is : number ≡ joined_halves (number / 2 ^ 32) id = omega arith in
                    let none = gone (number / 2 ^ 32) elsewhere in
                    let none' : lookup second' number ≡ None = ap (lookup second') number_is ∙ none in
                    absurd (cc)
              ]
          | inr other ↦ lookup-put_other t id (g, v) (number % 2 ^ 32) other ∙ h.only number value (sym (others number other) ∙ is)
        ];
  }

  -- and after one was removed
  serves_without : ((h : ℕ) → lookup second' (joined_halves h id) ≡ None) → Serves (without t id) second'
  serves_without gone = record {
    has = λ k group value is.
        elim (cases_eq k id) [
          | inl same ↦
              let is' = ap (lookup (without t id)) (sym same) ∙ is in
              absurd (let none = lookup-without_same 0 (2 ^ 32) t id ids in cc)
          | inr other ↦
              let is' = sym (lookup-without_other t id k other) ∙ is in
              let k_small = small_id t k (group, value) ids is' in
              others (joined_halves group k) (omega arith) ∙ h.has k group value is'
        ];
    only = λ number value is.
        elim (cases_eq (number % 2 ^ 32) id) [
          | inl same ↦
              let number_is : number ≡ joined_halves (number / 2 ^ 32) id = omega arith in
              let none' : lookup second' number ≡ None = ap (lookup second') number_is ∙ gone (number / 2 ^ 32) in
              absurd (cc)
          | inr other ↦ lookup-without_other t id (number % 2 ^ 32) other ∙ h.only number value (sym (others number other) ∙ is)
        ];
  }

-- there is no row of the id
pub not_in : (first : Pairs ℕ) (id g : ℕ) → lookup first id ≡ None → ¬ IsInGroup (rows_of first) id g
not_in first id g none = λ at. none-some (g, at.0) (sym (no_row first id none) ∙ at.1)

module _ (first second : Pairs ℕ) (id : ℕ) (h : AreIndexes first second) (small : id < 2 ^ 32) where
  -- the numbers of other ids are unchanged
  elsewhere : (g k : ℕ) → k % 2 ^ 32 ≢ id → k ≢ joined_halves g id
  elsewhere g k other = λ e. other (omega arith)

  -- no row of the id is in another group than that of its number
  alone : (n g : ℕ) → lookup first id ≡ Some n → g ≢ n / 2 ^ 32 → (w : ℕ) → lookup (rows_of first) id ≢ Some (g, w)
  alone n g is other w found =
      let both = some_pair_parts (n / 2 ^ 32) g (n % 2 ^ 32) w (sym (row_of_number first id n is) ∙ found) in
      other (sym both.0)

  -- a row is put that was in no other group
  indexes_put : (g v : ℕ) → g < 2 ^ 32 → v < 2 ^ 32 → ((n : ℕ) → lookup first id ≡ Some n → n / 2 ^ 32 ≡ g)
      → AreIndexes (put first id (joined_halves g v)) (put second (joined_halves g id) v)
  indexes_put g v small_g small_v stays =
      let second' = put second (joined_halves g id) v in
      let never : (k : ℕ) → k ≢ g → (w : ℕ) → lookup (rows_of first) id ≢ Some (k, w) = λ k other w found.
      let is = number_of_row first id k w found in
      let both = some_pair_parts k (joined_halves k w / 2 ^ 32) w (joined_halves k w % 2 ^ 32) (sym found ∙ row_of_number first id (joined_halves k w) is) in
      other (both.0 ∙ stays (joined_halves k w) is)
      in
      let after = serves_put (rows_of first) second second' id h.ids small (serves first second h)
      (λ k other. lookup-put_other second (joined_halves g id) v k (elsewhere g k other))
      g v
      (lookup-put_same second (joined_halves g id) v)
      (λ k other. lookup-put_other second (joined_halves g id) v (joined_halves k id) (omega arith) ∙ unserved (rows_of first) second k id (serves first second h) small (never k other))
      in
      let rows = rows_of-put_joined first id g v small_v in
      indexes_of (put first id (joined_halves g v)) second'
      (subst (Rises 0 (2 ^ 32)) (sym rows) (Rises-put 0 (2 ^ 32) (rows_of first) id (g, v) h.ids (omega arith) small))
      (Rises-put 0 (2 ^ 64) second (joined_halves g id) v h.numbers (omega arith) (omega arith))
      (subst (λ (t : Rows). Serves t second') (sym rows) after)

  -- a row is put that was in another group
  indexes_moved : (g v n : ℕ) → g < 2 ^ 32 → v < 2 ^ 32 → lookup first id ≡ Some n → n / 2 ^ 32 ≢ g
      → AreIndexes (put first id (joined_halves g v)) (without (put second (joined_halves g id) v) (joined_halves (n / 2 ^ 32) id))
  indexes_moved g v n small_g small_v is other =
      let between = put second (joined_halves g id) v in
      let old = joined_halves (n / 2 ^ 32) id in
      let second' = without between old in
      let ascends = Rises-put 0 (2 ^ 64) second (joined_halves g id) v h.numbers (omega arith) (omega arith) in
      let after = serves_put (rows_of first) second second' id h.ids small (serves first second h)
      (λ k far. lookup-without_other between old k (elsewhere (n / 2 ^ 32) k far) ∙ lookup-put_other second (joined_halves g id) v k (elsewhere g k far))
      g v
      (lookup-without_other between old (joined_halves g id) (omega arith) ∙ lookup-put_same second (joined_halves g id) v)
      (λ k far. elim (cases_eq k (n / 2 ^ 32)) [
        | inl here ↦ rw here (lookup-without_same 0 (2 ^ 64) between old ascends)
        | inr apart ↦
            lookup-without_other between old (joined_halves k id) (omega arith) ∙ lookup-put_other second (joined_halves g id) v (joined_halves k id) (omega arith)
            ∙ unserved (rows_of first) second k id (serves first second h) small (alone n k is apart)
      ])
      in
      let rows = rows_of-put_joined first id g v small_v in
      indexes_of (put first id (joined_halves g v)) second'
      (subst (Rises 0 (2 ^ 32)) (sym rows) (Rises-put 0 (2 ^ 32) (rows_of first) id (g, v) h.ids (omega arith) small))
      (Rises-without 0 (2 ^ 64) between old ascends)
      (subst (λ (t : Rows). Serves t second') (sym rows) after)

  -- a new row is put
  pub indexes_new : (g v : ℕ) → g < 2 ^ 32 → v < 2 ^ 32 → lookup first id ≡ None → AreIndexes (put first id (joined_halves g v)) (put second (joined_halves g id) v)
  indexes_new g v small_g small_v none = indexes_put g v small_g small_v (λ n is. absurd (none-some n (sym none ∙ is)))

  -- a row is replaced
  pub indexes_replaced : (second' : Pairs ℕ) (g v n : ℕ) → g < 2 ^ 32 → v < 2 ^ 32 → lookup first id ≡ Some n
      → (n / 2 ^ 32 ≡ g → second' ≡ put second (joined_halves g id) v)
      → (n / 2 ^ 32 ≢ g → second' ≡ without (put second (joined_halves g id) v) (joined_halves (n / 2 ^ 32) id))
      → AreIndexes (put first id (joined_halves g v)) second'
  indexes_replaced second' g v n small_g small_v is stays moves =
      elim (cases_eq (n / 2 ^ 32) g) [
        | inl same ↦
            let same_group = λ (m : ℕ) (is' : lookup first id ≡ Some m). ap (λ (k : ℕ). k / 2 ^ 32) (same_Some m n (sym is' ∙ is)) ∙ same in
            rw (stays same) (indexes_put g v small_g small_v same_group)
        | inr other ↦ rw (moves other) (indexes_moved g v n small_g small_v is other)
      ]

  -- a row is removed
  pub indexes_without : (n : ℕ) → lookup first id ≡ Some n → AreIndexes (without first id) (without second (joined_halves (n / 2 ^ 32) id))
  indexes_without n is =
      let old = joined_halves (n / 2 ^ 32) id in
      let second' = without second old in
      let after = serves_without (rows_of first) second second' id h.ids small (serves first second h)
      (λ k far. lookup-without_other second old k (elsewhere (n / 2 ^ 32) k far))
      (λ k. elim (cases_eq k (n / 2 ^ 32)) [
        | inl here ↦ rw here (lookup-without_same 0 (2 ^ 64) second old h.numbers)
        | inr apart ↦
            lookup-without_other second old (joined_halves k id) (omega arith)
            ∙ unserved (rows_of first) second k id (serves first second h) small (alone n k is apart)
      ])
      in
      let rows = rows_of-without first id in
      indexes_of (without first id) second'
      (subst (Rises 0 (2 ^ 32)) (sym rows) (Rises-without 0 (2 ^ 32) (rows_of first) id h.ids))
      (Rises-without 0 (2 ^ 64) second old h.numbers)
      (subst (λ (t : Rows). Serves t second') (sym rows) after)

  -- a new row is entered and removed again
  pub entered_and_taken : (g v : ℕ) → g < 2 ^ 32 → lookup first id ≡ None → without (put second (joined_halves g id) v) (joined_halves g id) ≡ second
  entered_and_taken g v small_g none =
      let place = joined_halves g id in
      let new = unserved (rows_of first) second g id (serves first second h) small (λ w found. not_in first id g none (w, found)) in
      let ascends = Rises-put 0 (2 ^ 64) second place v h.numbers (omega arith) (omega arith) in
      same_from_lookups 0 (2 ^ 64) 0 (2 ^ 64) (without (put second place v) place) second (Rises-without 0 (2 ^ 64) (put second place v) place ascends) h.numbers (λ k.
      elim (cases_eq k place) [
        | inl same ↦ rw same (lookup-without_same 0 (2 ^ 64) (put second place v) place ascends ∙ sym new)
        | inr other ↦ lookup-without_other (put second place v) place k other ∙ lookup-put_other second place v k other
      ])

-- no row of the id is in the group
pub not_served : (first second : Pairs ℕ) (id g : ℕ) → AreIndexes first second → lookup second (joined_halves g id) ≡ None → ¬ IsInGroup (rows_of first) id g
not_served first second id g h none = λ at. none-some at.0 (sym none ∙ h.agree.in_second id g at.0 at.1)

-- what holds always holds on an error
pub on_err : {T E : Type 0} (result : Result T E) (P : Type 0) → P → OnErr result P
on_err (Ok value) P holds = tt
on_err (Err error) P holds = holds
