-- The entry of a pair that is alone.
use Rattle.std.proofs.Common.{◌≡◌, ℕ, ◌+◌, ◌^◌, ◌<◌, ◌≤◌, List, [], ◌∷◌, length, set, refl, subst, arith}
use Rattle.std.proofs.lemmas.Bool.{lt-ltb, le-ltb, lt-leb, le-leb}
use Rattle.std.proofs.lemmas.List.{append-nil}
use Rattle.tree_walk.specs.inner.Scan.{AddsEntries, entries_of, entries_down}
use Rattle.tree_walk.proofs.FillLaws.{adds-one}

adds_nothing : {E : Type 0} (old : List E) (count : ℕ) → count ≤ length old → AddsEntries [] old count old count
adds_nothing old count inside = record { inside = inside; fills = λ whole done h. rw (append-nil done) h }

module _ {E : Type 0} (entry : ℕ → ℕ → E) (start end number value : ℕ) where
  pub record Alone (entries : List E) : Type 0 where
    pub up : entries_of entry start end ((number, value) ∷ []) ≡ entries
    pub down : entries_down entry start end ((number, value) ∷ []) ≡ entries

  alone_in : start ≤ number → number < end → Alone (entry number value ∷ [])
  alone_in from to = record { up = rw (le-leb start number from, lt-ltb number end to) refl; down = rw (le-leb start number from, lt-ltb number end to) refl }

  alone_before : number < start → Alone []
  alone_before less = record { up = rw (lt-leb start number less) refl; down = rw (lt-leb start number less) refl }

  alone_after : start ≤ number → end ≤ number → Alone []
  alone_after from past = record { up = rw (le-leb start number from, le-ltb number end past) refl; down = rw (le-leb start number from, le-ltb number end past) refl }

  module _ (old : List E) (count : ℕ) (room : count < length old) where
    pub record Writes (new : List E) (result : ℕ) : Type 0 where
      pub up : AddsEntries (entries_of entry start end ((number, value) ∷ [])) old count new result
      pub down : AddsEntries (entries_down entry start end ((number, value) ∷ [])) old count new result

    writes : (entries new : List E) (result : ℕ) → Alone entries → AddsEntries entries old count new result → Writes new result
    writes entries new result a adds = record { up = rw a.up adds; down = rw a.down adds }

    pub writes_none_before : number < start → Writes old count
    writes_none_before less = writes [] old count (alone_before less) (adds_nothing old count (omega (arith, room)))

    pub writes_none_after : start ≤ number → end ≤ number → Writes old count
    writes_none_after from past = writes [] old count (alone_after from past) (adds_nothing old count (omega (arith, room)))

    pub writes_one : start ≤ number → number < end → (x : E) → x ≡ entry number value → Writes (set old count x) (count + 1)
    writes_one from to x is = writes (entry number value ∷ []) (set old count x) (count + 1) (alone_in from to) (subst (λ e. AddsEntries (e ∷ []) old count (set old count x) (count + 1)) is (adds-one old count x room))

-- one that is written without a range is written of each range that it is in
pub writes_within : {E : Type 0} (entry : ℕ → ℕ → E) (start end number value : ℕ) (old : List E) (count : ℕ) (room : count < length old) → start ≤ number → number < end → number < 2 ^ 64
    → (new : List E) (result : ℕ) → AddsEntries (entries_of entry 0 (2 ^ 64) ((number, value) ∷ [])) old count new result → Writes entry start end number value old count room new result
writes_within entry start end number value old count room from to fits new result adds =
    writes entry start end number value old count room (entry number value ∷ []) new result (alone_in entry start end number value from to)
    (subst (λ es. AddsEntries es old count new result) (alone_in entry 0 (2 ^ 64) number value (omega arith) fits).up adds)
