-- Places: what a writer's steps do to them.
use Rattle.std.proofs.Common.{◌≡◌, ◌≢◌, ℕ, ◌+◌, ◌-◌, ◌/◌, ◌%◌, ◌<◌, List, [], ◌∷◌, length, set, Some, None, IsSome, refl, ap, sym, ◌∙◌, subst, arith, rules, inl, inr}
use Rattle.std.specs.Int.{bit_at}
use Rattle.std.proofs.lemmas.Bool.{cases_eq}
use Rattle.std.proofs.lemmas.List.{get_or-set_same, get_or-set_other, length-set}
use Rattle.std.proofs.lemmas.Nat.Bits.{bit_at-zero}
use Rattle.spec_map.specs.Map.{lookup, put, without}
use Rattle.spec_map.proofs.MapLaws as maps
use Rattle.spec_map.proofs.ByteMapLaws.{length-put_new, length-put_some, length-without_present}
use Rattle.live_layout.specs.Words.{at}
use Rattle.live_layout.specs.PlaceCells.{HasPlaces, Keeps, mark, child_of}

-- a word of marks that was stored
pub mark-kept : (c : List ℕ) (b m i : ℕ) → length c ≡ 262 → b < 256 → i < 256 → ((k : ℕ) → k < 64 → k ≢ b % 64 → bit_at m k ≡ bit_at (at c (2 + b / 64)) k) → i ≢ b → mark (set c (2 + b / 64) m) i ≡ mark c i
mark-kept c b m i long small inside kept other =
    elim (cases_eq (i / 64) (b / 64)) [
      | inl e ↦
          ap (λ q. bit_at (at (set c (2 + b / 64) m) (2 + q)) (i % 64)) e
          ∙ ap (λ x. bit_at x (i % 64)) (get_or-set_same c (2 + b / 64) m 0 (omega (arith, long, small)))
          ∙ kept (i % 64) (omega arith) (omega arith)
          ∙ ap (λ q. bit_at (at c (2 + q)) (i % 64)) (sym e)
      | inr differ ↦ ap (λ x. bit_at x (i % 64)) (get_or-set_other c (2 + b / 64) (2 + i / 64) m 0 (omega arith))
    ]

module _ {c : List ℕ} {es : List (ℕ × ℕ)} (h : HasPlaces c es) (c' : List ℕ) (b : ℕ) (small : b < 256) (s : Keeps c c' b) where
  pub put-places : (w : ℕ) → mark c' b ≡ 1 → child_of c' b ≡ w → at c' 1 ≡ at c 1 + 1 → lookup es b ≡ None → HasPlaces c' (put es b w)
  put-places w marked here counts none = record {
    long = s.long ∙ h.long;
    there = λ i l m.
        elim (cases_eq i b) [
          | inl e ↦ subst (λ x. lookup (put es b w) x ≡ Some (child_of c' x)) (sym e) (maps.lookup-put_same es b w ∙ ap (λ x. Some x) (sym here))
          | inr other ↦ maps.lookup-put_other es b w i other ∙ h.there i l (sym (s.marks i l other) ∙ m) ∙ ap (λ x. Some x) (sym (s.words i l other))
        ];
    free = λ i l m.
        elim (cases_eq i b) [
          | inl e ↦ absurd (let z : mark c' b ≡ 0 = subst (λ x. mark c' x ≡ 0) e m in omega (arith, z, marked))
          | inr other ↦ maps.lookup-put_other es b w i other ∙ h.free i l (sym (s.marks i l other) ∙ m)
        ];
    counted = length-put_new 0 256 es b w h.ordered none ∙ ap (λ n. n + 1) h.counted ∙ sym counts;
    ordered = maps.Rises-put 0 256 es b w h.ordered (omega arith) small;
  }

  pub change-places : (w : ℕ) → mark c' b ≡ mark c b → child_of c' b ≡ w → at c' 1 ≡ at c 1 → IsSome (lookup es b) → HasPlaces c' (put es b w)
  change-places w marked here counts some = record {
    long = s.long ∙ h.long;
    there = λ i l m.
        elim (cases_eq i b) [
          | inl e ↦ subst (λ x. lookup (put es b w) x ≡ Some (child_of c' x)) (sym e) (maps.lookup-put_same es b w ∙ ap (λ x. Some x) (sym here))
          | inr other ↦ maps.lookup-put_other es b w i other ∙ h.there i l (sym (s.marks i l other) ∙ m) ∙ ap (λ x. Some x) (sym (s.words i l other))
        ];
    free = λ i l m.
        elim (cases_eq i b) [
          | inl e ↦
              absurd (let z : mark c b ≡ 0 = sym marked ∙ subst (λ x. mark c' x ≡ 0) e m in
              let n = h.free b small z in let t = rw n at some in search rules)
          | inr other ↦ maps.lookup-put_other es b w i other ∙ h.free i l (sym (s.marks i l other) ∙ m)
        ];
    counted = length-put_some 0 256 es b w h.ordered some ∙ h.counted ∙ sym counts;
    ordered = maps.Rises-put 0 256 es b w h.ordered (omega arith) small;
  }

  pub take-places : mark c' b ≡ 0 → at c' 1 + 1 ≡ at c 1 → IsSome (lookup es b) → HasPlaces c' (without es b)
  take-places clear counts some = record {
    long = s.long ∙ h.long;
    there = λ i l m.
        elim (cases_eq i b) [
          | inl e ↦ absurd (let z : mark c' b ≡ 1 = subst (λ x. mark c' x ≡ 1) e m in omega (arith, z, clear))
          | inr other ↦ maps.lookup-without_other es b i other ∙ h.there i l (sym (s.marks i l other) ∙ m) ∙ ap (λ x. Some x) (sym (s.words i l other))
        ];
    free = λ i l m.
        elim (cases_eq i b) [
          | inl e ↦ subst (λ x. lookup (without es b) x ≡ None) (sym e) (maps.lookup-without_same 0 256 es b h.ordered)
          | inr other ↦ maps.lookup-without_other es b i other ∙ h.free i l (sym (s.marks i l other) ∙ m)
        ];
    counted = (let e = length-without_present 0 256 es b h.ordered some in omega (arith, e, h.counted, counts));
    ordered = maps.Rises-without 0 256 es b h.ordered;
  }

-- the stores
pub put-stored : (c : List ℕ) (b m w n : ℕ) → length c ≡ 262 → b < 256 → ((k : ℕ) → k < 64 → k ≢ b % 64 → bit_at m k ≡ bit_at (at c (2 + b / 64)) k)
    → Keeps c (set (set (set c (2 + b / 64) m) (6 + b) w) 1 n) b
put-stored c b m w n long small kept =
    let s1 = set c (2 + b / 64) m in
    let s2 = set s1 (6 + b) w in
    let far : (j : ℕ) → j ≢ 1 → j ≢ 6 + b → at (set s2 1 n) j ≡ at s1 j = λ j x y. get_or-set_other s2 1 j n 0 x ∙ get_or-set_other s1 (6 + b) j w 0 y in
    record {
      long = length-set s2 1 n ∙ length-set s1 (6 + b) w ∙ length-set c (2 + b / 64) m;
      head = far 0 (omega arith) (omega arith) ∙ get_or-set_other c (2 + b / 64) 0 m 0 (omega arith);
      marks = λ i l other. ap (λ x. bit_at x (i % 64)) (far (2 + i / 64) (omega arith) (omega arith)) ∙ mark-kept c b m i long small l kept other;
      words = λ i l other. far (6 + i) (omega arith) (omega arith) ∙ get_or-set_other c (2 + b / 64) (6 + i) m 0 (omega arith);
    }

pub take-stored : (c : List ℕ) (b m n : ℕ) → length c ≡ 262 → b < 256 → ((k : ℕ) → k < 64 → k ≢ b % 64 → bit_at m k ≡ bit_at (at c (2 + b / 64)) k)
    → Keeps c (set (set c (2 + b / 64) m) 1 n) b
take-stored c b m n long small kept =
    let s1 = set c (2 + b / 64) m in
    record {
      long = length-set s1 1 n ∙ length-set c (2 + b / 64) m;
      head = get_or-set_other s1 1 0 n 0 (omega arith) ∙ get_or-set_other c (2 + b / 64) 0 m 0 (omega arith);
      marks = λ i l other. ap (λ x. bit_at x (i % 64)) (get_or-set_other s1 1 (2 + i / 64) n 0 (omega arith)) ∙ mark-kept c b m i long small l kept other;
      words = λ i l other. get_or-set_other s1 1 (6 + i) n 0 (omega arith) ∙ get_or-set_other c (2 + b / 64) (6 + i) m 0 (omega arith);
    }

-- and what the words have then
pub put-words : (c : List ℕ) (es : List (ℕ × ℕ)) (b m w n : ℕ) → b < 256 → HasPlaces c es → ((k : ℕ) → k < 64 → k ≢ b % 64 → bit_at m k ≡ bit_at (at c (2 + b / 64)) k) → bit_at m (b % 64) ≡ 1 → n ≡ at c 1 + 1
    → lookup es b ≡ None → HasPlaces (set (set (set c (2 + b / 64) m) (6 + b) w) 1 n) (put es b w)
put-words c es b m w n small h kept bit counts none =
    let long = h.long in
    let s1 = set c (2 + b / 64) m in
    let s2 = set s1 (6 + b) w in
    let l1 = length-set c (2 + b / 64) m in
    let l2 = length-set s1 (6 + b) w in
    let marked = ap (λ x. bit_at x (b % 64)) (get_or-set_other s2 1 (2 + b / 64) n 0 (omega arith) ∙ get_or-set_other s1 (6 + b) (2 + b / 64) w 0 (omega arith) ∙ get_or-set_same c (2 + b / 64) m 0 (omega (arith, long, small))) ∙ bit in
    let here = get_or-set_other s2 1 (6 + b) n 0 (omega arith) ∙ get_or-set_same s1 (6 + b) w 0 (omega (arith, l1, long, small)) in
    put-places h (set s2 1 n) b small (put-stored c b m w n long small kept) w marked here (get_or-set_same s2 1 n 0 (omega (arith, l1, l2, long)) ∙ counts) none

-- a byte that has a child is counted
some-counted : (es : List (ℕ × ℕ)) (b : ℕ) → IsSome (lookup es b) → 0 < length es
some-counted [] b some = absurd (search rules)
some-counted (e ∷ es) b some = omega arith

pub take-words : (c : List ℕ) (es : List (ℕ × ℕ)) (b m n : ℕ) → b < 256 → HasPlaces c es → ((k : ℕ) → k < 64 → k ≢ b % 64 → bit_at m k ≡ bit_at (at c (2 + b / 64)) k) → bit_at m (b % 64) ≡ 0 → n ≡ at c 1 - 1
    → IsSome (lookup es b) → HasPlaces (set (set c (2 + b / 64) m) 1 n) (without es b)
take-words c es b m n small h kept bit counts some =
    let long = h.long in
    let s1 = set c (2 + b / 64) m in
    let l1 = length-set c (2 + b / 64) m in
    let more = some-counted es b some in
    let clear = ap (λ x. bit_at x (b % 64)) (get_or-set_other s1 1 (2 + b / 64) n 0 (omega arith) ∙ get_or-set_same c (2 + b / 64) m 0 (omega (arith, long, small))) ∙ bit in
    let now = get_or-set_same s1 1 n 0 (omega (arith, l1, long)) in
    take-places h (set s1 1 n) b small (take-stored c b m n long small kept) clear (omega (arith, now, counts, more, h.counted)) some

pub change-stored : (c : List ℕ) (b w : ℕ) → length c ≡ 262 → b < 256 → Keeps c (set c (6 + b) w) b
change-stored c b w long small = record {
  long = length-set c (6 + b) w;
  head = get_or-set_other c (6 + b) 0 w 0 (omega arith);
  marks = λ i l other. ap (λ x. bit_at x (i % 64)) (get_or-set_other c (6 + b) (2 + i / 64) w 0 (omega arith));
  words = λ i l other. get_or-set_other c (6 + b) (6 + i) w 0 (omega arith);
}

pub none-has : (c : List ℕ) → length c ≡ 262 → ((j : ℕ) → 0 < j → j < 6 → at c j ≡ 0) → HasPlaces c []
none-has c long zeros = record {
  long = long;
  there = λ b l m. absurd (let z : mark c b ≡ 0 = ap (λ x. bit_at x (b % 64)) (zeros (2 + b / 64) (omega arith) (omega arith)) ∙ bit_at-zero (b % 64) in omega (arith, z, m));
  free = λ b l m. refl;
  counted = sym (zeros 1 (omega arith) (omega arith));
  ordered = search rules;
}
