-- The bytes under which a node has keys of a range.
use Rattle.std.proofs.Common.{◌≡◌, ℕ, zero, suc, ◌+◌, ◌-◌, ◌*◌, ◌/◌, ◌^◌, ◌<◌, ◌≤◌, List, [], ◌∷◌, ◌++◌, length, min, replicate, refl, ap, sym, subst, ◌∙◌, arith, length-append}
use Rattle.std.proofs.lemmas.List.{length-replicate}
use Rattle.std.proofs.lemmas.Nat.{shr_split, pow_pos, pow-add}
use Rattle.std.proofs.Math.Nat.{mod-lt}
use Rattle.std.proofs.Common.{w64}
use Rattle.std.specs.Int.{from_be_bytes}
use Rattle.spec_node.specs.Key.{span, least, room, low, high, AreBytes}
use Rattle.node_table.proofs.KeyLaws.{between_spans, room-positive, least-bound, key_number-be_bytes, AreBytes-append}
use Rattle.tree_walk.specs.inner.Scan.{IsWindow}
use Rattle.tree_walk.specs.declared.window.Window.{Window}

-- bytes of 0 after a prefix add nothing
least-zeros : (r n : ℕ) → least r (replicate n 0) ≡ 0
least-zeros r zero = refl
least-zeros zero (suc n) = refl
least-zeros (suc r) (suc n) = omega (arith, least-zeros r n)

least-padded : (r n : ℕ) (p : List ℕ) → least r (p ++ replicate n 0) ≡ least r p
least-padded r n [] = least-zeros r n
least-padded zero n (b ∷ p) = refl
least-padded (suc r) n (b ∷ p) = ap (λ x. b * span r + x) (least-padded r n p)

pub padded_key : (p : List ℕ) → length p ≤ 7 → from_be_bytes w64 (p ++ replicate (8 - length p) 0) ≡ low p
padded_key p short =
    let l : length (p ++ replicate (8 - length p) 0) ≡ 8 = simp (length-append, length-replicate) (omega arith) in
    sym (key_number-be_bytes (p ++ replicate (8 - length p) 0) l) ∙ least-padded 8 (8 - length p) p

-- the keys under a byte
least-snoc : (r k : ℕ) (p : List ℕ) (b : ℕ) → length p + suc k ≡ r → least r (p ++ b ∷ []) ≡ least r p + b * span k
least-snoc zero k p b is = absurd (omega arith)
least-snoc (suc r) k [] b is = let same : r ≡ k = omega arith in rw same (omega arith)
least-snoc (suc r) k (x ∷ p) b is = omega (arith, least-snoc r k p b (omega arith))

room-snoc : (r k : ℕ) (p : List ℕ) (b : ℕ) → length p + suc k ≡ r → room r (p ++ b ∷ []) ≡ span k
room-snoc zero k p b is = absurd (omega arith)
room-snoc (suc r) k [] b is = let same : r ≡ k = omega arith in ap span same
room-snoc (suc r) k (x ∷ p) b is = room-snoc r k p b (omega arith)

pub room-rest : (r k : ℕ) (p : List ℕ) → length p + k ≡ r → room r p ≡ span k
room-rest r k [] is = let same : r ≡ k = omega arith in ap span same
room-rest zero k (x ∷ p) is = absurd (omega arith)
room-rest (suc r) k (x ∷ p) is = room-rest r k p (omega arith)

span-power : (k : ℕ) → span k ≡ 2 ^ (8 * k)
span-power zero = refl
span-power (suc k) =
    let more : 8 * suc k ≡ 8 + 8 * k = omega arith in
    rw (more, pow-add 2 8 (8 * k)) (ap (λ x. 256 * x) (span-power k))

module _ (p : List ℕ) (k : ℕ) (short : length p + suc k ≡ 8) where
  -- the bytes below a quotient have keys before a number
  before_quotient : (n b : ℕ) → b < n / 2 ^ (8 * k) → high (p ++ b ∷ []) ≤ low p + n
  before_quotient n b less =
      let q = n / 2 ^ (8 * k) in
      let split = shr_split n (8 * k) in
      let step = between_spans b q (2 ^ (8 * k)) less in
      rw (least-snoc 8 k p b short, room-snoc 8 k p b short, span-power k) (omega arith)

  -- and those above it have keys past that number
  past_quotient : (n b : ℕ) → n / 2 ^ (8 * k) < b → low p + n < low (p ++ b ∷ [])
  past_quotient n b more =
      let q = n / 2 ^ (8 * k) in
      let split = shr_split n (8 * k) in
      let step = between_spans q b (2 ^ (8 * k)) more in
      let rest = mod-lt n {m = 2 ^ (8 * k)} (pow_pos (8 * k)) in
      rw (least-snoc 8 k p b short, span-power k) (omega arith)

  past_low : (b : ℕ) → low p ≤ low (p ++ b ∷ [])
  past_low b = rw (least-snoc 8 k p b short) (omega arith)

-- a leaf's keys
pub low-leaf : (p : List ℕ) (b : ℕ) → length p ≡ 7 → low (p ++ b ∷ []) ≡ low p + b
low-leaf p b seven = least-snoc 8 0 p b (omega arith) ∙ omega arith

-- fit into 64 bits
pub leaf_fits : (p : List ℕ) → AreBytes p → length p ≡ 7 → low p + 256 ≤ 2 ^ 64
leaf_fits p bytes seven =
    let bound = least-bound 8 p bytes (omega arith) in
    let room = room-rest 8 1 p (omega arith) in
    omega (arith, bound, room)

by_one : (n : ℕ) → n / 2 ^ (8 * 0) ≡ n
by_one n = let split = shr_split n (8 * 0) in omega arith

module _ (p : List ℕ) (start end : ℕ) (short : length p ≤ 7) (w : Window) (first : w.first ≡ low p) (from : w.from ≡ (start - low p) / 2 ^ (8 * (7 - length p))) where
  before : (b : ℕ) → b < w.from → high (p ++ b ∷ []) ≤ start
  before b less =
      let h = before_quotient p (7 - length p) (omega arith) (start - low p) b (subst (λ q. b < q) from less) in
      let some = past_low p (7 - length p) (omega arith) b in
      let room = room-positive 8 (p ++ b ∷ []) in
      omega arith

  after_first : (b : ℕ) → w.from < b → start ≤ low (p ++ b ∷ [])
  after_first b more =
      let h = past_quotient p (7 - length p) (omega arith) (start - low p) b (subst (λ q. q < b) from more) in
      omega arith

  not_before : length p ≡ 7 → (b : ℕ) → w.from ≤ b → start ≤ low (p ++ b ∷ [])
  not_before seven b more =
      let none : 7 - length p ≡ 0 = omega arith in
      let is : w.from ≡ start - low p = from ∙ ap (λ k. (start - low p) / 2 ^ (8 * k)) none ∙ by_one (start - low p) in
      let l = low-leaf p b seven in
      omega arith

  pub window_to : low p < end → w.to ≡ min ((end - 1 - low p) / 2 ^ (8 * (7 - length p)) + 1) 256 → IsWindow p start end w
  window_to some to =
      record {
        first = first;
        within = omega (arith, to);
        before = before;
        past = λ b byte more.
            let h = past_quotient p (7 - length p) (omega arith) (end - 1 - low p) b (omega (arith, byte, more, to)) in
            omega arith;
        after_first = after_first;
        before_last = λ b less.
            let h = before_quotient p (7 - length p) (omega arith) (end - 1 - low p) b (omega (arith, less, to)) in
            omega (arith, h, some);
        not_before = not_before;
        not_past = λ seven b less.
            let none : 7 - length p ≡ 0 = omega arith in
            let is : (end - 1 - low p) / 2 ^ (8 * (7 - length p)) ≡ end - 1 - low p = ap (λ k. (end - 1 - low p) / 2 ^ (8 * k)) none ∙ by_one (end - 1 - low p) in
            let l = low-leaf p b seven in
            omega (arith, l, is, to, less, some);
      }

  pub window_none : end ≤ low p → w.to ≡ 0 → IsWindow p start end w
  window_none none to =
      record {
        first = first;
        within = omega (arith, to);
        before = before;
        past = λ b byte more. let some = past_low p (7 - length p) (omega arith) b in omega arith;
        after_first = after_first;
        before_last = λ b less. absurd (omega arith);
        not_before = not_before;
        not_past = λ seven b less. absurd (omega arith);
      }

-- a prefix's keys are below 2 ^ 64
pub high_fits : (p : List ℕ) → AreBytes p → length p ≤ 8 → high p ≤ 2 ^ 64
high_fits p bytes short = let bound = least-bound 8 p bytes short in omega (arith, bound)

-- all bytes are a window of all numbers
pub whole_window : (p : List ℕ) → AreBytes p → length p ≤ 7 → IsWindow p 0 (2 ^ 64) (record { first = low p; from = 0; to = 256 })
whole_window p bytes short =
    record {
      first = refl;
      within = omega arith;
      before = λ b less. absurd (omega arith);
      past = λ b byte more. absurd (omega arith);
      after_first = λ b more. omega arith;
      before_last = λ b less. high_fits (p ++ b ∷ []) (AreBytes-append p (b ∷ []) bytes (omega arith, tt)) (simp length-append (omega arith));
      not_before = λ seven b more. omega arith;
      not_past = λ seven b less.
          let l = low-leaf p b seven in
          let fits = leaf_fits p bytes seven in
          omega (arith, l, fits);
    }
