-- The bytes and keys at which a range looks.
use Rattle.std.proofs.Common.{◌≡◌, ℕ, zero, suc, ◌+◌, ◌-◌, ◌*◌, ◌<◌, ◌≤◌, max, List, [], ◌∷◌, ◌++◌, length, replicate, drop, slice_set, get_or, Some, None, inl, inr, refl, ap, sym, subst, ◌∙◌, arith, length-append, append_assoc, w64}
use Rattle.std.proofs.lemmas.Bool.{lt-ltb, le-ltb, eq-eqb, ne_eqb, cases_lt}
use Rattle.std.proofs.lemmas.Bool.Decides.{leb_tells}
use Rattle.std.proofs.lemmas.List.{drop-replicate, length-replicate}
use Rattle.std.specs.Int.{from_be_bytes}
use Rattle.spec_map.proofs.MapLaws.{lookup-below}
use Rattle.spec_map.specs.Map.{Rises, between}
use Rattle.spec_node.specs.Key.{AreBytes, high, key_number, least, low, next_byte, room, span}
use Rattle.node_table.proofs.KeyLaws.{AreBytes-append, key_number-be_bytes}
use Rattle.spec_olc.specs.Calls.{bytes_of}
use Rattle.spec_olc.specs.Reading.{bound_at, first_from}
use Rattle.olc_state.proofs.Reaching.{bytes-again}
use Rattle.olc_scan.specs.inner.Passed.{IsFirstChild}

module _ {C : Type 0} where
  no_cons : (e : ℕ × C) (es : List (ℕ × C)) → e ∷ es ≡ [] → ⊥
  no_cons e es h = cc

  head_byte : (e : ℕ × C) (es rest : List (ℕ × C)) (y : ℕ) (d : C) → e ∷ es ≡ (y, d) ∷ rest → (e.0 ≡ y) × (e.1 ≡ d)
  head_byte e es rest y d h = let head : e ≡ (y, d) = cc in (ap (λ (p : ℕ × C). p.0) head, ap (λ (p : ℕ × C). p.1) head)

  -- no child from a byte on
  pub first_none : (a : ℕ) (es : List (ℕ × C)) (b : ℕ) → Rises a 256 es → between es b 256 ≡ [] → first_from b es ≡ None
  first_none a [] b h e = refl
  first_none a (x ∷ es) b h e =
      elim (leb_tells b x.0) [
        | inl more ↦ absurd (no_cons x (between es b 256) (let e' = rw (more.0, lt-ltb x.0 256 h.1) at e in e'))
        | inr less ↦ let e' = rw less.0 at e in rw (lt-ltb x.0 b less.1) (first_none (x.0 + 1) es b h.2 e')
      ]

  -- the first child from a byte on
  pub first_some : (a : ℕ) (es rest : List (ℕ × C)) (b y : ℕ) (d : C) → Rises a 256 es → between es b 256 ≡ (y, d) ∷ rest → (first_from b es ≡ Some d) × IsFirstChild b es y d
  first_some a [] rest b y d h e = absurd (no_cons (y, d) rest (sym e))
  first_some a (x ∷ es) rest b y d h e =
      elim (leb_tells b x.0) [
        | inl more ↦
            let e' = rw (more.0, lt-ltb x.0 256 h.1) at e in
            let head = head_byte x (between es b 256) rest y d e' in (
              rw (le-ltb x.0 b more.1) (ap Some head.1),
              record {
                at_least = omega (arith, head.0, more.1);
                here = rw (eq-eqb x.0 y head.0) (ap Some head.1);
                before = λ z p q. rw (ne_eqb x.0 z (omega (arith, head.0))) (lookup-below (x.0 + 1) 256 es z h.2 (omega (arith, head.0)));
              },
            )
        | inr less ↦
            let e' = rw less.0 at e in
            let f = first_some (x.0 + 1) es rest b y d h.2 e' in (
              rw (lt-ltb x.0 b less.1) f.0,
              record {
                at_least = f.1.at_least;
                here = rw (ne_eqb x.0 y (omega (arith, less.1, f.1.at_least))) f.1.here;
                before = λ z p q. rw (ne_eqb x.0 z (omega (arith, less.1, p))) (f.1.before z p q);
              },
            )
      ]

-- bytes of 0 after a prefix add nothing
least-zeros : (r n : ℕ) → least r (replicate n 0) ≡ 0
least-zeros r zero = refl
least-zeros zero (suc n) = refl
least-zeros (suc r) (suc n) = omega (arith, least-zeros r n)

least-padded : (r n : ℕ) (p : List ℕ) → least r (p ++ replicate n 0) ≡ least r p
least-padded r n [] = least-zeros r n
least-padded zero n (b ∷ p) = refl
least-padded (suc r) n (b ∷ p) = ap (λ x. b * span r + x) (least-padded r n p)

zeros-bytes : (n : ℕ) → AreBytes (replicate n 0)
zeros-bytes zero = tt
zeros-bytes (suc n) = (omega arith, zeros-bytes n)

padded_byte : (p : List ℕ) (n : ℕ) → get_or (p ++ replicate n 0) (length p) 0 ≡ 0
padded_byte [] zero = refl
padded_byte [] (suc n) = refl
padded_byte (b ∷ p) n = padded_byte p n

-- the first key of a prefix goes on with byte 0
low_byte : (p : List ℕ) → AreBytes p → length p ≤ 7 → next_byte p (bytes_of (low p)) ≡ 0
low_byte p bytes short =
    let z : List ℕ = p ++ replicate (8 - length p) 0 in
    let eight : length z ≡ 8 = simp (length-append, length-replicate) (omega arith) in
    let again : bytes_of (low z) ≡ z = bytes-again z (AreBytes-append p (replicate (8 - length p) 0) bytes (zeros-bytes (8 - length p))) eight in
    let same : bytes_of (low p) ≡ z = ap bytes_of (sym (least-padded 8 (8 - length p) p)) ∙ again in
    ap (λ (k : List ℕ). get_or k (length p) 0) same ∙ padded_byte p (8 - length p)

-- THE BOUND is the byte of the reach
pub bound_is : (p : List ℕ) (c reach : ℕ) → AreBytes p → length p ≤ 7 → reach ≡ max c (low p) → next_byte p (bytes_of reach) ≡ bound_at c p
bound_is p c reach bytes short is =
    elim (cases_lt c (low p)) [
      | inl less ↦ let e : reach ≡ low p = omega (arith, is) in rw (lt-ltb c (low p) less) (ap (λ (k : ℕ). next_byte p (bytes_of k)) e ∙ low_byte p bytes short)
      | inr more ↦ let e : reach ≡ c = omega (arith, is) in rw (le-ltb c (low p) more) (ap (λ (k : ℕ). next_byte p (bytes_of k)) e)
    ]

-- the last key of a prefix goes on with bytes of 255
least-full : (r : ℕ) → least r (replicate r 255) + 1 ≡ span r
least-full zero = refl
least-full (suc r) = omega (arith, least-full r)

pub least-last : (r n : ℕ) (p : List ℕ) → length p + n ≡ r → least r (p ++ replicate n 255) + 1 ≡ least r p + room r p
least-last r n [] is = let same : n ≡ r = omega (arith, is) in omega (arith, subst (λ (k : ℕ). least r (replicate k 255) + 1 ≡ span r) (sym same) (least-full r))
least-last zero n (b ∷ p) is = absurd (omega (arith, is))
least-last (suc r) n (b ∷ p) is = omega (arith, least-last r n p (omega (arith, is)))

-- the last byte ends a prefix
high-last_by : (r : ℕ) (p : List ℕ) → length p < r → least r (p ++ 255 ∷ []) + room r (p ++ 255 ∷ []) ≡ least r p + room r p
high-last_by zero p short = absurd (omega (arith, short))
high-last_by (suc r) [] short = omega arith
high-last_by (suc r) (b ∷ p) short = omega (arith, high-last_by r p (omega (arith, short)))

pub high-last : (p : List ℕ) → length p ≤ 7 → high (p ++ 255 ∷ []) ≡ high p
high-last p short = high-last_by 8 p (omega (arith, short))

-- the other bytes after a prefix and a byte
set-after : (p r : List ℕ) (x b : ℕ) → slice_set (p ++ x ∷ r) (length p) b ≡ p ++ b ∷ r
set-after [] r x b = refl
set-after (y ∷ p) r x b = ap (λ (t : List ℕ). y ∷ t) (set-after p r x b)

-- THE LAST KEY with a prefix and a byte, by its eight bytes
pub last_is : (result : ℕ) (p t : List ℕ) (byte : ℕ) → length p ≤ 7 → t ≡ p → result ≡ from_be_bytes w64 (slice_set (t ++ drop (length p) (replicate 8 255)) (length p) byte) → result + 1 ≡ high (p ++ byte ∷ [])
last_is result p t byte short after is =
    let k : ℕ = 7 - length p in
    let rest : 8 - length p ≡ suc k = omega arith in
    let tail : drop (length p) (replicate 8 255) ≡ 255 ∷ replicate k 255 = drop-replicate (length p) 8 255 ∙ ap (λ (n : ℕ). replicate n 255) rest in
    let whole : slice_set (t ++ drop (length p) (replicate 8 255)) (length p) byte ≡ p ++ byte ∷ replicate k 255 =
    ap (λ (x : List ℕ). slice_set (x ++ drop (length p) (replicate 8 255)) (length p) byte) after
    ∙ (ap (λ (x : List ℕ). slice_set (p ++ x) (length p) byte) tail ∙ set-after p (replicate k 255) 255 byte) in
    let grouped : p ++ byte ∷ replicate k 255 ≡ (p ++ byte ∷ []) ++ replicate k 255 = sym (append_assoc p (byte ∷ []) (replicate k 255)) in
    let one_more : length (p ++ byte ∷ []) ≡ length p + 1 = length-append p (byte ∷ []) in
    let ones : List ℕ = replicate k 255 in
    let full : length ones ≡ k = length-replicate k 255 in
    let eight : length ((p ++ byte ∷ []) ++ replicate k 255) ≡ 8 = length-append (p ++ byte ∷ []) (replicate k 255) ∙ omega (arith, one_more, full, short) in
    let number : result ≡ key_number ((p ++ byte ∷ []) ++ replicate k 255) = is ∙ ap (λ (x : List ℕ). from_be_bytes w64 x) (whole ∙ grouped) ∙ sym (key_number-be_bytes ((p ++ byte ∷ []) ++ replicate k 255) eight) in
    let last = least-last 8 k (p ++ byte ∷ []) (omega (arith, one_more, short)) in
    omega (arith, number, last)

-- the first key of a prefix, by its eight bytes
pub padded_key : (p : List ℕ) → length p ≤ 7 → from_be_bytes w64 (p ++ replicate (8 - length p) 0) ≡ low p
padded_key p short =
    let l : length (p ++ replicate (8 - length p) 0) ≡ 8 = simp (length-append, length-replicate) (omega arith) in
    sym (key_number-be_bytes (p ++ replicate (8 - length p) 0) l) ∙ least-padded 8 (8 - length p) p
