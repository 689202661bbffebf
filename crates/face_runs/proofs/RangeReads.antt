-- The pairs of a range, which are written as bytes and read back.
use Rattle.std.proofs.Common.{◌≡◌, ℕ, ◌<◌, ◌≤◌, ◌^◌, List, [], ◌∷◌, map, take, zero, suc, refl, ap, inl, inr, arith}
use Rattle.std.specs.Int.{to_be_bytes, from_be_bytes, w64}
use Rattle.std.specs.List.{AllByRecursion}
use Rattle.std.proofs.lemmas.Bool.{cases_lt, lt-ltb, le-ltb, lt-leb, le-leb}
use Rattle.std.proofs.lemmas.Nat.{from_be_bytes-to_be_bytes_8}
use Rattle.spec_map.specs.Map.{Pairs, between}

-- the number of a key's bytes is the key
pub numbers_of_bytes : (n : ℕ) (es : List (ℕ × ℕ)) → AllByRecursion (λ (e : ℕ × ℕ). e.0 < 2 ^ 64) es
    → map (λ (e : List ℕ × ℕ). (from_be_bytes w64 e.0, e.1)) (take n (map (λ (e : ℕ × ℕ). (to_be_bytes w64 e.0, e.1)) es)) ≡ take n es
numbers_of_bytes zero es wide = refl
numbers_of_bytes (suc n) [] wide = refl
numbers_of_bytes (suc n) (e ∷ es) wide =
    rw (from_be_bytes-to_be_bytes_8 e.0 wide.0) (ap (λ (xs : List (ℕ × ℕ)). e ∷ xs) (numbers_of_bytes n es wide.1))

-- keys below a number of 64 bits have 64 bits
pub wide_between : (low high : ℕ) (es : List (ℕ × ℕ)) → high ≤ 2 ^ 64 → AllByRecursion (λ (e : ℕ × ℕ). e.0 < 2 ^ 64) (between es low high)
wide_between low high [] h = tt
wide_between low high (e ∷ es) h = elim (cases_lt e.0 low) [
  | inl less ↦ rw (lt-leb low e.0 less) (wide_between low high es h)
  | inr from ↦ elim (cases_lt e.0 high) [
    | inl below ↦ rw (le-leb low e.0 from, lt-ltb e.0 high below) (omega arith, wide_between low high es h)
    | inr past ↦ rw (le-leb low e.0 from, le-ltb e.0 high past) (wide_between low high es h)
  ]
]

-- the pairs of a range, written as bytes and read
pub range_read : (n low high : ℕ) (m : Pairs ℕ) (es : List (List ℕ × ℕ)) → high ≤ 2 ^ 64
    → es ≡ take n (map (λ (e : ℕ × ℕ). (to_be_bytes w64 e.0, e.1)) (between m low high))
    → map (λ (e : List ℕ × ℕ). (from_be_bytes w64 e.0, e.1)) es ≡ take n (between m low high)
range_read n low high m es h is = rw is (numbers_of_bytes n (between m low high) (wide_between low high m h))
