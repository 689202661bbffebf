-- The mask of the first lanes.
use Rattle.std.proofs.Common.{◌≡◌, ℕ, zero, suc, ◌+◌, ◌-◌, ◌*◌, ◌^◌, ◌%◌, ◌<◌, ◌≤◌, Bool, true, false, List, [], ◌∷◌, length, take, drop, get_or, not, nat_lt, eqb, map, ap, sym, ◌∙◌, arith, subst, inl, inr, length-take}
use Rattle.std.specs.Simd.Lanes.{mask_l}
use Rattle.std.specs.Int.Count.{count_trailing_zeros}
use Rattle.std.proofs.lemmas.Simd.{mask_l-lt, leading_from_mask_l, trailing_mask_l}
use Rattle.std.proofs.lemmas.List.{take-map, length-take-le, length-map, get_or-take, get_or-drop}
use Rattle.std.proofs.lemmas.List.Sums.{prefix_len_passes, prefix_len-le-length}
use Rattle.std.proofs.lemmas.Bool.{cases_lt, lt-ltb}
use Rattle.std.specs.List.{prefix_len}
use Rattle.std.proofs.Math.Nat.{add-mul-mod_self_left, mod-eq_of_lt, pow-succ', mul_assoc}

-- a mask is that of the first lanes, and that of the others above it
mask_split : (ms : List Bool) (k : ℕ) → k ≤ length ms → mask_l ms ≡ mask_l (take k ms) + 2 ^ k * mask_l (drop k ms)
mask_split ms zero l = omega arith
mask_split [] (suc k) l = absurd (omega arith)
mask_split (b ∷ ms) (suc k) l =
    let h = mask_split ms k (omega arith) in
    let p = pow-succ' 2 k in
    let q = mul_assoc 2 (2 ^ k) (mask_l (drop k ms)) in
    rw (p, q) (omega (arith, h))

pub mask_first : (ms : List Bool) (k : ℕ) → k ≤ length ms → mask_l ms % 2 ^ k ≡ mask_l (take k ms)
mask_first ms k l =
    let b : mask_l (take k ms) < 2 ^ k = subst (λ n. mask_l (take k ms) < 2 ^ n) (length-take-le k ms l) (mask_l-lt (take k ms)) in
    ap (λ n. n % 2 ^ k) (mask_split ms k l) ∙ add-mul-mod_self_left (mask_l (take k ms)) (2 ^ k) (mask_l (drop k ms)) ∙ mod-eq_of_lt b

-- of the lanes that pass p
pub mask_first-map : {X : Type 0} (p : X → Bool) (xs : List X) (k : ℕ) → k ≤ length xs → mask_l (map p xs) % 2 ^ k ≡ mask_l (map p (take k xs))
mask_first-map p xs k l = mask_first (map p xs) k (omega (arith, l, length-map xs p)) ∙ ap mask_l (take-map p k xs)

-- without a mark among the first bytes the prefix is all of them; otherwise it ends before the first mark
pub marks_none : (bytes : List ℕ) (count byte mask : ℕ) → count ≤ length bytes → mask ≡ mask_l (map (λ x. eqb x byte) bytes) % 2 ^ count → mask ≡ 0 → count ≡ prefix_len (λ x. not (eqb x byte)) (take count bytes)
marks_none bytes count byte mask inside is none =
    let e = is ∙ mask_first-map (λ x. eqb x byte) bytes count inside in
    sym (leading_from_mask_l (λ x. eqb x byte) (take count bytes) (sym e ∙ none) ∙ length-take-le count bytes inside)

pub marks_some : (bytes : List ℕ) (count byte mask : ℕ) → count ≤ length bytes → count ≤ 16 → mask ≡ mask_l (map (λ x. eqb x byte) bytes) % 2 ^ count → 0 < mask → count_trailing_zeros 64 mask ≡ prefix_len (λ x. not (eqb x byte)) (take count bytes)
marks_some bytes count byte mask inside few is some =
    let e = is ∙ mask_first-map (λ x. eqb x byte) bytes count inside in
    let l = length-take-le count bytes inside in
    ap (count_trailing_zeros 64) e ∙ trailing_mask_l (λ x. eqb x byte) 64 (take count bytes) (omega (arith, l, few)) (subst (λ n. 0 < n) e some)

-- the bytes that are passed in sixteen aren't below the limit
pub lanes_free : (limit : ℕ) (bytes lanes : List ℕ) (at n skip : ℕ) → 16 ≤ n → lanes ≡ take 16 (take n (drop at bytes)) → skip ≡ prefix_len (λ x. not (nat_lt x limit)) lanes
    → (b : ℕ) → at ≤ b → b < at + skip → limit ≤ get_or bytes b 0
lanes_free limit bytes lanes at n skip long is passed b from to =
    let k = b - at in
    let few = prefix_len-le-length (λ x. not (nat_lt x limit)) lanes in
    let most : length lanes ≤ 16 = omega (arith, ap length is, length-take 16 (take n (drop at bytes))) in
    let place : at + k ≡ b = omega arith in
    let same : get_or lanes k 0 ≡ get_or bytes b 0 =
    ap (λ t. get_or t k 0) is ∙ get_or-take 16 (take n (drop at bytes)) k 0 (omega (arith, passed, few, most)) ∙ get_or-take n (drop at bytes) k 0 (omega (arith, passed, few, most)) ∙ get_or-drop at bytes k 0 ∙ ap (λ i. get_or bytes i 0) place in
    let pass = prefix_len_passes (λ x. not (nat_lt x limit)) lanes k 0 (omega (arith, passed)) in
    subst (λ x. limit ≤ x) same (elim (cases_lt (get_or lanes k 0) limit) [ inl less ↦ absurd (let t : false ≡ true = rw (lt-ltb (get_or lanes k 0) limit less) at pass in cc) | inr more ↦ more ])
