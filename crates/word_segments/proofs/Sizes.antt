-- The sizes of segments, added up.
use Rattle.std.proofs.Common.{◌≡◌, ℕ, zero, suc, ◌+◌, ◌-◌, ◌*◌, ◌/◌, ◌%◌, ◌^◌, ◌<◌, ◌≤◌, refl, sym, ap, ◌∙◌, subst, arith, pow_mono, pow_pos, pow-add, pow-suc, lt_of_not-le, div-add-mod', mod-lt, zero-mul, suc-mul, add-mul, mul_comm, add_comm, le-div_iff_mul-le, div-lt_iff_lt-mul, div-mul-le_self, mod-eq_of_lt}
use mathlib.Core.Logic.{dite}
use native.Mathlib.Decide.{ℕ_discrete}
use Rattle.std.specs.Prelude.{min}
use Rattle.word_segments.specs.Segments.{size, before, IsWithin}

-- a segment of the group g, whose number in it is r
pub size_in : (g r : ℕ) → g ≤ 7 → r < 32 → size (32 * g + r) ≡ 512 * 2 ^ g
size_in g r few low = let e : min ((32 * g + r) / 32) 7 ≡ g = omega (arith, few, low) in ap (λ (z : ℕ). 512 * 2 ^ z) e

pub large_size : (j : ℕ) → 224 ≤ j → size j ≡ 65536
large_size j many = let e : min (j / 32) 7 ≡ 7 = omega (arith, many) in ap (λ (z : ℕ). 512 * 2 ^ z) e

-- the segments of a group are of one size u
before_in : (g r u : ℕ) → g ≤ 7 → r ≤ 32 → u ≡ 512 * 2 ^ g → before (32 * g + r) ≡ before (32 * g) + r * u
before_in g zero u few low is = let e : 32 * g + 0 ≡ 32 * g = omega arith in let z : 0 * u ≡ 0 = zero-mul u in let b : before (32 * g + 0) ≡ before (32 * g) = ap before e in omega (arith, b, z)
before_in g (suc r) u few low is =
    let b = before_in g r u few (omega (arith, low)) is in let s : size (32 * g + r) ≡ u = size_in g r few (omega (arith, low)) ∙ sym is in let m : suc r * u ≡ r * u + u = suc-mul r u in
    let e : 32 * g + suc r ≡ suc (32 * g + r) = omega arith in
    ap before e ∙ (let q : before (32 * g + r) + size (32 * g + r) ≡ before (32 * g) + suc r * u = omega (arith, b, s, m) in q)

-- where a group begins
before_group : (g : ℕ) → g ≤ 7 → before (32 * g) + 16384 ≡ 16384 * 2 ^ g
before_group zero few = refl
before_group (suc g) few =
    let b = before_group g (omega (arith, few)) in let i = before_in g 32 (512 * 2 ^ g) (omega (arith, few)) (omega arith) refl in let p : 2 ^ suc g ≡ 2 ^ g * 2 = pow-suc 2 g in
    let e : 32 * suc g ≡ 32 * g + 32 = omega arith in let f : before (32 * suc g) ≡ before (32 * g + 32) = ap before e in omega (arith, b, i, p, f)

-- a segment of a group begins at so many words, but 16,384
pub skewed_before : (g r u : ℕ) → g ≤ 7 → r ≤ 32 → u ≡ 512 * 2 ^ g → before (32 * g + r) + 16384 ≡ (r + 32) * u
skewed_before g r u few low is =
    let i = before_in g r u few low is in let b = before_group g few in let m : (r + 32) * u ≡ r * u + 32 * u = add-mul r 32 u in omega (arith, i, b, m, is)

pub large_before : (q : ℕ) → before (q + 224) ≡ 2080768 + 65536 * q
large_before zero = let b : before 224 + 16384 ≡ 2097152 = before_group 7 (omega arith) in omega (arith, b)
large_before (suc q) = let b = large_before q in let s = large_size (q + 224) (omega arith) in let e : suc (q + 224) ≡ suc q + 224 = omega arith in
    ap before (sym e) ∙ (let r : before (q + 224) + size (q + 224) ≡ 2080768 + 65536 * suc q = omega (arith, b, s) in r)

-- The highest bit of a place by 16,384 more, u = 2 ^ (top - 5).
pub record IsTop (n top u : ℕ) : Type 0 where
  pub low : 14 ≤ top
  pub high : top ≤ 20
  pub unit : u ≡ 512 * 2 ^ (top - 14)
  pub below : 32 * u ≤ n
  pub above : n < 64 * u
  pub small : u ≤ 32768

pub is_top : (n top : ℕ) → 16384 ≤ n → n < 2097152 → 2 ^ top ≤ n → n < 2 * 2 ^ top → IsTop n top (2 ^ (top - 5))
is_top n top many few below above =
    let low : 14 ≤ top = lt_of_not-le (λ (le : top ≤ 13). let p : 2 ^ top ≤ 8192 = pow_mono le in omega (arith, p, many, above)) in
    let high : top < 21 = lt_of_not-le (λ (le : 21 ≤ top). let p : 2097152 ≤ 2 ^ top = pow_mono le in omega (arith, p, few, below)) in
    let g : ℕ = top - 14 in let u : ℕ = 2 ^ (top - 5) in
    let e : top - 5 ≡ 9 + g = omega (arith, low) in let is : u ≡ 512 * 2 ^ g = ap (λ (z : ℕ). 2 ^ z) e ∙ pow-add 2 9 g in
    let f : top ≡ 5 + (top - 5) = omega (arith, low) in let whole : 2 ^ top ≡ 32 * u = ap (λ (z : ℕ). 2 ^ z) f ∙ pow-add 2 5 (top - 5) in
    let small : u ≤ 32768 = (let le : top - 5 ≤ 15 = omega (arith, high) in pow_mono le) in
    record { low = low; high = omega (arith, high); unit = is; below = omega (arith, whole, below); above = omega (arith, whole, above); small = small }

pub within_near : (place top : ℕ) → IsTop (place + 16384) top (2 ^ (top - 5))
    → IsWithin place (32 * top + (place + 16384) / 2 ^ (top - 5) - 480) (place + 16384 - (place + 16384) / 2 ^ (top - 5) * 2 ^ (top - 5))
within_near place top is =
    let n : ℕ = place + 16384 in let u : ℕ = 2 ^ (top - 5) in let g : ℕ = top - 14 in let m : ℕ = n / u in let r : ℕ = m - 32 in
    let few : g ≤ 7 = omega (arith, is.high) in let most : m < 64 = (div-lt_iff_lt-mul (pow_pos (top - 5))).1 is.above in let least : 32 ≤ m = (le-div_iff_mul-le (pow_pos (top - 5))).1 is.below in
    let low : r < 32 = omega (arith, most) in let e : 32 * top + m - 480 ≡ 32 * g + r = omega (arith, is.low, least) in
    let s : size (32 * g + r) ≡ u = size_in g r few low ∙ sym is.unit in let b = skewed_before g r u few (omega (arith, low)) is.unit in
    let f : r + 32 ≡ m = omega (arith, least) in let w : (r + 32) * u ≡ m * u = ap (λ (z : ℕ). z * u) f in
    let d : m * u + n % u ≡ n = div-add-mod' n u in let o : n % u < u = mod-lt n (pow_pos (top - 5)) in
    subst (λ (j : ℕ). IsWithin place j (n - m * u)) (sym e) (omega (arith, s, d, o), omega (arith, b, w, d))

pub group_few : (n top : ℕ) → IsTop n top (2 ^ (top - 5)) → 32 * top + n / 2 ^ (top - 5) - 480 < 224
group_few n top is = let most : n / 2 ^ (top - 5) < 64 = (div-lt_iff_lt-mul (pow_pos (top - 5))).1 is.above in omega (arith, most, is.high)

-- the shift back loses nothing
pub within_near_shifted : (place top : ℕ) → place < 2080768 → IsTop (place + 16384) top (2 ^ (top - 5))
    → IsWithin place (32 * top + (place + 16384) / 2 ^ (top - 5) - 480) (place + 16384 - (place + 16384) / 2 ^ (top - 5) * 2 ^ (top - 5) % 18446744073709551616)
within_near_shifted place top low is =
    let n : ℕ = place + 16384 in let u : ℕ = 2 ^ (top - 5) in let j : ℕ = 32 * top + n / u - 480 in let le : n / u * u ≤ n = div-mul-le_self n u in
    let e : n / u * u % 18446744073709551616 ≡ n / u * u = mod-eq_of_lt (omega (arith, low, le)) in subst (λ (z : ℕ). IsWithin place j (n - z)) (sym e) (within_near place top is)

pub least_number : (n top : ℕ) → IsTop n top (2 ^ (top - 5)) → 480 ≤ 32 * top + n / 2 ^ (top - 5)
least_number n top is = let least : 32 ≤ n / 2 ^ (top - 5) = (le-div_iff_mul-le (pow_pos (top - 5))).1 is.below in omega (arith, least, is.low)

pub within_far : (place : ℕ) → 2080768 ≤ place → IsWithin place ((place - 2080768) / 65536 + 224) ((place - 2080768) % 65536)
within_far place high =
    let rest : ℕ = place - 2080768 in let q : ℕ = rest / 65536 in let s = large_size (q + 224) (omega arith) in let b = large_before q in let d = div-add-mod' rest 65536 in let m : rest % 65536 < 65536 = mod-lt rest (omega arith) in
    (omega (arith, s, m), omega (arith, b, d, high))

pub top_few : (n top : ℕ) → 2 ^ top ≤ n → n < 35184372088832 → top < 45
top_few n top low few = lt_of_not-le (λ (le : 45 ≤ top). let p : 35184372088832 ≤ 2 ^ top = pow_mono le in omega (arith, p, low, few))

-- a segment ends before each later one
pub ends_before : (n m : ℕ) → n < m → before n + size n ≤ before m
ends_before n zero h = absurd (omega arith)
ends_before n (suc m) h = dite (ℕ_discrete n m)
    (λ e. subst (λ (z : ℕ). before n + size n ≤ before (suc z)) e (let r : before n + size n ≤ before (suc n) = omega arith in r))
    (λ ne. let r = ends_before n m (omega (arith, h, ne)) in omega (arith, r))

pub before_mono : (n m : ℕ) → n ≤ m → before n ≤ before m
before_mono n m h = dite (ℕ_discrete n m)
    (λ e. subst (λ (z : ℕ). before n ≤ before z) e (let r : before n ≤ before n = omega arith in r))
    (λ ne. let r : before n + size n ≤ before m = ends_before n m (omega (arith, h, ne)) in omega (arith, r))

-- a segment among those that double
pub before_near : (j : ℕ) → j < 224 → before j + 16384 ≡ (32 + j % 32) * 2 ^ (j / 32 + 9)
before_near j few =
    let g : ℕ = j / 32 in let r : ℕ = j % 32 in let low : r < 32 = mod-lt j (omega arith) in let d : g * 32 + r ≡ j = div-add-mod' j 32 in let e : 32 * g + r ≡ j = omega (arith, d) in
    let b = skewed_before g r (512 * 2 ^ g) (omega (arith, few, d)) (omega (arith, low)) refl in
    let u : 2 ^ (g + 9) ≡ 512 * 2 ^ g = pow-add 2 g 9 ∙ mul_comm (2 ^ g) 512 in
    subst (λ (z : ℕ). before z + 16384 ≡ (32 + r) * 2 ^ (g + 9)) e (b ∙ ap (λ (z : ℕ). z * (512 * 2 ^ g)) (add_comm r 32) ∙ ap (λ (z : ℕ). (32 + r) * z) (sym u))

pub before_near_shifted : (j : ℕ) → j < 224 → (16384 ≤ (32 + j % 32) * 2 ^ (j / 32 + 9) % 18446744073709551616)
    × ((32 + j % 32) * 2 ^ (j / 32 + 9) % 18446744073709551616 - 16384 ≡ before j) × (before j ≤ 2080768)
before_near_shifted j few =
    let b = before_near j few in let le : before j ≤ before 224 = before_mono j 224 (omega (arith, few)) in let w : before 224 ≡ 2080768 = large_before 0 in
    let e : (32 + j % 32) * 2 ^ (j / 32 + 9) % 18446744073709551616 ≡ (32 + j % 32) * 2 ^ (j / 32 + 9) = mod-eq_of_lt (omega (arith, b, le, w)) in (omega (arith, e, b), omega (arith, e, b), omega (arith, le, w))

pub before_far : (j : ℕ) → 224 ≤ j → (j - 224) * 65536 + 2080768 ≡ before j
before_far j many = let b = large_before (j - 224) in let e : j - 224 + 224 ≡ j = omega (arith, many) in (let r : (j - 224) * 65536 + 2080768 ≡ before (j - 224 + 224) = omega (arith, b) in r) ∙ ap before e

-- so many bytes have all segments before the one of the word behind them
pub fits : (bytes j k : ℕ) → IsWithin (bytes / 8) j k → 8 * before j ≤ bytes
fits bytes j k w = let d = div-add-mod' bytes 8 in let e = w.1 in omega (arith, d, e)

-- and no more
pub fills : (bytes j k : ℕ) → IsWithin (bytes / 8) j k → bytes < 8 * before (j + 1)
fills bytes j k w = let d = div-add-mod' bytes 8 in let m : bytes % 8 < 8 = mod-lt bytes (omega arith) in let low = w.0 in let e = w.1 in
    let is : before (j + 1) ≡ before j + size j = ap before (let e' : j + 1 ≡ suc j = omega arith in e') in omega (arith, d, m, low, e, is)
