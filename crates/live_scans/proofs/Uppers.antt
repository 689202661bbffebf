-- Keys and their upper bytes.
use Rattle.std.proofs.Common.{◌≡◌, ℕ, zero, suc, ◌+◌, ◌-◌, ◌*◌, ◌/◌, ◌^◌, ◌<◌, ◌≤◌, refl, sym, ap, ◌∙◌, subst, arith}
use Rattle.std.proofs.Math.Nat.{pow-succ', mul-le-mul_right, one-le-pow, le-mul_of_pos_right, div-one, div-div-eq-div-mul, mul-suc}
use Rattle.std.proofs.lemmas.Nat.{pow-add}
use Rattle.live_nodes.specs.Levels.{up}
use Rattle.live_nodes.proofs.Plans.{up-up, up-small}

-- what is above rises with the key
pub up-rises : (h k l : ℕ) → k ≤ l → up h k ≤ up h l
up-rises zero k l low = low
up-rises (suc h) k l low = let r = up-rises h k l low in omega (arith, r)

-- from the lowest byte on
up-inner : (h n : ℕ) → up (suc h) n ≡ up h (n / 256)
up-inner h n = sym (up-up h 1 n ∙ ap (λ (z : ℕ). up z n) (let e : h + 1 ≡ suc h = omega arith in e))

pub up-filled : (h x r : ℕ) → r < 256 ^ h → up h (x * 256 ^ h + r) ≡ x
up-filled zero x r l = let one : 256 ^ 0 ≡ 1 = refl in let p : x * 256 ^ 0 ≡ x = ap (λ (z : ℕ). x * z) one ∙ (let e : x * 1 ≡ x = omega arith in e) in omega (arith, l, one, p)
up-filled (suc h) x r l =
    let p : 256 ^ suc h ≡ 256 * 256 ^ h = pow-succ' 256 h in
    let q : x * 256 ^ suc h ≡ 256 * (x * 256 ^ h) = ap (λ (z : ℕ). x * z) p ∙ (let e : x * (256 * 256 ^ h) ≡ 256 * (x * 256 ^ h) = omega arith in e) in
    let less : r / 256 < 256 ^ h = omega (arith, l, p) in
    up-inner h (x * 256 ^ suc h + r) ∙ (ap (up h) (let e : (x * 256 ^ suc h + r) / 256 ≡ x * 256 ^ h + r / 256 = omega (arith, q) in e) ∙ up-filled h x (r / 256) less)

-- by a shift
pub up-shifted : (h k : ℕ) → up h k ≡ k / 2 ^ (8 * h)
up-shifted zero k = sym (div-one k)
up-shifted (suc h) k = ap (λ (n : ℕ). n / 256) (up-shifted h k) ∙ (div-div-eq-div-mul k (2 ^ (8 * h)) 256 ∙ ap (λ (n : ℕ). k / n) (sym (pow-add 2 (8 * h) 8) ∙ ap (λ (n : ℕ). 2 ^ n) (sym (mul-suc 8 h))))

-- how large what is above can be
pub up-fits : (h j k : ℕ) → h + j ≡ 8 → k < 256 ^ 8 → up h k < 256 ^ j
up-fits zero j k e l = subst (λ (z : ℕ). k < 256 ^ z) (let x : 8 ≡ j = omega (arith, e) in x) l
up-fits (suc h) j k e l = up-small h k (256 ^ j) (subst (λ (z : ℕ). up h k < z) (pow-succ' 256 j) (up-fits h (suc j) k (omega (arith, e)) l))

-- a key that is filled up has 64 bits
pub filled-fits : (h j x y b : ℕ) → h + j ≡ 7 → y < 256 ^ j → b < 256 → x ≡ 256 * y + b → x * 256 ^ h + 256 ^ h ≤ 256 ^ 8
filled-fits h j x y b e l lo is =
    let p : 256 ^ suc j ≡ 256 * 256 ^ j = pow-succ' 256 j in
    let small : x + 1 ≤ 256 ^ suc j = omega (arith, l, lo, is, p) in
    let m = mul-le-mul_right (256 ^ h) small in
    let one : (x + 1) * 256 ^ h ≡ x * 256 ^ h + 256 ^ h = omega arith in
    let all : 256 ^ suc j * 256 ^ h ≡ 256 ^ 8 = sym (pow-add 256 (suc j) h) ∙ ap (λ (z : ℕ). 256 ^ z) (let s : suc j + h ≡ 8 = omega (arith, e) in s) in
    omega (arith, m, one, all)

-- THE LAST KEY with given upper bytes
pub record IsFilled (key height byte u s : ℕ) : Type 0 where
  pub small : 256 * u + byte < 2 ^ 64
  pub some_span : 1 ≤ s
  pub fits : (256 * u + byte) * s + s ≤ 2 ^ 64
  pub is : up (height - 1) ((256 * u + byte) * s + (s - 1)) ≡ 256 * up height key + byte

pub filled : (key height byte u s : ℕ) → 1 ≤ height → height ≤ 8 → key < 2 ^ 64 → byte < 256 → u ≡ up height key → s ≡ 256 ^ (height - 1) → IsFilled key height byte u s
filled key height byte u s some_height low fits b-low u-is s-is =
    let h : ℕ = height - 1 in
    let j : ℕ = 8 - height in
    let x : ℕ = 256 * u + byte in
    let all : 2 ^ 64 ≡ 256 ^ 8 = refl in
    let upper : u < 256 ^ j = subst (λ (z : ℕ). z < 256 ^ j) (sym u-is) (up-fits height j key (omega (arith, low)) (subst (λ (z : ℕ). key < z) all fits)) in
    let bound : x * 256 ^ h + 256 ^ h ≤ 256 ^ 8 = filled-fits h j x u byte (omega (arith, some_height, low)) upper b-low refl in
    let bound' : x * s + s ≤ 2 ^ 64 = subst (λ (z : ℕ). x * z + z ≤ 2 ^ 64) (sym s-is) (subst (λ (z : ℕ). x * 256 ^ h + 256 ^ h ≤ z) (sym all) bound) in
    let one : 1 ≤ s = subst (λ (z : ℕ). 1 ≤ z) (sym s-is) (one-le-pow h 256 (omega arith)) in
    let more : x ≤ x * s = le-mul_of_pos_right x (omega (arith, one)) in record {
      small = omega (arith, bound', one, more);
      some_span = one;
      fits = bound';
      is = ap (λ (z : ℕ). up h (x * z + (z - 1))) s-is ∙ (up-filled h x (256 ^ h - 1) (let p = one-le-pow h 256 (omega arith) in omega (arith, p)) ∙ ap (λ (z : ℕ). 256 * z + byte) u-is);
    }
