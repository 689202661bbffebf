-- The keys of a node lie in a row, and so do those under each of its bytes.
use Rattle.std.proofs.Common.{◌≡◌, ℕ, zero, suc, ◌+◌, ◌-◌, ◌*◌, ◌^◌, ◌<◌, ◌≤◌, None, refl, ap, ◌∙◌, inl, inr, arith}
use Rattle.std.proofs.Math.Nat.{pow-succ', mul-le-mul_right}
use Rattle.std.proofs.lemmas.Bool.{cases_lt}
use Rattle.std.proofs.lemmas.Nat.{pow-add}
use Rattle.spec_map.specs.Map.{Pairs, lookup, Rises}
use Rattle.spec_map.proofs.MapLaws.{lookup-below}
use Rattle.spec_map.proofs.JoinLaws.{lookup-above}
use Rattle.live_nodes.specs.Levels.{up, digit, Shape, Covers, bytes_above}
use Rattle.live_nodes.proofs.Plans.{joined}
use Rattle.live_scans.proofs.Uppers.{up-filled}
use Rattle.live_copies.specs.inner.Told.{first_of, end_of}
use Rattle.live_copies.specs.inner.Noted.{start_of}

-- the upper bytes of a number bound it
pub up-bounds : (d t x : ℕ) → up d t ≡ x → (x * 256 ^ d ≤ t) × (t < (x + 1) * 256 ^ d)
up-bounds zero t x is =
    let one : 256 ^ 0 ≡ 1 = refl in
    let a : x * 256 ^ 0 ≡ x * 1 = ap (λ (z : ℕ). x * z) one in
    let b : (x + 1) * 256 ^ 0 ≡ (x + 1) * 1 = ap (λ (z : ℕ). (x + 1) * z) one in
    (omega (arith, a, is), omega (arith, b, is))
up-bounds (suc d) t x is =
    let y : ℕ = up d t in
    let u : ℕ = 256 ^ d in
    let r = up-bounds d t y refl in
    let low : 256 * x ≤ y = omega (arith, is) in
    let high : y + 1 ≤ 256 * (x + 1) = omega (arith, is) in
    let p : 256 ^ suc d ≡ 256 * u = pow-succ' 256 d in
    let a : x * 256 ^ suc d ≡ 256 * x * u = ap (λ (z : ℕ). x * z) p ∙ (let e : x * (256 * u) ≡ 256 * x * u = omega arith in e) in
    let b : (x + 1) * 256 ^ suc d ≡ 256 * (x + 1) * u = ap (λ (z : ℕ). (x + 1) * z) p ∙ (let e : (x + 1) * (256 * u) ≡ 256 * (x + 1) * u = omega arith in e) in
    let c = mul-le-mul_right u low in
    let g = mul-le-mul_right u high in
    (omega (arith, a, c, r), omega (arith, b, g, r))

-- A NODE'S KEYS
pub covered : (s : Shape) (k : ℕ) → Covers s k → (first_of s ≤ k) × (k < end_of s)
covered s k covers = up-bounds s.height k s.top covers

pub covers_between : (s : Shape) (k : ℕ) → first_of s ≤ k → k < end_of s → Covers s k
covers_between s k low high =
    let u : ℕ = 256 ^ s.height in
    let r : ℕ = k - s.top * u in
    let more : (s.top + 1) * u ≡ s.top * u + u = omega arith in
    let less : r < u = omega (arith, low, high, more) in
    ap (up s.height) (let e : k ≡ s.top * u + r = omega (arith, low) in e) ∙ up-filled s.height s.top r less

pub none_outside : (s : Shape) (m : Pairs ℕ) → Rises (first_of s) (end_of s) m → (k : ℕ) → (Covers s k → ⊥) → lookup m k ≡ None
none_outside s m r k never =
    elim (cases_lt k (first_of s)) [
      | inl less ↦ lookup-below (first_of s) (end_of s) m k r less
      | inr from ↦
          elim (cases_lt k (end_of s)) [
            | inl to ↦ absurd (never (covers_between s k from to))
            | inr more ↦ lookup-above (first_of s) (end_of s) m k r more
          ]
    ]

-- THE KEYS UNDER A BYTE, of a node that is one level higher than this
pub start_first : (s : Shape) (h : ℕ) → s.height ≡ suc h → first_of s ≡ start_of h s.top 0
start_first s h high =
    let u : ℕ = 256 ^ h in
    let p : 256 ^ s.height ≡ 256 * u = ap (λ (z : ℕ). 256 ^ z) high ∙ pow-succ' 256 h in
    ap (λ (z : ℕ). s.top * z) p ∙ (let e : s.top * (256 * u) ≡ (256 * s.top + 0) * u = omega arith in e)

pub start_end : (s : Shape) (h : ℕ) → s.height ≡ suc h → end_of s ≡ start_of h s.top 256
start_end s h high =
    let u : ℕ = 256 ^ h in
    let p : 256 ^ s.height ≡ 256 * u = ap (λ (z : ℕ). 256 ^ z) high ∙ pow-succ' 256 h in
    ap (λ (z : ℕ). (s.top + 1) * z) p ∙ (let e : (s.top + 1) * (256 * u) ≡ (256 * s.top + 256) * u = omega arith in e)

pub start_rises : (h t b c : ℕ) → b ≤ c → start_of h t b ≤ start_of h t c
start_rises h t b c low = mul-le-mul_right (256 ^ h) (let l : 256 * t + b ≤ 256 * t + c = omega (arith, low) in l)

pub under_byte : (h t b k : ℕ) → up (suc h) k ≡ t → digit (suc h) k ≡ b → (start_of h t b ≤ k) × (k < start_of h t (b + 1))
under_byte h t b k is byte =
    let j = joined h k t is in
    let same : up h k ≡ 256 * t + b = omega (arith, j, byte) in
    let r = up-bounds h k (256 * t + b) same in
    let next : (256 * t + (b + 1)) * 256 ^ h ≡ (256 * t + b + 1) * 256 ^ h = ap (λ (z : ℕ). z * 256 ^ h) (let e : 256 * t + (b + 1) ≡ 256 * t + b + 1 = omega arith in e) in
    (r.0, omega (arith, next, r))

-- A node that is below that byte
pub child_between : (e : Shape) (h t b : ℕ) → e.height ≤ h → bytes_above e h ≡ 256 * t + b → (start_of h t b ≤ first_of e) × (end_of e ≤ start_of h t (b + 1))
child_between e h t b low is =
    let d : ℕ = h - e.height in
    let x : ℕ = 256 * t + b in
    let u : ℕ = 256 ^ d in
    let w : ℕ = 256 ^ e.height in
    let r = up-bounds d e.top x is in
    let all : 256 ^ h ≡ u * w = ap (λ (z : ℕ). 256 ^ z) (let s : h ≡ d + e.height = omega (arith, low) in s) ∙ pow-add 256 d e.height in
    let a : x * 256 ^ h ≡ x * u * w = ap (λ (z : ℕ). x * z) all ∙ (let q : x * (u * w) ≡ x * u * w = omega arith in q) in
    let c : start_of h t (b + 1) ≡ (x + 1) * u * w = ap (λ (z : ℕ). z * 256 ^ h) (let q : 256 * t + (b + 1) ≡ x + 1 = omega arith in q) ∙ (ap (λ (z : ℕ). (x + 1) * z) all ∙ (let q : (x + 1) * (u * w) ≡ (x + 1) * u * w = omega arith in q)) in
    let f = mul-le-mul_right w r.0 in
    let top : e.top + 1 ≤ (x + 1) * u = omega (arith, r) in
    let g = mul-le-mul_right w top in
    (omega (arith, a, f), omega (arith, c, g))
