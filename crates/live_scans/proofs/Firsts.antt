-- The first key with given upper bytes.
use Rattle.std.proofs.Common.{◌≡◌, ℕ, ◌+◌, ◌-◌, ◌*◌, ◌^◌, ap, ◌∙◌, arith}
use Rattle.std.proofs.Math.Nat.{one-le-pow}
use Rattle.live_nodes.specs.Levels.{up}
use Rattle.live_scans.proofs.Uppers.{up-filled}

pub begun : (key height byte u s : ℕ) → u ≡ up height key → s ≡ 256 ^ (height - 1) → up (height - 1) ((256 * u + byte) * s) ≡ 256 * up height key + byte
begun key height byte u s u-is s-is =
    let h : ℕ = height - 1 in
    let x : ℕ = 256 * u + byte in
    let e : x * 256 ^ h ≡ x * 256 ^ h + 0 = omega arith in
    ap (λ (z : ℕ). up h (x * z)) s-is ∙ (ap (up h) e ∙ (up-filled h x 0 (let p = one-le-pow h 256 (omega arith) in omega (arith, p)) ∙ ap (λ (z : ℕ). 256 * z + byte) u-is))
