-- One number of hundredths at most is the nearest to a fraction.
use Rattle.std.proofs.Common.{◌≡◌, ℕ, zero, suc, ◌+◌, ◌-◌, ◌*◌, ◌%◌, ◌<◌, subst, arith}
use Rattle.std.proofs.Math.Nat.{add-mul, suc-mul}
use Rattle.std.proofs.lemmas.Bool.{cases_lt}
use mathlib.Core.Logic.{⊎_elim}
use Rattle.node_stats.specs.Fractions.{IsNearestHundredth}

-- the greater of two would have to be the next, at a tie between an even and an odd one
not_two : (p q h d : ℕ) → 0 < q → IsNearestHundredth p q h → IsNearestHundredth p q (h + 1 + d) → ⊥
not_two p q h zero positive a b =
    let product : (h + 1 + 0) * q ≡ h * q + 1 * q + 0 * q = simp (add-mul) in
    let above = b.not_above in
    let below = a.not_below in
    let even : h % 2 ≡ 0 = a.tie_below (omega arith) in
    let odd : (h + 1 + 0) % 2 ≡ 0 = b.tie_above (omega arith) in
    omega arith
not_two p q h (suc d) positive a b =
    let product : (h + 1 + suc d) * q ≡ h * q + 1 * q + (d * q + q) = simp (add-mul, suc-mul) in
    let above = b.not_above in
    let below = a.not_below in
    omega arith

not_less : (p q h i : ℕ) → 0 < q → IsNearestHundredth p q h → IsNearestHundredth p q i → h < i → ⊥
not_less p q h i positive a b less =
    let gap : i ≡ h + 1 + (i - (h + 1)) = omega arith in
    not_two p q h (i - (h + 1)) positive a (subst (λ (n : ℕ). IsNearestHundredth p q n) gap b)

pub one_nearest : (p q h i : ℕ) → 0 < q → IsNearestHundredth p q h → IsNearestHundredth p q i → h ≡ i
one_nearest p q h i positive a b =
    ⊎_elim
    (λ less. absurd (not_less p q h i positive a b less))
    (λ most. ⊎_elim
    (λ more. absurd (not_less p q i h positive b a more))
    (λ least. omega arith)
    (cases_lt i h))
    (cases_lt h i)
