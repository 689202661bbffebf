-- What the comparison of two lists of pairs decides.
use Rattle.std.proofs.Common.{◌≡◌, ℕ, ◌&&◌, eqb, ap}
use Rattle.std.proofs.lemmas.Bool.Decides.{Decides-eqb, Decides-and, Decides-like}
use Rattle.std.specs.Bool.{Decides}

pub pair_Decides : (a b : ℕ × ℕ) → Decides (eqb a.0 b.0 && eqb a.1 b.1) (a ≡ b)
pair_Decides a b = Decides-like (eqb a.0 b.0 && eqb a.1 b.1) (λ (h : (a.0 ≡ b.0) × (a.1 ≡ b.1)). λ i. (h.0 i, h.1 i)) (λ e. (ap (λ (p : ℕ × ℕ). p.0) e, ap (λ (p : ℕ × ℕ). p.1) e)) (Decides-and (eqb a.0 b.0) (eqb a.1 b.1) (Decides-eqb a.0 b.0) (Decides-eqb a.1 b.1))
