use Rattle.std.proofs.Common.{rules, arith, ap, get_or, length, ℕ, ◌≡◌, ◌<◌, ◌≤◌, ◌∙◌, ◌∷◌, [], sym, subst}
use Rattle.std.proofs.lemmas.Bool.{le-leb, lt-leb}
use lib.Dec.{leb}
use Rattle.live_layout.specs.Words.{lane}
use Rattle.live_scans.proofs.Afters.{both_set, both_clear, same_byte}
use Rattle.live_scans.proofs.after.more_lanes.Goals as goal

pub returns-clause-more : goal.returns-clause-more
unfolding lane
returns-clause-more c = λ k l high.
    let b = c.args.byte in
    let xs = b ∷ b ∷ b ∷ b ∷ b ∷ b ∷ b ∷ b ∷ [] in
    let bs = c.to_le_bytes-lanes.result in
    let long : length bs ≡ 8 = search rules in
    let is = ap (λ x. get_or x k 0) c.to_le_bytes-lanes.ensures in
    both_set leb xs bs (search rules) k l (omega (arith, long, l)) (ap (λ (z : ℕ). leb z (get_or bs k 0)) (same_byte b k l) ∙ le-leb b (get_or bs k 0) (subst (λ (z : ℕ). b ≤ z) (sym is) high))

pub returns-clause-other : goal.returns-clause-other
unfolding lane
returns-clause-other c = λ k l low.
    let b = c.args.byte in
    let xs = b ∷ b ∷ b ∷ b ∷ b ∷ b ∷ b ∷ b ∷ [] in
    let bs = c.to_le_bytes-lanes.result in
    let long : length bs ≡ 8 = search rules in
    let is = ap (λ x. get_or x k 0) c.to_le_bytes-lanes.ensures in
    both_clear leb xs bs (search rules) k l (omega (arith, long, l)) (ap (λ (z : ℕ). leb z (get_or bs k 0)) (same_byte b k l) ∙ lt-leb b (get_or bs k 0) (subst (λ (z : ℕ). z < b) (sym is) low))
