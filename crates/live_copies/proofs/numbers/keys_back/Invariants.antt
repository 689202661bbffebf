use Rattle.std.proofs.Common.{◌≡◌, ℕ, map, take}
use Rattle.live_copies.proofs.numbers.keys_back.Given as goal

-- those so far
abbrev pub invariant-loop-key : goal.invariant-loop-key
invariant-loop-key g l = l.keys.items ≡ map (λ (p : ℕ × ℕ). g.K.Word.of_number p.0) (take l.key-index l.numbers)
