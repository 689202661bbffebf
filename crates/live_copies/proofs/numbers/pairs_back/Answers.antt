use Rattle.std.proofs.Common.{ℕ, [], ◌∷◌, ◌++◌, length, ◌<◌, arith, sym, ◌∙◌}
use Rattle.std.proofs.lemmas.List.{map_more}
use Rattle.live_copies.proofs.numbers.pairs_back.Goals as goal

pub loop-key-preserved : goal.loop-key-preserved
loop-key-preserved g c =
    let numbers = c.args.numbers.now in
    let i = c.loop-key.key-index in
    let inside : i < length numbers = omega (arith, c.loop-key.auto) in
    c.in_ok-push.ensures.items ∙ (λ j. c.loop-key.invariant j ++ (c.from_u64.ensures j, c.from_u64-in-loop-key.ensures j) ∷ [])
    ∙ sym (map_more (λ (p : ℕ × ℕ). (g.K.Word.of_number p.0, g.V.Word.of_number p.1)) numbers i (0, 0) inside)
