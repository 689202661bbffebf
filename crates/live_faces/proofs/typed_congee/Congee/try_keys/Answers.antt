use Rattle.std.proofs.Common.{ℕ, map, ap, ◌∙◌}
use Rattle.live_faces.proofs.typed_congee.Congee.try_keys.Goals as goal

pub returns-in-Ok-clause-listed : goal.returns-in-Ok-clause-listed
returns-in-Ok-clause-listed g c =
    let back = map (λ (p : ℕ × ℕ). g.K.Word.of_number p.0) in
    (c.in_ok-numbers.numbers.items, c.in-Ok.ensures ∙ ap back c.deref.ensures.value, c.in_ok-numbers.ensures.copied)
