use Rattle.std.proofs.Common.{ℕ, map, ap, ◌∙◌}
use Rattle.live_payloads.proofs.payload_congee.PayloadCongee.try_keys.Goals as goal

pub returns-in-Ok-clause-listed : goal.returns-in-Ok-clause-listed
returns-in-Ok-clause-listed g c =
    let back = map (λ (p : ℕ × ℕ). g.K.Word.of_number p.0) in
    rw (← c.guard.view_is) (c.in_ok-pairs.pairs.items, c.in-Ok.ensures ∙ ap back c.deref.ensures.value, c.in_ok-pairs.ensures.copied)
