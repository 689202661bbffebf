use Rattle.std.proofs.Common.{ℕ, map, inr, ap, ◌∙◌}
use Rattle.live_scans.proofs.Pages.{waited_more}
use Rattle.live_faces.proofs.typed_congee.Congee.keys.Goals as goal

pub returns-in-Ok-clause-listed : goal.returns-in-Ok-clause-listed
returns-in-Ok-clause-listed g c =
    let back = map (λ (p : ℕ × ℕ). g.K.Word.of_number p.0) in
    let copied = c.in_ok-numbers.ensures.copied in
    (copied.0, copied.1, (c.in_ok-numbers.numbers.items, c.in-Ok.ensures ∙ ap back c.deref.ensures.value, copied.2))

pub returns-clause-refused : goal.returns-clause-refused
returns-clause-refused g c =
    let copied = c.in_ok-numbers.ensures.copied in
    waited_more c.args.guard.now copied.0 c.copied.new.guard copied.1 (inr copied.2.seen)
