use Rattle.std.proofs.Common.{[], ◌∷◌, ◌++◌, codes, decimal, ap, sym, ◌∙◌, append_assoc, append-nil}
use Rattle.text_trace.proofs.outcome.add_event.Goals as goal

pub returns-in-Reclaim : goal.returns-in-Reclaim
returns-in-Reclaim c =
    let before = c.args.pending.now in
    let parsed_lines = codes "reclaimed " in
    let slot = decimal c.in-Reclaim.slot in
    rw (c.in-Done.is, c.in-Reclaim.is, c.add-in-Reclaim-2.ensures, c.add_number.ensures.text, c.add-in-Reclaim.ensures) (
    ap (λ ws. ws ++ 10 ∷ []) (append_assoc before parsed_lines slot) ∙ (append_assoc before (parsed_lines ++ slot) (10 ∷ []) ∙ ap (λ ws. before ++ ws) (sym (append-nil _)))
    )
