use Rattle.std.proofs.Common.{◌≡◌, ℕ, List, ◌++◌, OnErr, sym, subst, append-nil}
use Rattle.std.specs.List.{flat_map}
use Rattle.spec_text.specs.Lines.{ended}
use Rattle.spec_text.specs.Texts.{content_text}
use Rattle.text_lines.specs.Watched.{SendsPart}
use Rattle.text_trace.specs.Detail.{after_first, map_after, content_lines}
use Rattle.text_trace.proofs.printing.put_content_after.Goals as goal

pub returns-in-Decided-clause-err : goal.returns-in-Decided-clause-err
returns-in-Decided-clause-err g c =
    let m = c.args.pairs.now.items in
    let ds = c.args.decided.now in
    let text = ended (content_text (after_first ds m)) in
    let shown : flat_map ended (content_lines c.args.detail c.args.line.now (map_after c.args.line.now ds m)) ≡ text =
    rw (c.in-Contents.is, c.in-Done.is, c.in-Decided.is) (append-nil text) in
    subst (λ (ws : List ℕ). OnErr c.put_next_content.result (SendsPart g.W.Write.contents c.args.output.now c.put_next_content.new.output (c.args.pending.now ++ ws)))
    (sym shown) c.put_next_content.ensures.err
