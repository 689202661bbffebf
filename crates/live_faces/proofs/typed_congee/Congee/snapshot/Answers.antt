use Rattle.std.proofs.Common.{map, inr, ap, ◌∙◌}
use Rattle.live_scans.proofs.Pages.{waited_more}
use Rattle.live_faces.specs.Returned.{pair_of}
use Rattle.live_faces.proofs.typed_congee.Congee.snapshot.Goals as goal

pub returns-in-Ok-clause-copied : goal.returns-in-Ok-clause-copied
returns-in-Ok-clause-copied g c =
    let back = pair_of g.K.Word.of_number g.V.Word.of_number in
    let copied = c.in_ok-numbers.ensures.copied in
    (copied.0, copied.1, (c.in_ok-numbers.numbers.items, c.in-Ok.ensures ∙ ap (map back) c.deref.ensures.value, copied.2))

pub returns-clause-refused : goal.returns-clause-refused
returns-clause-refused g c =
    let copied = c.in_ok-numbers.ensures.copied in
    waited_more c.args.guard.now copied.0 c.copied.new.guard copied.1 (inr copied.2.seen)
