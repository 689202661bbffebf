use Rattle.std.proofs.Common.{map, ap, ◌∙◌}
use Rattle.live_faces.specs.Returned.{pair_of}
use Rattle.live_faces.proofs.typed_congee.Congee.try_snapshot.Goals as goal

pub returns-in-Ok-clause-copied : goal.returns-in-Ok-clause-copied
returns-in-Ok-clause-copied g c =
    let back = pair_of g.K.Word.of_number g.V.Word.of_number in
    (c.in_ok-numbers.numbers.items, c.in-Ok.ensures ∙ ap (map back) c.deref.ensures.value, c.in_ok-numbers.ensures.copied)
