-- What a present key has is stored again.
use Rattle.std.proofs.Common.{◌≡◌, pos, ap, ◌∙◌, sym, w32, to_z, of_z}
use Rattle.face_typed.proofs.Standing.{put_again}
use Rattle.congee_c.specs.Answer.{is_there}
use Rattle.congee_c.specs.declared.held.Held.{Held}
use Rattle.congee_c.proofs.There.{there}
use Rattle.congee_c.proofs.compute.congee_c_get_or_insert.Goals as goal

pub returns-in-Ok-clause-present : goal.returns-in-Ok-clause-present
returns-in-Ok-clause-present c is =
    let one : to_z w32 (of_z w32 (is_there c.in-Ok.previous)) ≡ pos 1 = rw (← c.answer.ensures.code) is in
    let found = there c.in-Ok.previous one in
    let here = sym c.in-Ok.ensures.before ∙ found.1 in
    let again = rw here at c.in-Ok.ensures.ok in
    put_again c.as_mut.result.now.map.pairs c.put_if_absent.new.held.map.pairs c.args.key found.0 c.put_if_absent.ensures.ordered here again
    ∙ ap (λ (held : Held). held.map.pairs) c.as_mut.ensures.value
