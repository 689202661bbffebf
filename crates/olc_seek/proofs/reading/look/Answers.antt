use Rattle.std.proofs.Common.{sym, ap, subst, ◌∙◌}
use Rattle.spec_node.specs.Key.{next_byte}
use Rattle.spec_olc.specs.Calls.{bytes_of}
use Rattle.spec_olc.specs.Meaning.{child_of, in_some, seen_of}
use Rattle.olc_state.specs.inner.Meant.{meant_node}
use Rattle.olc_state.proofs.Unlike.{false_true}
use Rattle.olc_descend.specs.inner.Looked.{HasPayload}
use Rattle.olc_descend.proofs.Looks.{child_means, count_means, full_means, payload_means}
use Rattle.olc_seek.proofs.Readings.{sought_none, sought_shared}
use Rattle.olc_seek.proofs.reading.look.Goals as goal

pub returns-in-Ok : goal.returns-in-Ok
returns-in-Ok g c =
    let meaning = g.P.HasMeaning.meaning in
    let n = c.args.node.now in
    let found = child_means meaning n (next_byte n.prefix (bytes_of c.args.key)) ∙ ap (in_some (child_of meaning)) (sym c.child_at.ensures) in
    rw c.seen_in.ensures
    (sought_shared g.P.Payload.always_shared (meant_node meaning n) (bytes_of c.args.key) (seen_of meaning c.noted.result.seen)
    (ap (in_some (child_of meaning)) c.noted.ensures.child ∙ (c.in-Ok.ensures.child ∙ sym found))
    (count_means meaning n _ c.noted.ensures.count) (full_means meaning n _ c.noted.ensures.full))

pub returns : goal.returns
returns g c =
    let meaning = g.P.HasMeaning.meaning in
    let n = c.args.node.now in
    let found = child_means meaning n (next_byte n.prefix (bytes_of c.args.key)) ∙ ap (in_some (child_of meaning)) (sym c.child_at.ensures) in
    rw c.seen_in-in-Err.ensures
    (sought_none g.P.Payload.always_shared (meant_node meaning n) (bytes_of c.args.key) (seen_of meaning c.noted-in-Err.result.seen)
    (λ granted. false_true (c.in-Err.ensures.granted granted))
    (subst (λ x. HasPayload x) (sym found) (payload_means meaning _ c.in-Err.ensures.payload))
    (count_means meaning n _ c.noted-in-Err.ensures.count) (full_means meaning n _ c.noted-in-Err.ensures.full))
