use Rattle.std.proofs.Common.{ap, ◌∙◌}
use Rattle.spec_olc.specs.Meaning.{in_some, child_of, seen_of}
use Rattle.olc_state.specs.inner.Meant.{meant_node}
use Rattle.olc_state.proofs.Unlike.{false_true}
use Rattle.olc_descend.proofs.Events.{test_false}
use Rattle.olc_descend.proofs.Looks.{looks_shared, looks_open, looks_refused, found_means, payload_means, count_means, full_means}
use Rattle.olc_descend.proofs.looking.look.Goals as goal

pub returns-in-Ok-clause-some : goal.returns-in-Ok-clause-some
returns-in-Ok-clause-some g c =
    let meaning = g.P.HasMeaning.meaning in
    looks_shared g.P.Payload.always_shared g.P.HasMeaning.same_meaning (meant_node meaning c.args.node.now) c.args.outline.now c.requires _ (found_means meaning c.args.node.now c.args.outline.now c.key.result _ c.child_at.ensures c.key.ensures)
    (seen_of meaning c.noted.result.seen) (in_some meaning c.noted.result.spare) (in_some meaning c.noted.result.question) (count_means meaning c.args.node.now _ c.noted.ensures.count) (full_means meaning c.args.node.now _ c.noted.ensures.full)
    (ap (in_some (child_of meaning)) c.noted.ensures.child ∙ c.in-Ok.ensures.child) (ap (in_some meaning) c.noted.ensures.spare ∙ c.in-Ok.ensures.spare)
    (λ closure. ap (in_some meaning) c.noted.ensures.question ∙ c.in-Ok.ensures.question (c.has_closure.ensures.1 closure))

pub returns-then-shares_none-clause-some : goal.returns-then-shares_none-clause-some
returns-then-shares_none-clause-some g c =
    let meaning = g.P.HasMeaning.meaning in
    looks_open g.P.Payload.always_shared g.P.HasMeaning.same_meaning (meant_node meaning c.args.node.now) c.args.outline.now c.requires _ (found_means meaning c.args.node.now c.args.outline.now c.key.result _ c.child_at.ensures c.key.ensures)
    (seen_of meaning c.noted-then-shares_none.result.seen) (in_some meaning c.noted-then-shares_none.result.spare) (in_some meaning c.noted-then-shares_none.result.question) (count_means meaning c.args.node.now _ c.noted-then-shares_none.ensures.count) (full_means meaning c.args.node.now _ c.noted-then-shares_none.ensures.full)
    (c.shares_none.ensures.0 c.if-shares_none.true) (λ granted. false_true (c.in-Err.ensures.granted granted)) (payload_means meaning _ c.in-Err.ensures.payload) (ap (in_some (child_of meaning)) c.noted-then-shares_none.ensures.child)

pub returns-else-shares_none-clause-none : goal.returns-else-shares_none-clause-none
returns-else-shares_none-clause-none g c =
    let meaning = g.P.HasMeaning.meaning in
    looks_refused g.P.Payload.always_shared g.P.HasMeaning.same_meaning (meant_node meaning c.args.node.now) c.args.outline.now c.requires _ (found_means meaning c.args.node.now c.args.outline.now c.key.result _ c.child_at.ensures c.key.ensures)
    (λ shares. test_false _ c.if-shares_none.false (c.shares_none.ensures.1 shares)) (λ granted. false_true (c.in-Err.ensures.granted granted)) (payload_means meaning _ c.in-Err.ensures.payload)
