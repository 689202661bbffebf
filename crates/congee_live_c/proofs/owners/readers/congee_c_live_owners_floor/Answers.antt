use Rattle.std.proofs.Common.{rules, arith, pos, ◌≡◌, ◌+◌, IfOk, subst}
use Rattle.live_scans.specs.Floors.{HasBefore}
use Rattle.std.proofs.lemmas.Grind.{common_steps}
use Rattle.congee_live_c.proofs.owners.readers.congee_c_live_owners_floor.Goals as goal

pub returns-clause-present : goal.returns-clause-present
returns-clause-present c = λ present.
    let is : c.answer_pair.result ≡ pos 1 = first_of (search rules, grind (arith, common_steps)) in
    let all : IfOk c.floor.result (λ found. HasBefore c.args.handle.now.held.tickets (c.args.key + 1) found c.floor.new.handle.tickets) = first_of (search rules, grind (arith, common_steps)) in
    subst (λ z. IfOk z (λ found. HasBefore c.args.handle.now.held.tickets (c.args.key + 1) found c.floor.new.handle.tickets)) (c.answer_pair.ensures.present is) all

pub returns-clause-absent : goal.returns-clause-absent
returns-clause-absent c = λ absent.
    let is : c.answer_pair.result ≡ pos 0 = first_of (search rules, grind (arith, common_steps)) in
    let all : IfOk c.floor.result (λ found. HasBefore c.args.handle.now.held.tickets (c.args.key + 1) found c.floor.new.handle.tickets) = first_of (search rules, grind (arith, common_steps)) in
    subst (λ z. IfOk z (λ found. HasBefore c.args.handle.now.held.tickets (c.args.key + 1) found c.floor.new.handle.tickets)) (c.answer_pair.ensures.absent is) all
