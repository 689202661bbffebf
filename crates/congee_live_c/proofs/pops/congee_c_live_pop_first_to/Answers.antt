use Rattle.std.proofs.Common.{rules, arith, pos, ◌≡◌, IfOk, subst, true, ◌+◌}
use Rattle.live_pool.specs.Pops.{HasPopped}
use Rattle.std.proofs.lemmas.Grind.{common_steps}
use Rattle.congee_live_c.proofs.pops.congee_c_live_pop_first_to.Goals as goal

pub returns-clause-present : goal.returns-clause-present
returns-clause-present c = λ present.
    let is : c.answer_pair.result ≡ pos 1 = first_of (search rules, grind (arith, common_steps)) in
    let all : IfOk c.pop.result (λ found. HasPopped true 0 (c.args.key + 1) c.args.handle.now.held.guard found c.pop.new.guard) = first_of (search rules, grind (arith, common_steps)) in
    subst (λ z. IfOk z (λ found. HasPopped true 0 (c.args.key + 1) c.args.handle.now.held.guard found c.pop.new.guard)) (c.answer_pair.ensures.present is) all

pub returns-clause-absent : goal.returns-clause-absent
returns-clause-absent c = λ absent.
    let is : c.answer_pair.result ≡ pos 0 = first_of (search rules, grind (arith, common_steps)) in
    let all : IfOk c.pop.result (λ found. HasPopped true 0 (c.args.key + 1) c.args.handle.now.held.guard found c.pop.new.guard) = first_of (search rules, grind (arith, common_steps)) in
    subst (λ z. IfOk z (λ found. HasPopped true 0 (c.args.key + 1) c.args.handle.now.held.guard found c.pop.new.guard)) (c.answer_pair.ensures.absent is) all
