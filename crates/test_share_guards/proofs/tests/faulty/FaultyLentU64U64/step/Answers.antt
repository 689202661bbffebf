use Rattle.std.proofs.Common.{sym, ◌∙◌}
use Rattle.spec_olc.specs.Calls.{outline_of}
use Rattle.spec_olc.specs.Meaning.{in_some}
use Rattle.test_share_guards.proofs.Delays.{turned}
use Rattle.test_share_guards.proofs.tests.faulty.FaultyLentU64U64.step.Goals as goal

pub returns-clause-turns : goal.returns-clause-turns
returns-clause-turns g c = λ p known is_of.
    let was = sym (c.in-Some.ensures.value ∙ c.fault-fault.ensures.delayed) in
    let answer = in_some g.M.Lent.meaning c.args.env.answer in
    turned (outline_of c.args.op.now) p is_of g.M.Lent.meaning c.args.self.now.delayed c.in-Some.delayed c.args.id (g.M.Lent.place c.args.self.now.under c.args.id) answer _ _ _ was
    c.if-delayed-id.false known (λ ready. (rw (c.if-delayed-id.false, c.fault-fault.ensures.under) at c.turned.ensures.turns) ready answer)
