use Rattle.test_share_guards.proofs.tests.faulty.Faulty.turned.Goals as goal

pub returns-in_default-clause-turns : goal.returns-in_default-clause-turns
returns-in_default-clause-turns g c = rw c.in-Begun.is c.begun.ensures.turns
