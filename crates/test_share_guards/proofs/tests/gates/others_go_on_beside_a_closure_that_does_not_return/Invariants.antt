use Rattle.test_share_guards.proofs.tests.gates.others_go_on_beside_a_closure_that_does_not_return.Given as goal

-- the ledger that was just opened
abbrev pub ghosts-beside_a_closure : goal.ghosts-beside_a_closure
ghosts-beside_a_closure g a = record { name = a.blank.name; parts = a.blank.parts }

abbrev pub ghosts-beside_a_closure-2 : goal.ghosts-beside_a_closure-2
ghosts-beside_a_closure-2 g a = record { name = a.blank.name; parts = a.blank.parts }
