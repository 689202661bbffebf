use Rattle.test_share_guards.proofs.tests.refused.right_over.Given as goal

-- the ledger that was just opened
abbrev pub ghosts-numbers_are_right : goal.ghosts-numbers_are_right
ghosts-numbers_are_right g a = record { name = a.blank.name; parts = a.blank.parts }
