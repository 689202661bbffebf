use Rattle.test_share_guards.proofs.tests.refused.owners_over.Given as goal

-- the ledger that was just opened
abbrev pub ghosts-owners_are_right : goal.ghosts-owners_are_right
ghosts-owners_are_right g a = record { name = a.blank.name; parts = a.blank.parts }
