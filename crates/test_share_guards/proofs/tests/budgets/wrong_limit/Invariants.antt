use Rattle.test_share_guards.proofs.tests.budgets.wrong_limit.Given as goal

-- the ledger that was just opened
abbrev pub ghosts-tally_with : goal.ghosts-tally_with
ghosts-tally_with g a = record { name = a.blank.name; parts = a.blank.parts }
