use Rattle.test_share_guards.proofs.tests.faults.refused_by.Given as goal

-- the ledger that was just opened
abbrev pub ghosts-run_with : goal.ghosts-run_with
ghosts-run_with g a = record { name = a.blank.name; parts = a.blank.parts }
