use Rattle.test_share_guards.proofs.tests.gates.goes_on.Given as goal

-- the ledger that was just opened
abbrev pub ghosts-beside : goal.ghosts-beside
ghosts-beside g a = record { name = a.blank.name; parts = a.blank.parts }
