use Rattle.test_share_guards.proofs.tests.callers.a_thousand_guards.Given as goal

-- the ledger that was just opened
abbrev pub ghosts-a_thousand : goal.ghosts-a_thousand
ghosts-a_thousand g a = record { name = a.blank.name; parts = a.blank.parts }
