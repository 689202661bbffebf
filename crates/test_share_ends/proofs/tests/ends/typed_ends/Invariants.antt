use Rattle.test_share_ends.proofs.tests.ends.typed_ends.Given as goal

-- the ledger that was just opened
abbrev pub ghosts-typed : goal.ghosts-typed
ghosts-typed g a = record { name = a.blank.name; parts = a.blank.parts }
