use Rattle.test_share_ends.proofs.tests.inserted.typed_pairs_inserted.Given as goal

-- the ledger that was just opened
abbrev pub ghosts-typed : goal.ghosts-typed
ghosts-typed g a = record { name = a.blank.name; parts = a.blank.parts }
