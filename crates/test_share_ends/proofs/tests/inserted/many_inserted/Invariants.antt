use Rattle.test_share_ends.proofs.tests.inserted.many_inserted.Given as goal

-- the ledger that was just opened
abbrev pub ghosts-is_right : goal.ghosts-is_right
ghosts-is_right g a = record { name = a.blank.name; parts = a.blank.parts }
