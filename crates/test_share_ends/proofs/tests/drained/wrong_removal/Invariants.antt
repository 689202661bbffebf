use Rattle.test_share_ends.proofs.tests.drained.wrong_removal.Given as goal

-- the ledger that was just opened
abbrev pub ghosts-taken_out : goal.ghosts-taken_out
ghosts-taken_out g a = record { name = a.blank.name; parts = a.blank.parts }
