use Rattle.test_share_ends.proofs.tests.listed.a_range_is_removed.Given as goal

-- the ledger that was just opened
abbrev pub ghosts-by_range : goal.ghosts-by_range
ghosts-by_range g a = record { name = a.blank.name; parts = a.blank.parts }
