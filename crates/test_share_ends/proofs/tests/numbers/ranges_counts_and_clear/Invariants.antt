use Rattle.test_share_ends.proofs.tests.numbers.ranges_counts_and_clear.Given as goal

-- the ledger that was just opened
abbrev pub ghosts-by_rows : goal.ghosts-by_rows
ghosts-by_rows g a = record { name = a.blank.name; parts = a.blank.parts }
