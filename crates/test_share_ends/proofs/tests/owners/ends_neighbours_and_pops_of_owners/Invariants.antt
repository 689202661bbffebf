use Rattle.test_share_ends.proofs.tests.owners.ends_neighbours_and_pops_of_owners.Given as goal

-- the ledger that was just opened
abbrev pub ghosts-by_rows : goal.ghosts-by_rows
ghosts-by_rows g a = record { name = a.blank.name; parts = a.blank.parts }
