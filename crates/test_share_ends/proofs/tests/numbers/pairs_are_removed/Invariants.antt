use Rattle.test_share_ends.proofs.tests.numbers.pairs_are_removed.Given as goal

-- the ledger that was just opened
abbrev pub ghosts-by_removals : goal.ghosts-by_removals
ghosts-by_removals g a = record { name = a.blank.name; parts = a.blank.parts }
