use Rattle.test_share_ends.proofs.tests.many.pairs_are_taken_out_by_closures.Given as goal

-- the ledger that was just opened
abbrev pub ghosts-by_closures : goal.ghosts-by_closures
ghosts-by_closures g a = record { name = a.blank.name; parts = a.blank.parts }
