use Rattle.test_share_ends.proofs.tests.many.a_range_is_removed_to_the_greatest_key.Given as goal

-- the ledger that was just opened
abbrev pub ghosts-to_the_last : goal.ghosts-to_the_last
ghosts-to_the_last g a = record { name = a.blank.name; parts = a.blank.parts }
