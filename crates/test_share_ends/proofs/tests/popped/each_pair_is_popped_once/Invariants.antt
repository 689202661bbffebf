use Rattle.test_share_ends.proofs.tests.popped.each_pair_is_popped_once.Given as goal

-- the ledger that was just opened
abbrev pub ghosts-from_both_ends : goal.ghosts-from_both_ends
ghosts-from_both_ends g a = record { name = a.blank.name; parts = a.blank.parts }
