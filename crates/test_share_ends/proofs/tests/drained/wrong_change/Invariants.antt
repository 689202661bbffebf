use Rattle.test_share_ends.proofs.tests.drained.wrong_change.Given as goal

-- the ledger that was just opened
abbrev pub ghosts-over_events : goal.ghosts-over_events
ghosts-over_events g a = record { name = a.blank.name; parts = a.blank.parts }

abbrev pub ghosts-over_tree : goal.ghosts-over_tree
ghosts-over_tree g a = record { name = a.blank.name; parts = a.blank.parts }
