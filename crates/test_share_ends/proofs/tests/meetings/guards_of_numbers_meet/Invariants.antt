use Rattle.test_share_ends.proofs.tests.meetings.guards_of_numbers_meet.Given as goal

-- the ledger that was just opened
abbrev pub ghosts-numbers_over_events : goal.ghosts-numbers_over_events
ghosts-numbers_over_events g a = record { name = a.blank.name; parts = a.blank.parts }

abbrev pub ghosts-numbers_over_tree : goal.ghosts-numbers_over_tree
ghosts-numbers_over_tree g a = record { name = a.blank.name; parts = a.blank.parts }
