use Rattle.test_share_ends.proofs.tests.meetings.guards_of_owners_meet.Given as goal

-- the ledger that was just opened
abbrev pub ghosts-owners_over_events : goal.ghosts-owners_over_events
ghosts-owners_over_events g a = record { name = a.blank.name; parts = a.blank.parts }

abbrev pub ghosts-owners_over_tree : goal.ghosts-owners_over_tree
ghosts-owners_over_tree g a = record { name = a.blank.name; parts = a.blank.parts }
