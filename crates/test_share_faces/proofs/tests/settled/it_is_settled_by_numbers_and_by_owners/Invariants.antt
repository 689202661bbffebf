use Rattle.test_share_faces.proofs.tests.settled.it_is_settled_by_numbers_and_by_owners.Given as goal

-- the ledger that was just opened
abbrev pub ghosts-numbers_over_tree : goal.ghosts-numbers_over_tree
ghosts-numbers_over_tree g a = record { name = a.blank.name; parts = a.blank.parts }

abbrev pub ghosts-owners_over_events : goal.ghosts-owners_over_events
ghosts-owners_over_events g a = record { name = a.blank.name; parts = a.blank.parts }
