use Rattle.test_share_faces.proofs.tests.upward.least_pairs_from_a_key_on.Given as goal

-- the ledger that was just opened
abbrev pub ghosts-of_events : goal.ghosts-of_events
ghosts-of_events g a = record { name = a.blank.name; parts = a.blank.parts }

abbrev pub ghosts-of_typed_events : goal.ghosts-of_typed_events
ghosts-of_typed_events g a = record { name = a.blank.name; parts = a.blank.parts }

abbrev pub ghosts-of_tree : goal.ghosts-of_tree
ghosts-of_tree g a = record { name = a.blank.name; parts = a.blank.parts }
