use Rattle.test_share_faces.proofs.tests.settled.the_whole_share_is_settled_as_an_entry.Given as goal

-- the ledger that was just opened
abbrev pub ghosts-typed_over_events : goal.ghosts-typed_over_events
ghosts-typed_over_events g a = record { name = a.blank.name; parts = a.blank.parts }

abbrev pub ghosts-typed_over_tree : goal.ghosts-typed_over_tree
ghosts-typed_over_tree g a = record { name = a.blank.name; parts = a.blank.parts }
