use Rattle.share_maps.proofs.tests.rows.two_threads_fill_a_map.Given as goal

-- the ledger that was just opened
abbrev pub ghosts-filled_by_two : goal.ghosts-filled_by_two
ghosts-filled_by_two g a = record { name = a.blank.name; parts = a.blank.parts }

abbrev pub ghosts-filled_by_two-2 : goal.ghosts-filled_by_two-2
ghosts-filled_by_two-2 g a = record { name = a.blank.name; parts = a.blank.parts }
