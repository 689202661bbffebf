use Rattle.share_maps.proofs.tests.rows.another_thread_inserts_in_the_middle_of_a_get.Given as goal

-- the ledger that was just opened
abbrev pub ghosts-meets_an_insertion : goal.ghosts-meets_an_insertion
ghosts-meets_an_insertion g a = record { name = a.blank.name; parts = a.blank.parts }
