use Rattle.share_maps.proofs.tests.rows.two_threads_count_up_by_closures.Given as goal

-- the ledger that was just opened
abbrev pub ghosts-counted_up : goal.ghosts-counted_up
ghosts-counted_up g a = record { name = a.blank.name; parts = a.blank.parts }

abbrev pub ghosts-counted_up-2 : goal.ghosts-counted_up-2
ghosts-counted_up-2 g a = record { name = a.blank.name; parts = a.blank.parts }
