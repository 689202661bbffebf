use Rattle.share_maps.proofs.tests.rows.a_closure_calls_the_map.Given as goal

-- the ledger that was just opened
abbrev pub ghosts-calls_within : goal.ghosts-calls_within
ghosts-calls_within g a = record { name = a.blank.name; parts = a.blank.parts }

abbrev pub ghosts-calls_within-2 : goal.ghosts-calls_within-2
ghosts-calls_within-2 g a = record { name = a.blank.name; parts = a.blank.parts }
