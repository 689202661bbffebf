use Rattle.share_maps.proofs.tests.guards.guards_are_dropped_with_their_seats.Given as goal

-- the ledger that was just opened
abbrev pub ghosts-dropped : goal.ghosts-dropped
ghosts-dropped g a = record { name = a.blank.name; parts = a.blank.parts }

abbrev pub ghosts-dropped-2 : goal.ghosts-dropped-2
ghosts-dropped-2 g a = record { name = a.blank.name; parts = a.blank.parts }
