use Rattle.share_maps.proofs.tests.guards.nine_guards_in_one_thread.Given as goal

-- the ledger that was just opened
abbrev pub ghosts-nine_callers : goal.ghosts-nine_callers
ghosts-nine_callers g a = record { name = a.blank.name; parts = a.blank.parts }

abbrev pub ghosts-nine_callers-2 : goal.ghosts-nine_callers-2
ghosts-nine_callers-2 g a = record { name = a.blank.name; parts = a.blank.parts }
