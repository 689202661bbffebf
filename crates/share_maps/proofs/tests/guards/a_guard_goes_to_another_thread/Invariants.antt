use Rattle.share_maps.proofs.tests.guards.a_guard_goes_to_another_thread.Given as goal

-- the ledger that was just opened
abbrev pub ghosts-passed_on : goal.ghosts-passed_on
ghosts-passed_on g a = record { name = a.blank.name; parts = a.blank.parts }

abbrev pub ghosts-passed_on-2 : goal.ghosts-passed_on-2
ghosts-passed_on-2 g a = record { name = a.blank.name; parts = a.blank.parts }
