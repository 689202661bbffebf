use Rattle.test_share_guards.proofs.tests.gates.guards_outlive_their_threads.Given as goal

-- the ledger that was just opened
abbrev pub ghosts-after_threads : goal.ghosts-after_threads
ghosts-after_threads g a = record { name = a.blank.name; parts = a.blank.parts }

abbrev pub ghosts-after_threads-2 : goal.ghosts-after_threads-2
ghosts-after_threads-2 g a = record { name = a.blank.name; parts = a.blank.parts }
