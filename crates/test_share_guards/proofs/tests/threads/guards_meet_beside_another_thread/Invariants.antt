use Rattle.test_share_guards.proofs.tests.threads.guards_meet_beside_another_thread.Given as goal

-- the ledger that was just opened
abbrev pub ghosts-met_by_two : goal.ghosts-met_by_two
ghosts-met_by_two g a = record { name = a.blank.name; parts = a.blank.parts }
