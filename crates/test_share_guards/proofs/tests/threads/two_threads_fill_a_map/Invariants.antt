use Rattle.test_share_guards.proofs.tests.threads.two_threads_fill_a_map.Given as goal

-- the ledger that was just opened
abbrev pub ghosts-filled_by_two : goal.ghosts-filled_by_two
ghosts-filled_by_two g a = record { name = a.blank.name; parts = a.blank.parts }
