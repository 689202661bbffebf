use Rattle.test_share_guards.proofs.tests.refusals.a_refused_guard_changes_nothing.Given as goal

-- the ledger that was just opened
abbrev pub ghosts-refused_twice : goal.ghosts-refused_twice
ghosts-refused_twice g a = record { name = a.blank.name; parts = a.blank.parts }
