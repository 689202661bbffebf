use Rattle.test_share_guards.proofs.tests.gates.a_closure_changes_its_key.Given as goal

-- the ledger that was just opened
abbrev pub ghosts-changes_its_key : goal.ghosts-changes_its_key
ghosts-changes_its_key g a = record { name = a.blank.name; parts = a.blank.parts }

abbrev pub ghosts-changes_its_key-2 : goal.ghosts-changes_its_key-2
ghosts-changes_its_key-2 g a = record { name = a.blank.name; parts = a.blank.parts }
