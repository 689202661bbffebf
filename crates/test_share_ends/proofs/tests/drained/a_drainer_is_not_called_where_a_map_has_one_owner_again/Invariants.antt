use Rattle.test_share_ends.proofs.tests.drained.a_drainer_is_not_called_where_a_map_has_one_owner_again.Given as goal

-- the ledger that was just opened
abbrev pub ghosts-owned : goal.ghosts-owned
ghosts-owned g a = record { name = a.blank.name; parts = a.blank.parts }
