use Rattle.test_share_ends.proofs.tests.owners.a_pop_returns_the_owner_itself.Given as goal

-- the ledger that was just opened
abbrev pub ghosts-popped_owner : goal.ghosts-popped_owner
ghosts-popped_owner g a = record { name = a.blank.name; parts = a.blank.parts }
