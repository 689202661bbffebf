use Rattle.share_maps.proofs.tests.owners.owners_are_counted_back_to_one.Given as goal

-- the ledger that was just opened
abbrev pub ghosts-owned_by_two : goal.ghosts-owned_by_two
ghosts-owned_by_two g a = record { name = a.blank.name; parts = a.blank.parts }

abbrev pub ghosts-owned_by_two-2 : goal.ghosts-owned_by_two-2
ghosts-owned_by_two-2 g a = record { name = a.blank.name; parts = a.blank.parts }
