use Rattle.share_maps.proofs.tests.charges.two_or_four_slots_are_reclaimed.Given as goal

-- the ledger that was just opened
abbrev pub ghosts-kept_by_a_get : goal.ghosts-kept_by_a_get
ghosts-kept_by_a_get g a = record { name = a.blank.name; parts = a.blank.parts }
