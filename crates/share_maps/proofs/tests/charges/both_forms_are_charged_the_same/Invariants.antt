use Rattle.share_maps.proofs.tests.charges.both_forms_are_charged_the_same.Given as goal

-- the ledger that was just opened
abbrev pub ghosts-mixed_on : goal.ghosts-mixed_on
ghosts-mixed_on g a = record { name = a.blank.name; parts = a.blank.parts }

abbrev pub ghosts-mixed_on-2 : goal.ghosts-mixed_on-2
ghosts-mixed_on-2 g a = record { name = a.blank.name; parts = a.blank.parts }
