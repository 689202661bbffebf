use Rattle.share_maps.proofs.tests.charges.gone_on_both.Given as goal

-- the ledger that was just opened
abbrev pub ghosts-steps_after : goal.ghosts-steps_after
ghosts-steps_after g a = record { name = a.blank.name; parts = a.blank.parts }

abbrev pub ghosts-steps_after-2 : goal.ghosts-steps_after-2
ghosts-steps_after-2 g a = record { name = a.blank.name; parts = a.blank.parts }
