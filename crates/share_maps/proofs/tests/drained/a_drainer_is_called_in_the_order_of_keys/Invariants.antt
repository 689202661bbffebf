use Rattle.share_maps.proofs.tests.drained.a_drainer_is_called_in_the_order_of_keys.Given as goal

-- the ledger that was just opened
abbrev pub ghosts-drained : goal.ghosts-drained
ghosts-drained g a = record { name = a.blank.name; parts = a.blank.parts }

abbrev pub ghosts-drained-2 : goal.ghosts-drained-2
ghosts-drained-2 g a = record { name = a.blank.name; parts = a.blank.parts }
