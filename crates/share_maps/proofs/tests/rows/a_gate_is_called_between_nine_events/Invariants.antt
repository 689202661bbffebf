use Rattle.share_maps.proofs.tests.rows.a_gate_is_called_between_nine_events.Given as goal

-- the ledger that was just opened
abbrev pub ghosts-gated_alone : goal.ghosts-gated_alone
ghosts-gated_alone g a = record { name = a.blank.name; parts = a.blank.parts }

abbrev pub ghosts-gated_alone-2 : goal.ghosts-gated_alone-2
ghosts-gated_alone-2 g a = record { name = a.blank.name; parts = a.blank.parts }
