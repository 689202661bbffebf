use Rattle.example_counted.proofs.main.Given as goal

-- the ledger that was just opened
abbrev pub ghosts-filled_by_two : goal.ghosts-filled_by_two
ghosts-filled_by_two g a = record { name = a.blank.name; parts = a.blank.parts }
