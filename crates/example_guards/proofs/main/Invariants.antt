-- The ledger that was just opened.
use Rattle.example_guards.proofs.main.Given as goal

abbrev pub ghosts-callers : goal.ghosts-callers
ghosts-callers g a = record { name = a.blank.name; parts = a.blank.parts }
