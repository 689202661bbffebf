use Rattle.face_typed.proofs.typed_congee.Congee.exchange.Given as goal

abbrev pub ghosts-compute_if_present : goal.ghosts-compute_if_present
ghosts-compute_if_present g a = record { name = a.blank.name; parts = a.blank.parts }
