use Rattle.face_typed.proofs.typed_congee.Congee.compute_or_insert.Given as goal

abbrev pub ghosts-compute_or_insert : goal.ghosts-compute_or_insert
ghosts-compute_or_insert g a = record { name = a.blank.name; parts = a.blank.parts }
