use Rattle.face_typed.proofs.typed_congee.Congee.insert.Given as goal

abbrev pub ghosts-insert : goal.ghosts-insert
ghosts-insert g a = record { name = a.blank.name; parts = a.blank.parts }
