use Rattle.face_typed.proofs.typed_congee.Congee.get.Given as goal

abbrev pub ghosts-get : goal.ghosts-get
ghosts-get g a = record { name = a.blank.name; parts = a.blank.parts }
