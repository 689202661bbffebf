use Rattle.face_payloads.proofs.congee_arc.PayloadCongee.get_by_number.Given as goal

abbrev pub ghosts-get : goal.ghosts-get
ghosts-get g a = record { name = a.blank.name; parts = a.blank.parts }
