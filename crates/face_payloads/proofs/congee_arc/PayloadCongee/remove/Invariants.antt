use Rattle.face_payloads.proofs.congee_arc.PayloadCongee.remove.Given as goal

abbrev pub ghosts-remove : goal.ghosts-remove
ghosts-remove g a = record { name = a.blank.name; parts = a.blank.parts }
