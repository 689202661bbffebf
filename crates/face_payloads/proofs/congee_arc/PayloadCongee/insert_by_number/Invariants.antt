use Rattle.face_payloads.proofs.congee_arc.PayloadCongee.insert_by_number.Given as goal

abbrev pub ghosts-insert : goal.ghosts-insert
ghosts-insert g a = record { name = a.blank.name; parts = a.blank.parts }
