use Rattle.face_payloads.proofs.congee_arc.PayloadCongee.compute_if_present.Given as goal

abbrev pub ghosts-compute_if_present : goal.ghosts-compute_if_present
ghosts-compute_if_present g a = record { name = a.blank.name; parts = a.blank.parts }
