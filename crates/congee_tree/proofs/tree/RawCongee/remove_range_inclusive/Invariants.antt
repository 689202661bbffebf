use Rattle.congee_tree.proofs.tree.RawCongee.remove_range_inclusive.Given as goal

abbrev pub ghosts-remove : goal.ghosts-remove
ghosts-remove g a = record { name = a.blank.name; parts = a.blank.parts }
