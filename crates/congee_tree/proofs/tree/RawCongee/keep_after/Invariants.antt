use Rattle.congee_tree.proofs.tree.RawCongee.keep_after.Given as goal

abbrev pub ghosts-keep_run : goal.ghosts-keep_run
ghosts-keep_run g a = record { name = a.blank.name; parts = a.blank.parts }

abbrev pub ghosts-remove : goal.ghosts-remove
ghosts-remove g a = record { name = a.blank.name; parts = a.blank.parts }
