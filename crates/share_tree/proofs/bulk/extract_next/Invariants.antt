use Rattle.share_tree.proofs.bulk.extract_next.Given as goal

abbrev pub ghosts-remove : goal.ghosts-remove
ghosts-remove g a = record { name = a.blank.name; parts = a.blank.parts }
