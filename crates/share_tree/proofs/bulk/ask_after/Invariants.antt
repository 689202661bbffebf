use Rattle.share_tree.proofs.bulk.ask_after.Given as goal

abbrev pub ghosts-remove : goal.ghosts-remove
ghosts-remove g a = record { name = a.blank.name; parts = a.blank.parts }
