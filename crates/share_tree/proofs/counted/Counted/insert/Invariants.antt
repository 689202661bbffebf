use Rattle.share_tree.proofs.counted.Counted.insert.Given as goal

abbrev pub ghosts-insert : goal.ghosts-insert
ghosts-insert g a = record { name = a.blank.name; parts = a.blank.parts }
