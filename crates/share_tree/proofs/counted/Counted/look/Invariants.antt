use Rattle.share_tree.proofs.counted.Counted.look.Given as goal

abbrev pub ghosts-get : goal.ghosts-get
ghosts-get g a = record { name = a.blank.name; parts = a.blank.parts }
