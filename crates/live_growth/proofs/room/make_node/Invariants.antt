use Rattle.live_growth.proofs.room.make_node.Given as goal

abbrev pub ghosts-make : goal.ghosts-make
ghosts-make a = record { form = a.form }
