use Rattle.live_growth.proofs.map.Guard.meet.Given as goal

abbrev pub ghosts-meet : goal.ghosts-meet
ghosts-meet a = record { first = a.a.now.id; second = a.b.now.id }
