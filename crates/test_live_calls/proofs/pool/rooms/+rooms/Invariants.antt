use Rattle.test_live_calls.proofs.pool.rooms.+rooms.Given as goal

abbrev pub decreases-rooms : goal.decreases-rooms
decreases-rooms l = l.count
