use Rattle.test_live_calls.proofs.pool.rooms.+all_stored.Given as goal

abbrev pub decreases-all_stored : goal.decreases-all_stored
decreases-all_stored l = l.count
