use Rattle.test_share_guards.proofs.tests.meetings.guards_that_meet.Given as goal

-- the ledger that was just opened
abbrev pub ghosts-two_that_meet : goal.ghosts-two_that_meet
ghosts-two_that_meet g a = record { name = a.blank.name; parts = a.blank.parts }
