use Rattle.test_share_guards.proofs.tests.meetings.guards_meet_in_the_middle_of_a_call.Given as goal

-- the ledger that was just opened
abbrev pub ghosts-met_in_a_call : goal.ghosts-met_in_a_call
ghosts-met_in_a_call g a = record { name = a.blank.name; parts = a.blank.parts }
