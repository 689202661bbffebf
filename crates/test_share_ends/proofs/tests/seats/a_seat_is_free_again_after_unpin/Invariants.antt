use Rattle.test_share_ends.proofs.tests.seats.a_seat_is_free_again_after_unpin.Given as goal

-- the ledger that was just opened
abbrev pub ghosts-are_freed : goal.ghosts-are_freed
ghosts-are_freed g a = record { name = a.blank.name; parts = a.blank.parts }

abbrev pub ghosts-are_freed_by_number : goal.ghosts-are_freed_by_number
ghosts-are_freed_by_number g a = record { name = a.blank.name; parts = a.blank.parts }

abbrev pub ghosts-are_freed_by_owner : goal.ghosts-are_freed_by_owner
ghosts-are_freed_by_owner g a = record { name = a.blank.name; parts = a.blank.parts }
