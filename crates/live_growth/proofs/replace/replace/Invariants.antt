use Rattle.live_nodes.specs.Rows.{nth, draft_of}
use Rattle.live_growth.proofs.replace.replace.Given as goal

abbrev pub ghosts-unlock_again : goal.ghosts-unlock_again
ghosts-unlock_again g a = record { content = draft_of (nth 0 a.seat.now.view.holds) }
