use Rattle.std.proofs.Common.{None}
use Rattle.live_nodes.specs.Rows.{nth, draft_of}
use Rattle.live_growth.specs.Holds.{number_at}
use Rattle.live_growth.proofs.split.split.Given as goal

abbrev pub ghosts-parts : goal.ghosts-parts
ghosts-parts g a = record { number = number_at 1 a.seat.now.view.holds; word = None }

abbrev pub ghosts-unlock_again : goal.ghosts-unlock_again
ghosts-unlock_again g a = record { content = draft_of (nth 0 a.seat.now.view.holds) }
