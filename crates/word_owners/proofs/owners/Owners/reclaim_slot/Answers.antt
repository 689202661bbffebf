use Rattle.word_owners.proofs.Handles.{left, retired_still, still_scanned}
use Rattle.word_owners.proofs.owners.Owners.reclaim_slot.Goals as goal

pub returns-clause-row : goal.returns-clause-row
returns-clause-row c =
    let v = c.reclaim_by.new.seat.view in let w = c.release.new.seat.view in retired_still v w c.reclaim_by.new.row.items (left v w c.release.ensures.seat.1) c.reclaim_by.ensures.row

pub returns-clause-scanned : goal.returns-clause-scanned
returns-clause-scanned c =
    let v = c.reclaim_by.new.seat.view in let w = c.release.new.seat.view in still_scanned v w c.args.found.now (left v w c.release.ensures.seat.1) c.reclaim_by.ensures.scanned
