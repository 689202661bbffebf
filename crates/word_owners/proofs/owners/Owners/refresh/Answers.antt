use Rattle.word_owners.proofs.Handles.{retired_same}
use Rattle.word_owners.proofs.owners.Owners.refresh.Goals as goal

pub returns-then-current-clause-scanned : goal.returns-then-current-clause-scanned
returns-then-current-clause-scanned c = λ now. c.requires.scanned c.if-current.true

pub returns-clause-row : goal.returns-clause-row
returns-clause-row c = retired_same c.adopt_all.new.seat.view c.scan.new.seat.view c.adopt_all.new.row.items c.scan.ensures.retired c.adopt_all.ensures.row
