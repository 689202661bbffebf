use Rattle.std.proofs.Common.{◌∙◌}
use Rattle.word_owners.proofs.Handles.{looks_twice, popped, retired_still, still_scanned}
use Rattle.word_owners.proofs.owners.Owners.reclaim_by.Goals as goal

pub reclaim_one-requires-clause-retired : goal.reclaim_one-requires-clause-retired
reclaim_one-requires-clause-retired c =
    (popped c.loop-ticket.seat.view c.loop-ticket.row.items c.pop.new.self.items c.in-Some.ticket c.in-Some.ensures.items c.loop-ticket.invariant.3).0

pub returns-in-Some-reclaim_one-clause-row : goal.returns-in-Some-reclaim_one-clause-row
returns-in-Some-reclaim_one-clause-row c =
    let p = popped c.loop-ticket.seat.view c.loop-ticket.row.items c.pop.new.self.items c.in-Some.ticket c.in-Some.ensures.items c.loop-ticket.invariant.3 in
    retired_still c.loop-ticket.seat.view c.reclaim_one.new.seat.view c.pop.new.self.items c.reclaim_one.ensures.row p.1

pub returns-in-Some-reclaim_one-clause-scanned : goal.returns-in-Some-reclaim_one-clause-scanned
returns-in-Some-reclaim_one-clause-scanned c = still_scanned c.loop-ticket.seat.view c.reclaim_one.new.seat.view c.args.found.now c.reclaim_one.ensures.row c.loop-ticket.invariant.4

pub loop-ticket-preserved : goal.loop-ticket-preserved
loop-ticket-preserved c =
    let inv = c.loop-ticket.invariant in
    let v = c.loop-ticket.seat.view in
    let w = c.reclaim_one.new.seat.view in
    let row = c.reclaim_one.ensures.row in
    let p = popped v c.loop-ticket.row.items c.pop.new.self.items c.in-Some.ticket c.in-Some.ensures.items inv.3 in (
      c.reclaim_one.ensures.table ∙ inv.0,
      c.pop.ensures.capacity ∙ inv.1,
      looks_twice c.args.seat.now.view v w inv.2 c.in_default-reclaim_one.ensures.lent,
      retired_still v w c.pop.new.self.items row p.1,
      still_scanned v w c.args.found.now row inv.4,
    )
