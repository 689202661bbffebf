use Rattle.std.proofs.Common.{◌∙◌}
use Rattle.word_owners.proofs.Handles.{left, looks_retiring, looks_twice, pushed, retired_still}
use Rattle.word_owners.proofs.owners.Owners.adopt_all.Goals as goal

pub returns-in_default-clause-row : goal.returns-in_default-clause-row
returns-in_default-clause-row c =
    let v = c.loop-seat.seat.view in let w = c.adopt_one.new.seat.view in retired_still v w c.loop-seat.row.items (left v w c.in_default.ensures.none) c.loop-seat.invariant.3

pub loop-seat-preserved : goal.loop-seat-preserved
loop-seat-preserved c =
    let inv = c.loop-seat.invariant in
    let v = c.loop-seat.seat.view in
    let w = c.adopt_one.new.seat.view in
    let e = c.in-Some.ensures.retired in (
      c.adopt_one.ensures.table ∙ inv.0,
      c.push_reserved.ensures.capacity ∙ inv.1,
      looks_twice c.args.seat.now.view v w inv.2 (looks_retiring v w c.in-Some.ticket e),
      pushed v w c.in-Some.ticket c.loop-seat.row.items c.push_reserved.new.self.items e inv.3 c.push_reserved.ensures.items,
    )
