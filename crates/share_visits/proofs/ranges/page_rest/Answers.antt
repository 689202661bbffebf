use Rattle.std.proofs.Common.{arith, drop}
use Rattle.std.proofs.lemmas.List.{drop_all, length-drop, take_rest}
use Rattle.share_visits.specs.Written.{listed}
use Rattle.share_visits.proofs.Writing.{more}
use Rattle.spec_map.specs.Map.{between}
use Rattle.share_visits.proofs.ranges.page_rest.Goals as goal

pub overflow_add-result : goal.overflow_add-result
overflow_add-result g c =
    let many = (c.page_at.ensures.written c.requires.all.0 c.requires.all.1).as_many in
    let room = length-drop c.args.written c.args.buffer.now in
    omega (arith, many, room)

pub returns-clause-within : goal.returns-clause-within
returns-clause-within g c =
    let many = (c.page_at.ensures.written c.requires.all.0 c.requires.all.1).as_many in
    let room = length-drop c.args.written c.args.buffer.now in
    omega (arith, many, room)

pub returns-clause-written : goal.returns-clause-written
returns-clause-written g c = λ all h done before w is.
    let room = length-drop c.args.written c.args.buffer.now in
    more g.M.Pages.entry done (listed c.args.back (between all c.args.start _)) before c.args.buffer.now _ c.page_at.new.buffer _ c.args.written c.page_at.result w is
    (take_rest c.args.buffer.now c.args.written) (drop_all _ (drop c.args.written c.args.buffer.now) (omega (arith, room))) (c.page_at.ensures.written all h)
