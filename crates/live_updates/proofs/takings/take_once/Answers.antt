use Rattle.std.proofs.Common.{◌≡◌, ◌∙◌, arith}
use Rattle.live_growth.specs.Calls.{IsReady}
use Rattle.live_growth.proofs.Ready.{ready_kept, ready_last, ready_rest}
use Rattle.live_growth.proofs.StoodOn.{position_rest}
use Rattle.live_reads.specs.Positions.{KnowsPosition}
use Rattle.live_updates.proofs.takings.take_once.Goals as goal
use Rattle.live_updates.proofs.takings.take_once.Goals.{In-Some, After-part_from-part}

-- A PATH was gone down
module _ (c : In-Some) where
  knows : KnowsPosition c.descend_from.new.seat.view c.args.key c.in-Some.end.position
  knows = c.in-Some.ensures.end.0

  ready : IsReady c.descend_from.new.seat.view c.args.room.now
  ready = ready_kept c.args.seat.now.view c.descend_from.new.seat.view c.args.room.now c.requires.ready c.in-Some.ensures.keeps

-- and ends at a leaf, which is the last one then
module _ (c : After-part_from-part) where
  abbrev some : In-Some
  some = (goal.at.After-part_from-part c).In-Some

  leaf : c.in-Some.end.position.height ≡ 1
  leaf = let low = (knows some).low in omega (arith, low, c.if-height-gt1.false)

  noted : IsReady c.descend_from.new.seat.view (record c.args.room.now { last = record { key = c.args.key; position = c.in-Some.end.position } })
  noted = ready_last c.descend_from.new.seat.view c.args.room.now (record { key = c.args.key; position = c.in-Some.end.position }) (ready some) (λ _. (knows some, leaf))

pub returns-in_default-clause-ready : goal.returns-in_default-clause-ready
returns-in_default-clause-ready c =
    let t = c.descend_from.ensures in
    ready_kept c.args.seat.now.view c.descend_from.new.seat.view c.args.room.now c.requires.ready t.keeps

pub returns-then-height-gt1-clause-ready : goal.returns-then-height-gt1-clause-ready
returns-then-height-gt1-clause-ready c = ready (goal.at.returns-then-height-gt1-clause-ready c).In-Some

pub take_pairs-requires-clause-open : goal.take_pairs-requires-clause-open
take_pairs-requires-clause-open c =
    let p = (goal.at.take_pairs-requires-clause-open c).After-part_from-part in
    (knows (some p), c.in-Some.ensures.leaf (leaf p))

pub take_pairs-requires-clause-rests : goal.take_pairs-requires-clause-rests
take_pairs-requires-clause-rests c = let t = c.in-Some.ensures.keeps in (t.own ∙ c.requires.ready.own, t.holds ∙ c.requires.ready.holds)

pub returns-in_default-take_pairs-clause-ready : goal.returns-in_default-take_pairs-clause-ready
returns-in_default-take_pairs-clause-ready c =
    let p = (goal.at.returns-in_default-take_pairs-clause-ready c).After-part_from-part in
    let e = c.take_pairs.ensures in
    ready_rest c.descend_from.new.seat.view c.take_pairs.new.seat.view (record c.args.room.now { last = record { key = c.args.key; position = c.in-Some.end.position } }) (noted p) e.rest

pub tidy_leaf-requires-clause-ready : goal.tidy_leaf-requires-clause-ready
tidy_leaf-requires-clause-ready c =
    let p = (goal.at.tidy_leaf-requires-clause-ready c).After-part_from-part in
    ready_rest c.descend_from.new.seat.view c.take_pairs.new.seat.view (record c.args.room.now { last = record { key = c.args.key; position = c.in-Some.end.position } }) (noted p) c.take_pairs.ensures.rest

pub tidy_leaf-requires-clause-position : goal.tidy_leaf-requires-clause-position
tidy_leaf-requires-clause-position c =
    let p = (goal.at.tidy_leaf-requires-clause-position c).After-part_from-part in
    position_rest c.descend_from.new.seat.view c.take_pairs.new.seat.view c.args.key c.in-Some.end.position c.take_pairs.ensures.rest (knows (some p))

pub returns-clause-ready : goal.returns-clause-ready
returns-clause-ready c =
    let e = c.tidy_leaf.ensures in
    e.ready
