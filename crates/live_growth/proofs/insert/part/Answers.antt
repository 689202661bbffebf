use Rattle.std.proofs.Common.{rules, arith, ◌≡◌, ◌≢◌, ◌∙◌}
use Rattle.live_growth.specs.Calls.{IsReady}
use Rattle.live_growth.proofs.Ready.{ready_again_met, leaves_grown}
use Rattle.live_growth.proofs.StoodOn.{position_grown, position_under}
use Rattle.live_growth.proofs.insert.part.Goals as goal
use Rattle.live_growth.proofs.insert.part.Goals.{After-split-parted}

pub spare_or_made-spare-requires-clause-spare : goal.spare_or_made-spare-requires-clause-spare
spare_or_made-spare-requires-clause-spare c = λ some. c.spare_for_new-2.ensures c.args.seat.now.view c.requires.ready.spare some

pub returns-then-spare-eq0 : goal.returns-then-spare-eq0
returns-then-spare-eq0 c =
    let s = c.spare_or_made-spare.ensures in
    let g = s.grown in
    record { book = s.seat.0; id = s.seat.1; ready = s.ready; seen = g.seen; parted = tt }

pub split-parted-requires-clause-named : goal.split-parted-requires-clause-named
split-parted-requires-clause-named c =
    let g = c.spare_or_made-spare.ensures.grown in
    (position_grown c.args.seat.now.view c.spare_or_made-spare.new.seat.view c.args.key c.args.position g c.requires.position).named

pub split-parted-requires-clause-leaves : goal.split-parted-requires-clause-leaves
split-parted-requires-clause-leaves c =
    let g = c.spare_or_made-spare.ensures.grown in
    leaves_grown c.args.seat.now.view c.spare_or_made-spare.new.seat.view c.args.mismatch.below c.args.key c.args.mismatch.at c.args.mismatch.byte g c.requires.mismatches.1

pub split-parted-requires-clause-spare : goal.split-parted-requires-clause-spare
split-parted-requires-clause-spare c =
    let some : c.spare_or_made-spare.result ≢ 0 = search rules in
    c.spare_or_made-spare.ensures.sighted (omega (arith, some))

-- the new node was tried
module _ (c : After-split-parted) where
  told : (c.split-parted.new.seat.book ≡ c.args.seat.now.book) × (c.split-parted.new.seat.id ≡ c.args.seat.now.id)
      × IsReady c.split-parted.new.seat.view (record c.spare_or_made-spare.new.room { spare = c.split-parted.new.free_nodes }) × (c.split-parted.new.seat.view.client.seen ≡ c.args.seat.now.view.client.seen)
  told =
      let w = c.spare_or_made-spare.new.seat.view in
      let x = c.split-parted.new.seat.view in
      let s = c.spare_or_made-spare.ensures in
      let e = c.split-parted.ensures in
      let some : c.spare_or_made-spare.result ≢ 0 = search rules in
      (e.book ∙ s.seat.0, e.id ∙ s.seat.1, ready_again_met w x c.spare_or_made-spare.new.room c.split-parted.new.free_nodes c.spare_or_made-spare.result s.ready e.grown e.room (s.sighted (omega (arith, some))) e.free_nodes, e.grown.seen ∙ s.grown.seen)

pub returns-then-not-parted : goal.returns-then-not-parted
returns-then-not-parted c =
    let t = told (goal.at.returns-then-not-parted c).After-split-parted in
    record { book = t.0; id = t.1; ready = t.2; seen = t.3; parted = tt }

pub returns : goal.returns
returns c =
    let v = c.args.seat.now.view in
    let w = c.spare_or_made-spare.new.seat.view in
    let x = c.split-parted.new.seat.view in
    let above = position_grown w x c.args.key c.args.position c.split-parted.ensures.grown (position_grown v w c.args.key c.args.position c.spare_or_made-spare.ensures.grown c.requires.position) in
    let below = c.split-parted.ensures.parted (search rules) in
    let l = c.requires.mismatches.1 in
    let some = l.some_height in
    let lower = l.lower in
    let t = told (goal.at.returns c).After-split-parted in
    record {
      book = t.0;
      id = t.1;
      ready = t.2;
      seen = t.3;
      parted = (position_under x c.args.key c.args.position c.spare_or_made-spare.result c.args.mismatch.at above below.1 (omega (arith, some, lower)) below.0, omega (arith, some, lower));
    }
