use Rattle.std.proofs.Common.{rules}
use Rattle.live_owners.specs.Owners.{LookedInVain, FindsOwner}
use Rattle.live_owners.proofs.Looked.{knows_on, keeps_on, vain_on, gets_on}
use Rattle.live_owners.proofs.map.LiveOwners.get.Goals as goal

pub returns-in-Some-clause-made : goal.returns-in-Some-clause-made
returns-in-Some-clause-made c =
    let found = c.in-Some.found in
    let made : FindsOwner c.args.key c.loop.handle.tickets found c.look_up.new.handle = search rules in
    gets_on c.args.key c.args.handle.now c.loop.handle c.look_up.new.handle found c.loop.invariant.2 made

pub returns-in-Some-clause-map : goal.returns-in-Some-clause-map
returns-in-Some-clause-map c = knows_on c.args.handle.now c.loop.handle c.look_up.new.handle c.loop.invariant.0 c.look_up.ensures.map

pub loop-preserved : goal.loop-preserved
loop-preserved c =
    let k = c.args.handle.now in
    let m = c.loop.handle in
    let n = c.look_up.new.handle in
    let vain : LookedInVain c.args.key m.tickets n.tickets = search rules in (
      knows_on k m n c.loop.invariant.0 c.look_up.ensures.map,
      keeps_on k.owners m.owners n.owners c.loop.invariant.1 c.look_up.ensures.retired,
      vain_on c.args.key k.tickets m.tickets n.tickets c.loop.invariant.2 vain,
    )
