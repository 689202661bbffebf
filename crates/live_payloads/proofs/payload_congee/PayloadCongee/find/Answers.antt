use Rattle.live_payloads.specs.Tries.{MissedNeighbour}
use Rattle.live_payloads.proofs.Looked.{knows_on}
use Rattle.live_payloads.proofs.Tried.{tried_on, neighbour_on}
use Rattle.live_payloads.proofs.payload_congee.PayloadCongee.find.Goals as goal

pub returns-in-Ok-clause-found : goal.returns-in-Ok-clause-found
returns-in-Ok-clause-found g c =
    neighbour_on g.K.Word.of_number c.args.up c.args.from c.args.guard.now c.loop.guard c.try_find.new.guard c.in-Ok.found c.loop.invariant.tried c.in-Ok.ensures.found

pub loop-preserved : goal.loop-preserved
loop-preserved g c =
    let k = c.args.guard.now in
    let m = c.loop.guard in
    let n = c.try_find.new.guard in
    record {
      knows = knows_on k m n c.loop.invariant.knows c.try_find.ensures.map;
      tried = tried_on (MissedNeighbour c.args.up c.args.from) k.tickets m.tickets n.tickets c.loop.invariant.tried c.in_default.ensures.busy;
    }
