use Rattle.live_owners.proofs.Looked.{knows_on}
use Rattle.live_owners.proofs.Steps.{back_on}
use Rattle.live_owners.proofs.map.LiveOwners.get_or_insert.Goals as goal

pub returns-in-Ok-clause-map : goal.returns-in-Ok-clause-map
returns-in-Ok-clause-map c = knows_on c.args.handle.now c.get.new.handle c.add.new.handle c.get.ensures.map c.add.ensures.map

pub returns-in-Err-add-clause-map : goal.returns-in-Err-add-clause-map
returns-in-Err-add-clause-map c = knows_on c.args.handle.now c.get.new.handle c.add.new.handle c.get.ensures.map c.add.ensures.map

pub returns-in-Err-add-clause-back : goal.returns-in-Err-add-clause-back
returns-in-Err-add-clause-back c =
    let k = c.args.handle.now.owners in
    let m = c.get.new.handle.owners in
    back_on k m c.add.new.handle.owners c.args.owner c.in-Err-add.refused.1 c.get.ensures.map.2 c.get.ensures.retired c.in-Err-add.ensures.back
