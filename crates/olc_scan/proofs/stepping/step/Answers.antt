use Rattle.olc_scan.proofs.Reaching.{known_now, scanned_now}
use Rattle.olc_scan.proofs.stepping.step.Goals as goal

pub returns-in-TakeRoot : goal.returns-in-TakeRoot
returns-in-TakeRoot g c = λ env is.
    rw c.stepped.ensures
    (scanned_now g.P.Payload.always_shared g.P.HasMeaning.same_meaning _ c.args.store.now.root c.args.pin _ c.args.course c.args.scan _ c.in-TakeRoot.is c.requires.facts c.requires.goes _ _ _ _ _ _ (c.take_root.ensures env))

pub take_root-requires-clause-facts : goal.take_root-requires-clause-facts
take_root-requires-clause-facts g c = known_now g.P.Payload.always_shared g.P.HasMeaning.same_meaning _ c.args.store.now.root c.args.pin _ c.args.course c.args.scan _ c.in-TakeRoot.is c.requires.facts

pub returns-in-Read : goal.returns-in-Read
returns-in-Read g c = λ env is.
    rw c.stepped-in-Read.ensures
    (scanned_now g.P.Payload.always_shared g.P.HasMeaning.same_meaning _ c.args.store.now.root c.args.pin _ c.args.course c.args.scan _ c.in-Read.is c.requires.facts c.requires.goes _ _ _ _ _ _ (c.read.ensures env is))

pub read-requires-clause-facts : goal.read-requires-clause-facts
read-requires-clause-facts g c = known_now g.P.Payload.always_shared g.P.HasMeaning.same_meaning _ c.args.store.now.root c.args.pin _ c.args.course c.args.scan _ c.in-Read.is c.requires.facts

pub returns-in-Check : goal.returns-in-Check
returns-in-Check g c = λ env is.
    rw c.stepped-in-Check.ensures
    (scanned_now g.P.Payload.always_shared g.P.HasMeaning.same_meaning _ c.args.store.now.root c.args.pin _ c.args.course c.args.scan _ c.in-Check.is c.requires.facts c.requires.goes _ _ _ _ _ _ (c.check.ensures env))

pub check-requires-clause-facts : goal.check-requires-clause-facts
check-requires-clause-facts g c = known_now g.P.Payload.always_shared g.P.HasMeaning.same_meaning _ c.args.store.now.root c.args.pin _ c.args.course c.args.scan _ c.in-Check.is c.requires.facts

pub returns-in-TakeBelow : goal.returns-in-TakeBelow
returns-in-TakeBelow g c = λ env is.
    rw c.stepped-in-TakeBelow.ensures
    (scanned_now g.P.Payload.always_shared g.P.HasMeaning.same_meaning _ c.args.store.now.root c.args.pin _ c.args.course c.args.scan _ c.in-TakeBelow.is c.requires.facts c.requires.goes _ _ _ _ _ _ (c.take_below.ensures env))

pub take_below-requires-clause-facts : goal.take_below-requires-clause-facts
take_below-requires-clause-facts g c = known_now g.P.Payload.always_shared g.P.HasMeaning.same_meaning _ c.args.store.now.root c.args.pin _ c.args.course c.args.scan _ c.in-TakeBelow.is c.requires.facts

pub returns-in-CheckAbove : goal.returns-in-CheckAbove
returns-in-CheckAbove g c = λ env is.
    rw c.stepped-in-CheckAbove.ensures
    (scanned_now g.P.Payload.always_shared g.P.HasMeaning.same_meaning _ c.args.store.now.root c.args.pin _ c.args.course c.args.scan _ c.in-CheckAbove.is c.requires.facts c.requires.goes _ _ _ _ _ _ (c.check_above.ensures env))

pub check_above-requires-clause-facts : goal.check_above-requires-clause-facts
check_above-requires-clause-facts g c = known_now g.P.Payload.always_shared g.P.HasMeaning.same_meaning _ c.args.store.now.root c.args.pin _ c.args.course c.args.scan _ c.in-CheckAbove.is c.requires.facts
