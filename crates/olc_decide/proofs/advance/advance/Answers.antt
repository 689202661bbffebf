use Rattle.std.proofs.Common.{refl}
use Rattle.olc_decide.proofs.Advances.{known_at, reads_at}
use Rattle.olc_decide.proofs.advance.advance.Goals as goal

pub take_root-requires-clause-facts : goal.take_root-requires-clause-facts
take_root-requires-clause-facts g c = known_at g.P.Payload.always_shared g.P.HasMeaning.same_meaning _ c.args.store.now.root c.args.pin _ _ _ c.in-TakeRoot.is c.requires.facts

pub returns-in-TakeRoot : goal.returns-in-TakeRoot
returns-in-TakeRoot g c = reads_at g.P.Payload.always_shared g.P.HasMeaning.same_meaning _ c.args.store.now.root c.args.pin _ _ _ c.in-TakeRoot.is _ _ _ _ (c.take_root.ensures.reads c.args.env)

pub read-requires-clause-facts : goal.read-requires-clause-facts
read-requires-clause-facts g c = known_at g.P.Payload.always_shared g.P.HasMeaning.same_meaning _ c.args.store.now.root c.args.pin _ _ _ c.in-Read.is c.requires.facts

pub returns-in-Read : goal.returns-in-Read
returns-in-Read g c = reads_at g.P.Payload.always_shared g.P.HasMeaning.same_meaning _ c.args.store.now.root c.args.pin _ _ _ c.in-Read.is _ _ _ _ (c.read.ensures.reads c.args.env refl)

pub read-requires-clause-point : goal.read-requires-clause-point
read-requires-clause-point g c = (known_at g.P.Payload.always_shared g.P.HasMeaning.same_meaning _ c.args.store.now.root c.args.pin _ _ _ c.in-Read.is c.requires.facts).at.0.opened.point

pub check-requires-clause-facts : goal.check-requires-clause-facts
check-requires-clause-facts g c = known_at g.P.Payload.always_shared g.P.HasMeaning.same_meaning _ c.args.store.now.root c.args.pin _ _ _ c.in-Check.is c.requires.facts

pub returns-in-Check : goal.returns-in-Check
returns-in-Check g c = reads_at g.P.Payload.always_shared g.P.HasMeaning.same_meaning _ c.args.store.now.root c.args.pin _ _ _ c.in-Check.is _ _ _ _ (c.check.ensures.reads c.args.env)

pub take_below-requires-clause-facts : goal.take_below-requires-clause-facts
take_below-requires-clause-facts g c = known_at g.P.Payload.always_shared g.P.HasMeaning.same_meaning _ c.args.store.now.root c.args.pin _ _ _ c.in-TakeBelow.is c.requires.facts

pub returns-in-TakeBelow : goal.returns-in-TakeBelow
returns-in-TakeBelow g c = reads_at g.P.Payload.always_shared g.P.HasMeaning.same_meaning _ c.args.store.now.root c.args.pin _ _ _ c.in-TakeBelow.is _ _ _ _ (c.take_below.ensures.reads c.args.env)

pub check_above-requires-clause-facts : goal.check_above-requires-clause-facts
check_above-requires-clause-facts g c = known_at g.P.Payload.always_shared g.P.HasMeaning.same_meaning _ c.args.store.now.root c.args.pin _ _ _ c.in-CheckAbove.is c.requires.facts

pub returns-in-CheckAbove : goal.returns-in-CheckAbove
returns-in-CheckAbove g c = reads_at g.P.Payload.always_shared g.P.HasMeaning.same_meaning _ c.args.store.now.root c.args.pin _ _ _ c.in-CheckAbove.is _ _ _ _ (c.check_above.ensures.reads c.args.env)

pub answer-requires-clause-facts : goal.answer-requires-clause-facts
answer-requires-clause-facts g c = known_at g.P.Payload.always_shared g.P.HasMeaning.same_meaning _ c.args.store.now.root c.args.pin _ _ _ c.in-Answer.is c.requires.facts

pub returns-in-Answer : goal.returns-in-Answer
returns-in-Answer g c = reads_at g.P.Payload.always_shared g.P.HasMeaning.same_meaning _ c.args.store.now.root c.args.pin _ _ _ c.in-Answer.is _ _ _ _ (c.answer.ensures.reads c.args.env refl)

pub confirm-requires-clause-facts : goal.confirm-requires-clause-facts
confirm-requires-clause-facts g c = known_at g.P.Payload.always_shared g.P.HasMeaning.same_meaning _ c.args.store.now.root c.args.pin _ _ _ c.in-Confirm.is c.requires.facts

pub returns-in-Confirm : goal.returns-in-Confirm
returns-in-Confirm g c = reads_at g.P.Payload.always_shared g.P.HasMeaning.same_meaning _ c.args.store.now.root c.args.pin _ _ _ c.in-Confirm.is _ _ _ _ (c.confirm.ensures.reads c.args.env)

pub step-requires-clause-facts : goal.step-requires-clause-facts
step-requires-clause-facts g c = known_at g.P.Payload.always_shared g.P.HasMeaning.same_meaning _ c.args.store.now.root c.args.pin _ _ _ c.in-Scan.is c.requires.facts

pub returns-in-Scan : goal.returns-in-Scan
returns-in-Scan g c = reads_at g.P.Payload.always_shared g.P.HasMeaning.same_meaning _ c.args.store.now.root c.args.pin _ _ _ c.in-Scan.is _ _ _ _ (c.step.ensures c.args.env refl)

pub seek-requires-clause-facts : goal.seek-requires-clause-facts
seek-requires-clause-facts g c = known_at g.P.Payload.always_shared g.P.HasMeaning.same_meaning _ c.args.store.now.root c.args.pin _ _ _ c.in-Seek.is c.requires.facts

pub returns-in-Seek : goal.returns-in-Seek
returns-in-Seek g c = reads_at g.P.Payload.always_shared g.P.HasMeaning.same_meaning _ c.args.store.now.root c.args.pin _ _ _ c.in-Seek.is _ _ _ _ (c.seek.ensures c.args.env refl)
