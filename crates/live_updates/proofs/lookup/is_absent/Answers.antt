use Rattle.std.proofs.Common.{rules, ◌∙◌, ◌≡◌, Some}
use Rattle.live_reads.proofs.Finds.{keeps_then}
use Rattle.live_reads.proofs.Sights.{sights_kept}
use Rattle.live_updates.proofs.Seeks.{lacks_later, may_sight}
use Rattle.live_updates.proofs.lookup.is_absent.Goals as goal

pub leads_aside-requires-clause-below : goal.leads_aside-requires-clause-below
leads_aside-requires-clause-below g c =
    let v = c.args.seat.now.view in
    let below = c.in-Some-below.below in
    let is : c.args.below ≡ Some below = search rules in
    sights_kept v c.enter.new.seat.view c.enter.ensures.keeps below (may_sight v c.args.below below is c.requires.below)

pub returns-in-Some-below : goal.returns-in-Some-below
returns-in-Some-below g c =
    let v = c.args.seat.now.view in
    let u = c.enter.new.seat.view in
    let e = c.enter.ensures in
    let w = c.leads_aside.new.seat.view in
    let l = c.leads_aside.ensures in
    record { book = l.book ∙ e.book; id = l.id ∙ e.id; keeps = keeps_then v u w e.keeps l.keeps; lacks = lacks_later g.Q.Lookups.lookup c.leads_aside.result v u w e.seen l.lacks }

pub returns-in-None : goal.returns-in-None
returns-in-None g c =
    let v = c.args.seat.now.view in
    let u = c.enter.new.seat.view in
    let e = c.enter.ensures in
    let w = c.has_no_child.new.seat.view in
    let l = c.has_no_child.ensures in
    record { book = l.book ∙ e.book; id = l.id ∙ e.id; keeps = keeps_then v u w e.keeps l.keeps; lacks = lacks_later g.Q.Lookups.lookup c.has_no_child.result v u w e.seen l.lacks }
