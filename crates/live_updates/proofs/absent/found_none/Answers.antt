use Rattle.std.proofs.Common.{rules, sym, refl, Some, None, ◌≡◌, ◌∙◌}
use Rattle.live_nodes.specs.Views.{ask, got}
use Rattle.live_reads.proofs.Finds.{answers_by}
use Rattle.live_growth.specs.Calls.{IsReady}
use Rattle.live_growth.proofs.Ready.{ready_kept, ready_last, made_call}
use Rattle.live_updates.specs.declared.lookup.Site.TheVariants as sites
use Rattle.live_updates.specs.inner.Lookups.{Lookup, lookup_of, absence}
use Rattle.live_updates.proofs.Ended.{absence_lookup}
use Rattle.live_updates.proofs.Made.{no_more, at_none}
use Rattle.live_updates.proofs.absent.found_none.Goals as goal
use Rattle.live_updates.proofs.absent.found_none.Goals.{After-seek}

-- the key was looked for
module _ (c : After-seek) where
  abbrev looked : Lookup
  looked = lookup_of c.loop.guard-inside.seat.id c.args.key (absence c.loop.guard-inside.seat.id c.args.key)

  ready : IsReady c.seek.new.seat.view (record c.loop.guard-inside.room { last = c.seek.new.last })
  ready = ready_last c.seek.new.seat.view c.loop.guard-inside.room c.seek.new.last (ready_kept c.loop.guard-inside.seat.view c.seek.new.seat.view c.loop.guard-inside.room c.loop.invariant.ready c.seek.ensures.keeps) c.seek.ensures.last

pub seek-requires-clause-legal : goal.seek-requires-clause-legal
seek-requires-clause-legal c = absence_lookup c.loop.guard-inside.seat.id c.args.key

pub invariant_of-guard-in-Some-Absent : goal.invariant_of-guard-in-Some-Absent
invariant_of-guard-in-Some-Absent c = ready (goal.at.invariant_of-guard-in-Some-Absent c).After-seek

pub returns-in-Some-Absent-clause-absent : goal.returns-in-Some-Absent-clause-absent
returns-in-Some-Absent-clause-absent c = λ _.
    let i = c.loop.invariant in
    let v = c.loop.guard-inside.seat.view in
    let w = c.seek.new.seat.view in
    let t = c.seek.ensures in
    let key = c.args.key in
    let absent : c.seek.result ≡ Some sites.Absent = search rules in
    let answers = at_none (looked (goal.at.returns-in-Some-Absent-clause-absent c).After-seek) c.seek.new.seat.book c.seek.result v w absent t.sought in
    made_call c.args.guard.now c.seek.new.seat.book c.seek.new.seat.id v.client.seen w (λ x. got (ask x key 0 0) None) (λ x. refl) (t.book ∙ i.book) (t.id ∙ i.id) i.seen (answers_by c.loop.guard-inside.seat.id c.seek.new.seat.id key None v w (sym t.id) answers)

pub invariant_of-guard-in-Some-At : goal.invariant_of-guard-in-Some-At
invariant_of-guard-in-Some-At c = ready (goal.at.invariant_of-guard-in-Some-At c).After-seek

pub loop-preserved : goal.loop-preserved
loop-preserved c =
    let a = (goal.at.loop-preserved c).After-seek in
    let i = c.loop.invariant in let t = c.seek.ensures in
    record { book = t.book ∙ i.book; id = t.id ∙ i.id; seen = no_more (looked a) c.seek.new.seat.book c.seek.result c.loop.guard-inside.seat.view c.seek.new.seat.view (search rules) t.sought ∙ i.seen; ready = ready a }
